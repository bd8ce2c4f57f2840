-- `put_match` meets its contract: the three parts of the text one after the other, which fit.
use Rattle.std.proofs.Common.{arith}
use Rattle.text_report.specs.Report.{match_text}
use Rattle.text_report.proofs.Writes.{and_then, from_start}
use Rattle.text_report.proofs.Fit.{parts_within}
use Rattle.text_report.proofs.put_match.Goals as goal

pub put_matched_line-after_first-requires : goal.put_matched_line-after_first-requires
put_matched_line-after_first-requires c =
    let a = c.args in
    omega (
      arith,
      parts_within a.n a.perm.now a.u.now a.v.now a.counts.now c.requires.small (λ k. (c.type_inv.perm k).fits)
          c.requires.rows c.requires.columns (λ k. (c.type_inv.counts k).fits),
    )

pub put_lines-after_pairs-requires-clause-v_in_bounds : goal.put_lines-after_pairs-requires-clause-v_in_bounds
put_lines-after_pairs-requires-clause-v_in_bounds c =
    let a = c.args in
    omega (
      arith,
      parts_within a.n a.perm.now a.u.now a.v.now a.counts.now c.requires.small (λ k. (c.type_inv.perm k).fits)
          c.requires.rows c.requires.columns (λ k. (c.type_inv.counts k).fits),
    )

pub put_counts-requires-clause-counts_in_bounds : goal.put_counts-requires-clause-counts_in_bounds
put_counts-requires-clause-counts_in_bounds c =
    let a = c.args in
    omega (
      arith,
      parts_within a.n a.perm.now a.u.now a.v.now a.counts.now c.requires.small (λ k. (c.type_inv.perm k).fits)
          c.requires.rows c.requires.columns (λ k. (c.type_inv.counts k).fits),
    )

pub returns : goal.returns
unfolding match_text
returns c =
    let a = c.args in
    let done = from_start (and_then (and_then c.put_matched_line-after_first.ensures c.put_lines-after_pairs.ensures) c.put_counts.ensures) in
    record {
      text = done.0;
      length = done.1;
      fits = omega (
        arith,
        parts_within a.n a.perm.now a.u.now a.v.now a.counts.now c.requires.small (λ k. (c.type_inv.perm k).fits)
            c.requires.rows c.requires.columns (λ k. (c.type_inv.counts k).fits),
      );
    }
