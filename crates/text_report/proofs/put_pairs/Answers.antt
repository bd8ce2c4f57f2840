-- `put_pairs` meets its contract: the banner, the size and the pairs one after the other, which fit.
use Rattle.std.proofs.Common.{arith}
use Rattle.text_report.specs.Pairs.{pairs_text}
use Rattle.text_report.proofs.Writes.{and_then, from_start}
use Rattle.text_report.proofs.Pairs.{text_within}
use Rattle.text_report.proofs.put_pairs.Goals as goal

pub put_pattern_size-after_size-requires : goal.put_pattern_size-after_size-requires
put_pattern_size-after_size-requires c =
    omega (arith, text_within c.args.n c.args.pairs c.args.perm.now c.requires.small c.ranges.pairs.fits (λ k h. (c.type_inv.perm k).fits))

pub put_columns-requires-clause-perm_in_bounds : goal.put_columns-requires-clause-perm_in_bounds
put_columns-requires-clause-perm_in_bounds c =
    omega (arith, text_within c.args.n c.args.pairs c.args.perm.now c.requires.small c.ranges.pairs.fits (λ k h. (c.type_inv.perm k).fits))

pub returns : goal.returns
unfolding pairs_text
returns c =
    let done = from_start (and_then (and_then c.put_bytes-after_banner.ensures c.put_pattern_size-after_size.ensures) c.put_columns.ensures) in
    record {
      text = done.0;
      length = done.1;
      fits = omega (arith, text_within c.args.n c.args.pairs c.args.perm.now c.requires.small c.ranges.pairs.fits (λ k h. (c.type_inv.perm k).fits));
    }
