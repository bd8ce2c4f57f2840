-- `put_lines` meets its contract: each line after those before it.
use Rattle.std.proofs.Common.{refl, suc, arith}
use Rattle.text_report.specs.Report.{pair_lines}
use Rattle.text_report.proofs.Writes.{and_then, restated}
use Rattle.text_report.proofs.Lines.{line_more, line_length, lines_rise}
use Rattle.text_report.proofs.put_lines.Goals as goal

pub loop-k-init : goal.loop-k-init
unfolding pair_lines
loop-k-init c = record { bytes = refl; place = omega arith }

pub put_line-next-requires-clause-v_in_bounds : goal.put_line-next-requires-clause-v_in_bounds
put_line-next-requires-clause-v_in_bounds c =
    let a = c.args in
    let k = c.loop-k.k in
    omega (arith, c.loop-k.auto.out, line_length a.perm.now a.u.now a.v.now k, lines_rise a.perm.now a.u.now a.v.now (suc k) a.n (omega arith))

pub loop-k-preserved : goal.loop-k-preserved
loop-k-preserved c =
    let a = c.args in
    restated (line_more a.perm.now a.u.now a.v.now c.loop-k.k) refl (and_then c.loop-k.invariant c.put_line-next.ensures)
