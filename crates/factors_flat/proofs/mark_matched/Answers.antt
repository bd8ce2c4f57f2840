-- `mark_matched`: one more index is marked, and in the end all are.
use Rattle.std.proofs.Common.{ap, ◌∙◌, arith}
use mir.Val.{bool_byte}
use Rattle.factors_flat.specs.Flat.{matched_by}
use Rattle.factors_flat.proofs.Ends.{tested, marked_next, marked_last, byte_bit}
use Rattle.factors_flat.proofs.mark_matched.Goals as goal

pub loop-i-preserved : goal.loop-i-preserved
loop-i-preserved c =
    let a = c.args in
    let i = c.loop-i.i in
    let mark = ap bool_byte (tested _ _ _ _ _ c.loop-i.invariant c.loop-i-test.true) ∙ byte_bit (matched_by a.n a.perm.now a.cmax.now i) in
    marked_next _ _ _ _ _ c.loop-i.invariant c.loop-i-test.true (rw c.is_finite-bounded.ensures mark)

pub returns : goal.returns
returns c = marked_last (omega arith) c.loop-i.invariant
