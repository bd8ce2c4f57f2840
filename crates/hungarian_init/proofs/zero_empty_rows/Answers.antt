-- `hungarian_init::zero_empty_rows`: one more dual is zeroed or stays, by the laws of Preparing.
use Rattle.std.proofs.Common.{sym, ◌∙◌, arith}
use Rattle.std.proofs.Math.Seq.{set-get_or}
use Rattle.std.specs.Float.Ieee.{nan}
use Rattle.hungarian_init.proofs.Preparing.{zeroed_low, zeroed_high, zeroed_done}
use Rattle.hungarian_init.proofs.zero_empty_rows.Goals.{then-x, else-x}
use Rattle.hungarian_init.proofs.zero_empty_rows.Goals as goal

pub loop-x-preserved : goal.loop-x-preserved
loop-x-preserved c =
    let i = c.loop-x.x-index in
    let u = c.loop-x.x-items in
    elim c.if-x.branch [
      | then-x w ↦ rw w.x-items-is (zeroed_high i u (omega arith) w.if-x.true ∙ c.loop-x.invariant)
      | else-x w ↦ rw (w.x-items-is, set-get_or u i nan) (zeroed_low i u (omega arith) w.if-x.false ∙ c.loop-x.invariant)
    ]

pub returns : goal.returns
returns c = sym (zeroed_done c.loop-x.x-index c.loop-x.x-items (omega arith)) ∙ c.loop-x.invariant
