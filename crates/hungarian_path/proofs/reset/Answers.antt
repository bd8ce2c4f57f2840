-- `hungarian_path::reset`: one more row is put back, and all rows are, by Resets.
use Rattle.hungarian_path.proofs.Lists.{lent_words}
use Rattle.hungarian_path.proofs.Resets.{reset_turn, reset_end}
use Rattle.hungarian_path.proofs.reset.Goals as goal

pub loop-row-preserved : goal.loop-row-preserved
loop-row-preserved c = reset_turn c.loop-row.invariant c.loop-row-test.true

pub returns : goal.returns
returns c =
    let a = c.args in
    reset_end c.loop-row.invariant a.n a.touched a.work.now (lent_words 6 a.n a.touched a.work.now c.requires.room)
    c.loop-row-test.false
