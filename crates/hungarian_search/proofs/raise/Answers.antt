-- `hungarian_search::raise`: one more dual is raised, and all are, by Raises.
use Rattle.hungarian_path.proofs.Lists.{lent_words}
use Rattle.hungarian_search.proofs.Raises.{raise_turn, raise_end}
use Rattle.hungarian_search.proofs.raise.Goals as goal

pub loop-row-preserved : goal.loop-row-preserved
loop-row-preserved c = raise_turn c.loop-row.invariant c.loop-row-test.true

pub returns : goal.returns
returns c =
    let a = c.args in
    rw (← lent_words 7 a.n a.popped a.work.now c.requires.fact_2) (raise_end c.loop-row.invariant c.loop-row-test.false)
