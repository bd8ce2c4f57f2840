-- `hungarian_claim::lower_column`: one more entry lowers its row, by the laws of Minima. An entry's row is one of the n.
use Rattle.std.proofs.Common.{arith}
use Rattle.std.proofs.Math.ListN.{length-set}
use Rattle.hungarian_claim.proofs.Words.{entry_in}
use Rattle.hungarian_claim.proofs.Minima.{lowering_turn, lowering_end}
use Rattle.hungarian_claim.proofs.lower_column.Goals as goal

pub bounds-row_idx-k : goal.bounds-row_idx-k
bounds-row_idx-k c = (entry_in _ _ _ c.requires.fact_1.sound c.requires.fact_2 c.loop-k-test.true).0

pub bounds-work-least : goal.bounds-work-least
bounds-work-least c =
    let inside = entry_in _ _ _ c.requires.fact_1.sound c.requires.fact_2 c.loop-k-test.true in omega arith

pub bounds-cost-k : goal.bounds-cost-k
bounds-cost-k c =
    let inside = entry_in _ _ _ c.requires.fact_1.sound c.requires.fact_2 c.loop-k-test.true in omega arith

pub bounds-cost-k-in-loop-k : goal.bounds-cost-k-in-loop-k
bounds-cost-k-in-loop-k c =
    let inside = entry_in _ _ _ c.requires.fact_1.sound c.requires.fact_2 c.loop-k-test.true in omega arith

pub bounds-work-least-in-loop-k : goal.bounds-work-least-in-loop-k
bounds-work-least-in-loop-k c =
    let inside = entry_in _ _ _ c.requires.fact_1.sound c.requires.fact_2 c.loop-k-test.true in
    simp length-set (omega arith)

pub loop-k-preserved : goal.loop-k-preserved
loop-k-preserved c =
    lowering_turn c.requires.fact_1 c.requires.fact_2 c.loop-k.invariant c.loop-k-test.true _ _ _
    c.lower-lowest.ensures c.picked.ensures c.picked-in-loop-k.ensures

pub returns : goal.returns
returns c = lowering_end c.requires.fact_1 c.requires.fact_2 c.loop-k.invariant c.loop-k-test.false
