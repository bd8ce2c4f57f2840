-- `hungarian_search::run`: the first n doubles of the work slice are the distances, the arrays are prepared and all columns have their turn, by Starts.
use Rattle.std.proofs.Common.{arith}
use Rattle.hungarian_search.proofs.Starts.{few, slots, start_stands, end_searched}
use Rattle.hungarian_search.proofs.run.Goals as goal

pub prepare-requires-clause-fact_4 : goal.prepare-requires-clause-fact_4
prepare-requires-clause-fact_4 c = few _ _ _ _ _ c.requires.fact_1 (λ k h. c.type_inv.cost k)

pub heap_made-made-requires : goal.heap_made-made-requires
heap_made-made-requires c =
    omega (
      arith,
      slots _ _ _ _ _ c.requires.fact_1 (λ k h. c.type_inv.cost k),
      few _ _ _ _ _ c.requires.fact_1 (λ k h. c.type_inv.cost k),
    )

pub columns-requires : goal.columns-requires
columns-requires c =
    start_stands _ _ _ _ _ c.requires.fact_1 (λ k h. c.type_inv.cost k) _ _ _ _ c.prepare.ensures c.prepare.auto.work
    c.requires.fact_3 _ c.heap_made-made.ensures

pub returns : goal.returns
returns c = end_searched _ _ _ _ _ _ _ c.columns.ensures
