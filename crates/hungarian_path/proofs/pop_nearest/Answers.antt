-- `hungarian_path::pop_nearest`: what the heap's `pop` promises and two stores, by Popping.
use Rattle.std.proofs.Common.{arith}
use Rattle.hungarian_path.proofs.Popping.{code_asks, code_row, code_popped}
use Rattle.hungarian_path.proofs.pop_nearest.Goals as goal

pub pop-q-requires-clause-fact_1 : goal.pop-q-requires-clause-fact_1
pop-q-requires-clause-fact_1 c = (code_asks _ _ _ _ _ c.requires).0

pub pop-q-requires-clause-fact_3 : goal.pop-q-requires-clause-fact_3
pop-q-requires-clause-fact_3 c = (code_asks _ _ _ _ _ c.requires).2

pub bounds-pos-q : goal.bounds-pos-q
bounds-pos-q c =
    omega (arith, code_row _ _ _ _ _ c.requires _ _ _ _ c.pop-q.ensures, c.pop-q.auto.pos, c.requires.places)

pub returns : goal.returns
returns c = code_popped _ _ _ _ _ c.requires _ _ _ _ c.pop-q.ensures c.pop-q.auto.pos
