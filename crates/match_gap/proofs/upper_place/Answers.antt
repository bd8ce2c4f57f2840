-- `upper_place` meets its contract: a place rounded up is the place of the negation, rounded down, seen from zero.
use Rattle.std.proofs.Common.{ℕ, ◌-◌, ◌^◌, ap, ◌∙◌, arith}
use Rattle.match_gap.proofs.Places.{neg_in, upper_by_lower}
use Rattle.match_gap.proofs.upper_place.Goals as goal

pub lower_place-requires-clause-fact_1 : goal.lower_place-requires-clause-fact_1
lower_place-requires-clause-fact_1 c = neg_in c.requires.fact_1

pub returns : goal.returns
returns c = (
  ap (λ (r : ℕ). 2 ^ 50 - r) c.lower_place.ensures.0 ∙ upper_by_lower c.requires.fact_1,
  omega arith,
)
