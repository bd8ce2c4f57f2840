-- `hungarian_search::apply_path`: by cases of the answer, with the laws of Applies.
use Rattle.std.proofs.Common.{ap}
use Rattle.hungarian_path.specs.inner.StepsSearch.{found_of}
use Rattle.hungarian_search.proofs.Applies.{apply_none, raise_asks, apply_along}
use Rattle.hungarian_search.proofs.apply_path.Goals as goal

pub returns-in_default : goal.returns-in_default
returns-in_default c = rw c.in_default.is (apply_none _ _ _ _ _ _ _)

pub flip-requires-clause-fact_1 : goal.flip-requires-clause-fact_1
flip-requires-clause-fact_1 c = (c.requires.way _ _ _ (ap found_of c.in-Some.is)).0

pub flip-requires-clause-fact_2 : goal.flip-requires-clause-fact_2
flip-requires-clause-fact_2 c = (c.requires.way _ _ _ (ap found_of c.in-Some.is)).1

pub raise-requires-clause-fact_3 : goal.raise-requires-clause-fact_3
raise-requires-clause-fact_3 c =
    raise_asks _ _ _ _ _ _ _ _ c.requires _ _ _ (ap found_of c.in-Some.is) _ c.flip.ensures

pub returns : goal.returns
returns c =
    apply_along _ _ _ _ _ _ _ _ c.requires _ _ _ (ap found_of c.in-Some.is) _ c.flip.ensures _ c.raise.ensures
