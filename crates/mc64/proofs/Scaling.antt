-- The match of a built graph and its factors: the match leaves all that the factors require, since it has rows below n or none.
use mathlib.Core.Path.{◌≡◌, refl, ap, ◌∙◌}
use mathlib.Core.Bool.{true, or-true}
use mathlib.Core.Logic.{◌⊎◌, ⊎_elim}
use mathlib.Core.List.{List}
use Prim.Native.Nat.{ℕ, ◌<◌, ◌≤◌}
use native.Mathlib.Omega.{arith}
use borrow.Author.Tests.{eq-eqb, lt-ltb}
use lib.Dec.{eqb}
use lib.Ieee.{Float}
use lib.ListN.{length, get_or, replicate}
use Rattle.limits.specs.Limits.{none}
use Rattle.matching.specs.Match.{match_of}
use Rattle.hungarian.specs.Graph.{CostGraph}
use Rattle.hungarian.specs.Accepted.{Accepted, Doubles}
use Rattle.hungarian.proofs.Accepts.{near_setting}
use Rattle.hungarian.proofs.Theorems.{match_largest}
use Rattle.hungarian.specs.declared.Counts.{Counts}
use Rattle.hungarian_match.specs.Call as Match
use Rattle.hungarian_match.specs.inner.Steps.{Solved}
use Rattle.hungarian_match.proofs.Callers.{solved_slices}
use Rattle.factors_mc64.specs.declared.Scaled.{Scaled}
use Rattle.factors_mc64.specs.Factors.{symmetric_factors}
use Rattle.factors_mc64.specs.Calls.{Slices, slices, row_or_none, applied_or_partial}
use Rattle.factors_mc64.specs.inner.Steps as Factors
use Rattle.mc64.specs.inner.Steps.{Ready, Scales}

row_fine : (n row : ℕ) → (row ≡ none) ⊎ (row < n) → row_or_none n row ≡ true
row_fine n row h = ⊎_elim (λ (e : row ≡ none). rw (eq-eqb row none e) refl) (λ (l : row < n). rw (lt-ltb row n l) (or-true (eqb row none))) h

module _ {g : CostGraph} {cmax : List Float} {s : Match.Slices} {f : Slices} (R : Ready g cmax s f) (d : Doubles g) {after : Match.Slices}
    {m : Counts} (S : Solved g s after m) where
  accepted : Accepted g
  accepted = R.solvable.accepted

  few : g.pattern.n ≤ 4096
  few = (near_setting g accepted d).few_columns

  -- the matched count is a u32
  pub count_small : m.matched ≤ 4096
  count_small = omega (arith, S.matched, few, (match_largest g accepted d).count)

  pub few_matched : m.matched ≤ g.pattern.n
  few_matched = rw S.matched (match_largest g accepted d).count

  -- what the factors ask for
  pub factors_ready : length after.perm ≡ g.pattern.n → length after.u ≡ g.pattern.n → length after.v ≡ g.pattern.n
      → Factors.Accepted g.pattern.n (match_of after.perm after.u after.v cmax) f
  factors_ready p u v = record {
    small = few;
    perms = p;
    row_duals = u;
    column_duals = v;
    largest = R.largest;
    factors = R.factors;
    words = R.marks;
    rows = λ k h. row_fine g.pattern.n (get_or after.perm k 0) (rw S.perm ((match_largest g accepted d).rows k h));
  }

  pub complete : {r : Scaled} {factored : Slices} → r ≡ applied_or_partial g.pattern.n m.matched
      → factored ≡ slices (symmetric_factors g.pattern.n (match_of after.perm after.u after.v cmax)) (replicate g.pattern.n 0)
      → Scales g cmax s after factored r
  complete a e = record {
    answered = a ∙ ap (applied_or_partial g.pattern.n) S.matched;
    pairs = solved_slices S;
    scaled = e ∙ (λ z. slices (symmetric_factors g.pattern.n (match_of (S.perm z) (S.u z) (S.v z) cmax)) (replicate g.pattern.n 0));
  }
