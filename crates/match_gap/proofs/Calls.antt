-- The call: its tests establish what the sum requires, and what it answers keeps the contract's clauses.
use mathlib.Core.Path.{◌≡◌, refl, sym, ap, ◌∙◌, subst}
use mathlib.Core.Logic.{◌≢◌}
use mathlib.Core.Bool.{true}
use mathlib.Core.List.{List, [], ◌∷◌}
use Prim.Native.Nat.{ℕ, zero, suc, ◌-◌, ◌^◌, ◌<◌}
use native.Mathlib.Omega.{arith}
use lib.Dec.{T}
use lib.Pow.{pow_pos}
use lib.Ieee.{binary64, fits}
use Rattle.refusal.specs.Listed.{listed, OneOf, gap_numbers}
use Rattle.slices.specs.Outcome.{Outcome, outcome_is, refusing, as_number}
use Rattle.slices.proofs.Refusing.{refused_is}
use Rattle.float64.specs.Number.{Number, units_per_one}
use Rattle.cost_limit.specs.Range.{cost_limit}
use Rattle.hungarian.specs.Graph.{CostGraph, cost_of}
use Rattle.hungarian.specs.Accepted.{Doubles}
use Rattle.hungarian.specs.inner.Setting.{Setting}
use Rattle.hungarian.proofs.Accepts.{near_setting}
use Rattle.match_check.specs.Check.{Claim, check_fault}
use Rattle.match_check.specs.Call.{Certified}
use Rattle.match_check.proofs.Certificate.{Doubled}
use Rattle.match_check.proofs.Pairing.{complete}
use Rattle.match_check.proofs.Calling.{ready, fit, graph_accepted, promises}
use Rattle.match_gap.specs.Rounding.{step}
use Rattle.match_gap.specs.Gap.{gap_of, gap_fault}
use Rattle.match_gap.specs.Call.{gap_outcome, NearLeast, Near, NoGap, Promises}
use Rattle.match_gap.specs.inner.Scans.{AllIn, Measurable}
use Rattle.match_gap.proofs.Near.{Few, near_least}
use Rattle.match_gap.proofs.Exact.{no_gap}
use Rattle.match_gap.proofs.Faults.{Passed, passed, all_in, gap_listed}

module _ (digits : ℕ) (g : CostGraph) (c : Claim) (gap : List ℕ) (d : (k : ℕ) → T (fits binary64 (cost_of g k))) (b : Doubled c) where
  doubles : Doubles g
  doubles k h = d k

  module _ (z : gap_fault digits g c gap ≡ 0) where
    P : Passed digits g c gap
    P = passed digits g c gap z

    costs : AllIn (1074 - digits) g.cost
    costs = all_in digits g.cost d P.costs

    rows : AllIn (1074 - digits) c.u
    rows = all_in digits c.u b.rows P.rows

    columns : AllIn (1074 - digits) c.v
    columns = all_in digits c.v b.columns P.columns

    pub measurable : Measurable (1074 - digits) g.pattern.n g.pattern.col_ptr g.pattern.row_idx g.cost c
    measurable = record { lists = ready g c P.graph; units = omega arith; costs = costs; rows = rows; columns = columns }

    S : Setting Number units_per_one (cost_limit g.pattern.n) g
    S = near_setting g (graph_accepted g c P.graph) doubles

    few : Few (step digits) g c
    unfolding step
    few = record {
      costs = λ k h. (costs k (omega (arith, S.cost_count, h))).few;
      rows = λ i h. (rows i (omega (arith, (fit g c P.graph).long.row_duals, h))).few;
      columns = λ j h. (columns j (omega (arith, (fit g c P.graph).long.column_duals, h))).few;
    }

    positive : 0 < step digits
    unfolding step
    positive = pow_pos (1074 - digits)

    near_enough : NearLeast digits (gap_of (step digits) g c) g c
    near_enough = let full = complete g.pattern c.perm S.columns P.pairing in
        record { complete = full; near = near_least (step digits) positive g c S few full }

    certified : check_fault g c ≡ 0 → Certified g c
    certified e = (promises g c doubles b (sym e)).exactly.0 refl

    none_left : check_fault g c ≡ 0 → gap_of (step digits) g c ≡ 0
    none_left e = no_gap digits P.digits_few g c (certified e) few

  -- ---- the clauses, of any answer
  module _ {r : ℕ} {after : List ℕ} (o : outcome_is r after ≡ gap_outcome digits g c gap) where
    pub all_promised : Promises digits g c gap r after
    unfolding gap_outcome listed
    all_promised =
        let p = go (gap_fault digits g c gap) refl o in
        record { outcome = o; number = p.0; near = p.1; none = p.2 }
      where
        go : (f : ℕ) → gap_fault digits g c gap ≡ f → outcome_is r after ≡ refusing as_number f (outcome_is 0 (gap_of (step digits) g c ∷ [])) gap
            → OneOf gap_numbers r × Near digits g c r after × NoGap g c r after
        go zero z e =
            let a : r ≡ 0 = ap (λ (x : Outcome ℕ (List ℕ)). x.answer) e in
            let l : after ≡ gap_of (step digits) g c ∷ [] = ap (λ (x : Outcome ℕ (List ℕ)). x.after) e in
            rw (a, l) (refl, λ n. near_enough z, λ n k. none_left z k)
        go (suc f) z e =
            let a : r ≡ suc f = ap (λ (x : Outcome ℕ (List ℕ)). x.answer) e in
            rw a (
              subst (λ (m : ℕ). listed gap_numbers m ≡ true) z (gap_listed digits g c gap).is,
              λ n. absurd (let q : ⊥ = omega (arith, n) in q),
              λ n. absurd (let q : ⊥ = omega (arith, n) in q),
            )

-- ---- the answers
module _ (digits : ℕ) (g : CostGraph) (c : Claim) (gap : List ℕ) {fault : ℕ} (f : fault ≡ gap_fault digits g c gap) where
  pub refused : fault ≢ 0 → outcome_is fault gap ≡ gap_outcome digits g c gap
  unfolding gap_outcome
  refused z = refused_is as_number (outcome_is 0 (gap_of (step digits) g c ∷ [])) gap f z

  pub found : fault ≡ 0 → {after : List ℕ} → after ≡ gap_of (step digits) g c ∷ [] → outcome_is 0 after ≡ gap_outcome digits g c gap
  unfolding gap_outcome
  found z {after} e = let w : gap_fault digits g c gap ≡ 0 = sym f ∙ z in rw (w, e) refl

-- the code's unit is the step
pub steps_are : (digits : ℕ) (g : CostGraph) (c : Claim) → gap_of (2 ^ (1074 - digits)) g c ≡ gap_of (step digits) g c
unfolding step
steps_are digits g c = refl
