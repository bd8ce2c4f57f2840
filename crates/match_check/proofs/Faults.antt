-- The tests of a claim one after the other: each answer is the first fault's number.
use mathlib.Core.Path.{◌≡◌, refl, sym, ◌∙◌}
use mathlib.Core.Bool.{Bool, true, false}
use Rattle.refusal.specs.Refusal.{accepted, incomplete_matching, infeasible_duals, loose_pair}
use Rattle.hungarian.specs.Graph.{CostGraph}
use Rattle.match_check.specs.Check.{Claim, pairing_fits, duals_hold, sums_reached, claim_fault}

module _ (g : CostGraph) (s : Claim) {pairing : Bool} (p : pairing ≡ pairing_fits g.pattern s.perm) where
  pub by_pairing : pairing ≡ false → incomplete_matching ≡ claim_fault g s
  unfolding claim_fault
  by_pairing z = let q : pairing_fits g.pattern s.perm ≡ false = sym p ∙ z in rw q refl

  module _ (y : pairing ≡ true) {duals : Bool} (d : duals ≡ duals_hold g s) where
    paired : pairing_fits g.pattern s.perm ≡ true
    paired = sym p ∙ y

    pub by_duals : duals ≡ false → infeasible_duals ≡ claim_fault g s
    unfolding claim_fault
    by_duals z = let q : duals_hold g s ≡ false = sym d ∙ z in rw (paired, q) refl

    module _ (x : duals ≡ true) {sums : Bool} (r : sums ≡ sums_reached g s) where
      held : duals_hold g s ≡ true
      held = sym d ∙ x

      pub by_sums : sums ≡ false → loose_pair ≡ claim_fault g s
      unfolding claim_fault
      by_sums z = let q : sums_reached g s ≡ false = sym r ∙ z in rw (paired, held, q) refl

      pub by_nothing : sums ≡ true → accepted ≡ claim_fault g s
      unfolding claim_fault
      by_nothing z = let q : sums_reached g s ≡ true = sym r ∙ z in rw (paired, held, q) refl
