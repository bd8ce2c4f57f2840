-- The call's tests one after the other: each answer is the first fault's number, and what passes is what the next functions require.
use mathlib.Core.Path.{◌≡◌, refl, sym, ap, ◌∙◌, subst}
use mathlib.Core.Logic.{◌≢◌}
use mathlib.Core.Bool.{Bool, true, false, ◌&&◌}
use mathlib.Core.List.{List}
use Prim.Native.Nat.{ℕ, ◌+◌, ◌-◌, ◌*◌, ◌^◌, ◌≤◌, ◌<◌}
use native.Mathlib.Omega.{arith}
use borrow.Author.Tests.{leb-true, le-leb, lt-leb, eqb-true}
use lib.Dec.{T, leb, eqb}
use lib.ListN.{length, get_or}
use lib.Ieee.{Float, nan, binary64, fits}
use lib.Ieee.Scale.{finite}
use Rattle.refusal.specs.Refusal.{index_range, cost_range, incomplete_matching, infeasible_duals}
use Rattle.refusal.specs.Listed.{listed, graph_numbers, gap_numbers}
use Rattle.slices.proofs.Bools.{both}
use Rattle.float64.specs.Number.{magnitude}
use Rattle.sparse.specs.Fault.{unless}
use Rattle.sparse.proofs.First.{or-zero, unless_holds, answer_first}
use Rattle.sparse.proofs.Listed.{Listed, test, or_listed, within, part}
use Rattle.sparse.specs.Pattern.{Pattern}
use Rattle.hungarian.specs.Graph.{CostGraph}
use Rattle.hungarian.specs.Test.{graph_fault}
use Rattle.hungarian_match.proofs.Tests.{match_listed}
use Rattle.match_check.specs.Check.{Claim, check_lengths, pairing_fits}
use Rattle.match_check.specs.inner.Steps.{Checkable}
use Rattle.match_check.proofs.Every.{every_first}
use Rattle.match_check.proofs.Calling.{fitting, lengths_fit_lem, ready}
use Rattle.match_gap.specs.Rounding.{zero_step, step, in_steps}
use Rattle.match_gap.specs.Gap.{max_digits, all_in_steps, gap_lengths, pairs_fault, gap_fault}
use Rattle.match_gap.specs.inner.Scans.{AllIn}

-- ---- 30 and 31
module _ (s : ℕ) (g : Pattern) (c : Claim) {pairing : Bool} (p : pairing ≡ pairing_fits g c.perm) where
  pub by_pairing : pairing ≡ false → incomplete_matching ≡ pairs_fault s g c
  unfolding pairs_fault
  by_pairing z = let q : pairing_fits g c.perm ≡ false = sym p ∙ z in rw q refl

  module _ (y : pairing ≡ true) {rows columns : Bool} (a : rows ≡ all_in_steps s c.u) (b : columns ≡ all_in_steps s c.v) where
    pub by_nothing : (rows && columns) ≡ true → 0 ≡ pairs_fault s g c
    unfolding pairs_fault
    by_nothing z = let q : pairing_fits g c.perm ≡ true = sym p ∙ y in rw (q, ← a, ← b, z) refl

    pub by_duals : (rows && columns) ≡ false → infeasible_duals ≡ pairs_fault s g c
    unfolding pairs_fault
    by_duals z = let q : pairing_fits g c.perm ≡ true = sym p ∙ y in rw (q, ← a, ← b, z) refl

-- ---- 3
all_fit : (g : CostGraph) (c : Claim) (gap : List ℕ) → graph_fault g (gap_lengths g c gap) ≡ 0 → (check_lengths g c ≡ true) × (length gap ≡ 1)
unfolding gap_lengths
all_fit g c gap e =
    let b = both (check_lengths g c) (eqb (length gap) 1) (lengths_fit_lem g _ e) in
    (b.0, eqb-true (length gap) 1 b.1)

pub lengths_are : (g : CostGraph) (c : Claim) (gap : List ℕ) {fit : Bool} → fit ≡ check_lengths g c → (fit && eqb (length gap) 1) ≡ gap_lengths g c gap
unfolding gap_lengths
lengths_are g c gap e = ap (λ (t : Bool). t && eqb (length gap) 1) e

pub pointers_fit : (g : CostGraph) (c : Claim) (gap : List ℕ) {fit : Bool} → fit ≡ check_lengths g c → (fit && eqb (length gap) 1) ≡ true
    → length g.pattern.col_ptr ≡ g.pattern.n + 1
pointers_fit g c gap {fit} e t = (fitting g c (sym e ∙ (both fit (eqb (length gap) 1) t).0)).pointers

-- ---- the call's own tests
module _ (digits : ℕ) (g : CostGraph) (c : Claim) (gap : List ℕ) where
  pub by_digits : 50 < digits → index_range ≡ gap_fault digits g c gap
  unfolding gap_fault
  by_digits h = rw (lt-leb digits max_digits h) refl

  module _ (few : digits ≤ 50) {lengths : Bool} (l : lengths ≡ gap_lengths g c gap) {graph : ℕ} (f : graph ≡ graph_fault g lengths) where
    tested : graph ≡ graph_fault g (gap_lengths g c gap)
    tested = f ∙ ap (graph_fault g) l

    pub by_graph : graph ≢ 0 → graph ≡ gap_fault digits g c gap
    unfolding gap_fault
    by_graph z = rw (le-leb digits max_digits few) (answer_first _ tested z)

    graph_passed : graph ≡ 0 → graph_fault g (check_lengths g c) ≡ 0
    graph_passed z = let w : graph_fault g (gap_lengths g c gap) ≡ 0 = sym tested ∙ z in
        subst (λ (t : Bool). graph_fault g t ≡ 0) (lengths_fit_lem g _ w ∙ sym (all_fit g c gap w).0) w

    pub lists : graph ≡ 0 → Checkable g.pattern.n g.pattern.col_ptr g.pattern.row_idx g.cost c
    lists z = ready g c (graph_passed z)

    module _ (z : graph ≡ 0) {costs : Bool} (k : costs ≡ all_in_steps (step digits) g.cost) where
      pub by_costs : costs ≡ false → cost_range ≡ gap_fault digits g c gap
      unfolding gap_fault
      by_costs t =
          let q : all_in_steps (step digits) g.cost ≡ false = sym k ∙ t in
          let w : graph_fault g (gap_lengths g c gap) ≡ 0 = sym tested ∙ z in
          rw (le-leb digits max_digits few, w, q) refl

      pub by_pairs : costs ≡ true → {fault : ℕ} → fault ≡ pairs_fault (step digits) g.pattern c → fault ≡ gap_fault digits g c gap
      unfolding gap_fault
      by_pairs t e =
          let q : all_in_steps (step digits) g.cost ≡ true = sym k ∙ t in
          let w : graph_fault g (gap_lengths g c gap) ≡ 0 = sym tested ∙ z in
          rw (le-leb digits max_digits few, w, q) e

-- ---- what an accepted call has passed
pub record Passed (digits : ℕ) (g : CostGraph) (c : Claim) (gap : List ℕ) : Type 0 where
  pub digits_few : digits ≤ 50
  pub graph : graph_fault g (check_lengths g c) ≡ 0
  pub room : length gap ≡ 1
  pub costs : all_in_steps (step digits) g.cost ≡ true
  pub pairing : pairing_fits g.pattern c.perm ≡ true
  pub rows : all_in_steps (step digits) c.u ≡ true
  pub columns : all_in_steps (step digits) c.v ≡ true

pub passed : (digits : ℕ) (g : CostGraph) (c : Claim) (gap : List ℕ) → gap_fault digits g c gap ≡ 0 → Passed digits g c gap
unfolding gap_fault pairs_fault
passed digits g c gap e =
    let a = or-zero (unless (leb digits max_digits) index_range) _ e in
    let b = or-zero (graph_fault g (gap_lengths g c gap)) _ a.1 in
    let d = or-zero (unless (all_in_steps (step digits) g.cost) cost_range) _ b.1 in
    let f = or-zero (unless (pairing_fits g.pattern c.perm) incomplete_matching) _ d.1 in
    let l = all_fit g c gap b.0 in
    let h = both (all_in_steps (step digits) c.u) (all_in_steps (step digits) c.v) (unless_holds _ infeasible_duals (omega arith) f.1) in
    record {
      digits_few = leb-true digits max_digits (unless_holds _ index_range (omega arith) a.0);
      graph = subst (λ (t : Bool). graph_fault g t ≡ 0) (lengths_fit_lem g _ b.0 ∙ sym l.0) b.0;
      room = l.1;
      costs = unless_holds _ cost_range (omega arith) d.0;
      pairing = unless_holds _ incomplete_matching (omega arith) f.0;
      rows = h.0;
      columns = h.1;
    }

-- ---- numbers in steps
pub all_in : (digits : ℕ) (l : List Float) → ((i : ℕ) → T (fits binary64 (get_or l i nan))) → all_in_steps (step digits) l ≡ true → AllIn (1074 - digits) l
unfolding all_in_steps in_steps step
all_in digits l f e i h =
    let b = both (finite (get_or l i nan)) (leb (magnitude (get_or l i nan)) (zero_step * 2 ^ (1074 - digits)))
    (every_first (λ i. finite (get_or l i nan) && leb (magnitude (get_or l i nan)) (zero_step * 2 ^ (1074 - digits))) (length l) e i h) in
    record { number = record { double = f i; is_finite = subst T (sym b.0) tt }; few = leb-true _ _ b.1 }

-- ---- 0 1 2 3 4 5 7 8 30 31 and no other number
pub gap_listed : (digits : ℕ) (g : CostGraph) (c : Claim) (gap : List ℕ) → Listed gap_numbers (gap_fault digits g c gap)
unfolding listed within gap_fault pairs_fault
gap_listed digits g c gap =
    or_listed (test (leb digits max_digits) index_range refl refl)
    (or_listed (part graph_numbers (match_listed g (gap_lengths g c gap)) refl)
    (or_listed (test (all_in_steps (step digits) g.cost) cost_range refl refl)
    (or_listed (test (pairing_fits g.pattern c.perm) incomplete_matching refl refl)
    (test (all_in_steps (step digits) c.u && all_in_steps (step digits) c.v) infeasible_duals refl refl))))
