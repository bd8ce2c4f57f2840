-- The call: the tests establish what the next ones require, each answer is the first fault's, and what is answered keeps the contract's clauses.
use mathlib.Core.Path.{◌≡◌, refl, sym, ap, ◌∙◌, subst}
use mathlib.Core.Logic.{◌≢◌}
use mathlib.Core.Bool.{Bool, true, false, ◌&&◌}
use Prim.Native.Nat.{ℕ, zero, suc, ◌+◌, ◌*◌, ◌^◌, ◌≤◌, ◌<◌}
use native.Mathlib.Nat.{mul-le-mul_right, one-mul}
use native.Mathlib.Omega.{arith}
use borrow.Author.Tests.{eqb-true, eq-eqb, le-leb}
use lib.Dec.{eqb, leb}
use lib.ListN.{length, get_or}
use lib.Ieee.{nan}
use Rattle.limits.specs.Limits.{max_general}
use Rattle.refusal.specs.Refusal.{cost_range, incomplete_matching, infeasible_duals, loose_pair}
use Rattle.refusal.specs.Listed.{listed, OneOf, graph_numbers, check_numbers}
use Rattle.float64.specs.Number.{Number, negative, units_per_one, origin, magnitude}
use Rattle.float64.specs.inner.Keys.{place, position}
use Rattle.float64.proofs.Scale.{mag_lt}
use Rattle.slices.proofs.Bools.{both}
use Rattle.cost_limit.specs.Range.{cost_limit}
use Rattle.sparse.specs.Fault.{unless}
use Rattle.sparse.specs.Validate.{size_fault, pointer_fault, general_columns}
use Rattle.sparse.proofs.First.{or-zero, unless_holds, answer_first, answer_second}
use Rattle.sparse.proofs.Accepted.{sizes_accepted, pointers_accepted, general_columns_lem}
use Rattle.sparse.proofs.Listed.{Listed, test, or_listed, within, part}
use Rattle.sparse.specs.Pattern.{entries}
use Rattle.hungarian.specs.Graph.{CostGraph, cost_of}
use Rattle.hungarian.specs.Accepted.{Accepted, Doubles}
use Rattle.hungarian.specs.Test.{graph_fault, graph_lengths}
use Rattle.hungarian.specs.Optimal.{WholeCosts}
use Rattle.hungarian.specs.inner.Setting.{Setting}
use Rattle.hungarian.proofs.Accepts.{near_setting}
use Rattle.hungarian_match.proofs.Tests.{match_listed}
use Rattle.match_check.specs.Check.{Claim, check_lengths, is_whole, whole_costs, small_whole, small_wholes, duals_hold, pairing_fits, sums_reached}
use Rattle.match_check.specs.Check.{claim_fault, check_fault}
use Rattle.match_check.specs.Call.{Certified, Promises}
use Rattle.match_check.specs.inner.Steps.{Checkable}
use Rattle.match_check.proofs.Every.{every_first, first_every, every_same}
use Rattle.match_check.proofs.Wholes.{whole_is, is_whole_lem}
use Rattle.match_check.proofs.Certificate.{Doubled, Long, certified, certified_passes, certified_least}
use Rattle.match_check.proofs.Ours.{left_certified}

-- ---- the lengths
pub record Fitting (g : CostGraph) (s : Claim) : Type 0 where
  pub pointers : length g.pattern.col_ptr ≡ g.pattern.n + 1
  pub costs : length g.cost ≡ length g.pattern.row_idx
  pub graph : graph_lengths g ≡ true
  pub long : Long g s

pub fitting : (g : CostGraph) (s : Claim) → check_lengths g s ≡ true → Fitting g s
unfolding check_lengths
fitting g s t =
    let a = both (graph_lengths g) _ t in
    let l = both (eqb (length g.pattern.col_ptr) (g.pattern.n + 1)) (eqb (length g.cost) (length g.pattern.row_idx)) a.0 in
    let p = both (eqb (length s.perm) g.pattern.n) _ a.1 in
    let d = both (eqb (length s.u) g.pattern.n) (eqb (length s.v) g.pattern.n) p.1 in
    record {
      pointers = eqb-true _ _ l.0;
      costs = eqb-true _ _ l.1;
      graph = a.0;
      long = record { rows = eqb-true _ _ p.0; row_duals = eqb-true _ _ d.0; column_duals = eqb-true _ _ d.1 };
    }

fits_lengths : (g : CostGraph) (s : Claim) → graph_lengths g ≡ true → Long g s → check_lengths g s ≡ true
unfolding check_lengths
fits_lengths g s t l = rw (
  t,
  eq-eqb (length s.perm) g.pattern.n l.rows,
  eq-eqb (length s.u) g.pattern.n l.row_duals,
  eq-eqb (length s.v) g.pattern.n
      l.column_duals,
) refl

pub lengths_fit_lem : (g : CostGraph) (lengths : Bool) → graph_fault g lengths ≡ 0 → lengths ≡ true
unfolding graph_fault
lengths_fit_lem g lengths e = ((sizes_accepted g.pattern.n max_general (length g.pattern.row_idx) lengths).0
    (or-zero (size_fault g.pattern.n max_general (length g.pattern.row_idx) lengths) _ e).0).2

-- ---- a graph that passes
module _ (g : CostGraph) (s : Claim) (e : graph_fault g (check_lengths g s) ≡ 0) where
  pub fit : Fitting g s
  fit = fitting g s (lengths_fit_lem g (check_lengths g s) e)

  pub graph_accepted : Accepted g
  graph_accepted = subst (λ (t : Bool). graph_fault g t ≡ 0) (lengths_fit_lem g (check_lengths g s) e ∙ sym fit.graph) e

  pub ready : Checkable g.pattern.n g.pattern.col_ptr g.pattern.row_idx g.cost s
  unfolding graph_fault
  ready =
      let z = or-zero (size_fault g.pattern.n max_general (length g.pattern.row_idx) (check_lengths g s)) _ e in
      let y = or-zero (pointer_fault g.pattern.n g.pattern.col_ptr (length g.pattern.row_idx)) _ z.1 in
      let x = or-zero (general_columns g.pattern.n g.pattern.col_ptr g.pattern.row_idx) _ y.1 in
      let t = (sizes_accepted g.pattern.n max_general (length g.pattern.row_idx) (check_lengths g s)).0 z.0 in
      record {
        pattern = record {
          few = t.0;
          entries = t.1;
          pointers = fit.pointers;
          columns =
              (general_columns_lem ((pointers_accepted g.pattern.n g.pattern.col_ptr (length g.pattern.row_idx)).0 y.0)).0 x.0;
        };
        costs = fit.costs;
        rows = fit.long.rows;
        row_duals = fit.long.row_duals;
        column_duals = fit.long.column_duals;
      }

-- what is accepted as a graph passes with lists of their lengths
passes : (g : CostGraph) (s : Claim) → Accepted g → Long g s → graph_fault g (check_lengths g s) ≡ 0
passes g s a l = subst (λ (t : Bool). graph_fault g t ≡ 0) (lengths_fit_lem g (graph_lengths g) a ∙ sym (fits_lengths g s (lengths_fit_lem g (graph_lengths g) a) l)) a

-- ---- 8: costs of an accepted graph are no larger than duals may be
low_mag : (t : Bool) (a b : ℕ) → a < origin → origin ≤ place t a → place t a < origin + b → a ≤ b
unfolding place
low_mag true a b m l h = omega arith
low_mag false a b m l h = omega arith

module _ (g : CostGraph) (a : Accepted g) (d : Doubles g) where
  S : Setting Number units_per_one (cost_limit g.pattern.n) g
  S = near_setting g a d

  limit_small : 0 < g.pattern.n → cost_limit g.pattern.n * units_per_one ≤ 2 ^ 50 * units_per_one
  limit_small h = mul-le-mul_right units_per_one (let m : 1 * cost_limit g.pattern.n ≤ g.pattern.n * cost_limit g.pattern.n = mul-le-mul_right
      (cost_limit g.pattern.n) h in
      omega (arith, one-mul (cost_limit g.pattern.n), S.product, S.few_columns))

  cost_size : (k : ℕ) → k < entries g.pattern → magnitude (cost_of g k) ≤ 2 ^ 50 * units_per_one
  unfolding position
  cost_size k h =
      let m = low_mag (negative (cost_of g k)) (magnitude (cost_of g k)) (cost_limit g.pattern.n * units_per_one) (mag_lt (cost_of g k) (S.good k h))
      (S.low k h) (S.high k h) in
      omega (arith, limit_small (omega (arith, S.columns.inside k h)))

  pub costs_same : small_wholes g.cost ≡ whole_costs g.cost
  unfolding small_wholes small_whole whole_costs
  costs_same = every_same (λ k. is_whole (get_or g.cost k nan) && leb (magnitude (get_or g.cost k nan)) (2 ^ 50 * units_per_one))
      (λ k. is_whole (get_or g.cost k nan)) (length g.cost)
      (λ k h. rw (le-leb (magnitude (cost_of g k)) (2 ^ 50 * units_per_one) (cost_size k (rw (← S.cost_count) h))) (and-true (is_whole (cost_of g k))))
    where
      and-true : (b : Bool) → (b && true) ≡ b
      and-true true = refl
      and-true false = refl

  whole_costs_lem : whole_costs g.cost ≡ true → WholeCosts g
  unfolding whole_costs
  whole_costs_lem t k h = whole_is (cost_of g k) (d k h) (every_first (λ i. is_whole (get_or g.cost i nan)) (length g.cost) t k (rw S.cost_count h))

  costs_whole : WholeCosts g → whole_costs g.cost ≡ true
  unfolding whole_costs
  costs_whole w = first_every (λ i. is_whole (get_or g.cost i nan)) (length g.cost) (λ k h. is_whole_lem (cost_of g k) (w k (rw (← S.cost_count) h)))

-- ---- 0 1 2 3 4 5 7 8 30 31 32 and no other number
check_listed : (g : CostGraph) (s : Claim) → Listed check_numbers (check_fault g s)
unfolding listed within check_fault claim_fault
check_listed g s = or_listed (part graph_numbers (match_listed g (check_lengths g s)) refl)
    (or_listed (test (whole_costs g.cost) cost_range refl refl)
    (or_listed (test (pairing_fits g.pattern s.perm) incomplete_matching refl refl)
    (or_listed (test (duals_hold g s) infeasible_duals refl refl) (test (sums_reached g s) loose_pair refl refl))))

-- ---- accepted exactly where certified
module _ (g : CostGraph) (s : Claim) (d : Doubles g) (b : Doubled s) where
  accepted_certified : check_fault g s ≡ 0 → Certified g s
  unfolding check_fault
  accepted_certified e =
      let x = or-zero (graph_fault g (check_lengths g s)) _ e in
      let y = or-zero (unless (whole_costs g.cost) cost_range) (claim_fault g s) x.1 in
      let a = graph_accepted g s x.0 in
      certified g s a (whole_costs_lem g a d (unless_holds (whole_costs g.cost) cost_range (omega arith) y.0)) (fit g s x.0).long b y.1

  certified_accepted : Certified g s → check_fault g s ≡ 0
  unfolding check_fault
  certified_accepted c = rw (
    passes g s c.graph (record { rows = c.row_count; row_duals = c.row_duals; column_duals = c.column_duals }),
    costs_whole g c.graph d c.costs,
    certified_passes g s c,
  ) refl

  -- ---- what follows of any answer
  pub promises : {r : ℕ} → r ≡ check_fault g s → Promises g s r
  promises n = record {
    answer = n;
    number = subst (OneOf check_numbers) (sym n) (check_listed g s).is;
    exactly = (λ z. accepted_certified (sym n ∙ z), λ c. n ∙ certified_accepted c);
    least = λ z. certified_least g s (accepted_certified (sym n ∙ z));
    ours = λ o. n ∙ certified_accepted (left_certified g s o);
  }

-- ---- the answers of the call
module _ (g : CostGraph) (s : Claim) {graph : ℕ} {lengths : Bool} (f : graph ≡ graph_fault g lengths) (l : lengths ≡ check_lengths g s) where
  tested : graph ≡ graph_fault g (check_lengths g s)
  tested = f ∙ ap (graph_fault g) l

  pub by_graph : graph ≢ 0 → graph ≡ check_fault g s
  unfolding check_fault
  by_graph z = answer_first _ tested z

  module _ (z : graph ≡ 0) where
    pub passed_graph : graph_fault g (check_lengths g s) ≡ 0
    passed_graph = sym tested ∙ z

    module _ (d : Doubles g) {whole : Bool} (w : whole ≡ small_wholes g.cost) where
      costs_are : whole ≡ whole_costs g.cost
      costs_are = w ∙ costs_same g (graph_accepted g s passed_graph) d

      pub by_cost : whole ≡ false → cost_range ≡ check_fault g s
      unfolding check_fault
      by_cost t =
          answer_second tested z (answer_first {a = unless (whole_costs g.cost) cost_range} _ (let q : whole_costs g.cost ≡ false =
          sym costs_are ∙ t in rw q refl) (λ e. omega arith))

      pub by_claim : whole ≡ true → {fault : ℕ} → fault ≡ claim_fault g s → fault ≡ check_fault g s
      unfolding check_fault
      by_claim t c = answer_second tested z
          (answer_second {w = 0} {a = unless (whole_costs g.cost) cost_range} (let q : whole_costs g.cost ≡ true = sym costs_are ∙ t in rw q refl) refl c)
