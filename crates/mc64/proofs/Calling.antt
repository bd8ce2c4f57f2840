-- The call: a refusal of the lengths or of the building is its own, and the building leaves what the match and the factors require. The
-- number, the unmatched count and what the factors achieve follow from the outcome.
use mathlib.Core.Path.{◌≡◌, refl, sym, ap, ◌∙◌, subst}
use mathlib.Core.Bool.{Bool, true, false, cond, ◌&&◌, false≢true, and-true, and-false}
use mathlib.Core.List.{List}
use mathlib.Core.Logic.{◌≢◌}
use Prim.Native.Nat.{ℕ, zero, suc, ◌+◌, ◌-◌, ◌*◌, ◌≤◌, ◌<◌}
use native.Mathlib.Omega.{arith}
use borrow.Author.Tests.{eqb-true}
use lib.Dec.{T, eqb}
use lib.Ieee.{Float, nan, binary64, fits}
use lib.ListN.{length, get_or, take, drop, length-append}
use lib.Seq.{take_at}
use Rattle.limits.specs.Limits.{max_symmetric}
use Rattle.std.specs.Prelude.{Result, Ok, Err}
use Rattle.refusal.specs.Number.{fault_of}
use Rattle.refusal.specs.Listed.{OneOf, symmetric_graph_numbers}
use Rattle.slices.specs.Outcome.{outcome_is, Outcome, refusing}
use Rattle.slices.proofs.Refusing.{refused_is}
use Rattle.sparse.specs.Matrix.{Matrix}
use Rattle.sparse.specs.Validate.{size_fault}
use Rattle.sparse.proofs.First.{or_some, or-zero}
use Rattle.slices.proofs.Bools.{both}
use Rattle.sparse.proofs.Accepted.{sizes_accepted}
use Rattle.hungarian.specs.Graph.{CostGraph, graph_of}
use Rattle.hungarian.specs.Accepted.{Accepted}
use Rattle.hungarian.specs.Match.{hungarian_match}
use Rattle.hungarian_match.specs.Call as Match
use Rattle.hungarian_match.proofs.Callers.{graph_fits}
use Rattle.mc64_columns.specs.Columns.{largest}
use Rattle.mc64_columns.specs.Graphs as Graphs
use Rattle.mc64_columns.proofs.Graphs.{ones_length}
use Rattle.mc64_columns.specs.Graphs.{kept_before, graph_pointers, graph_rows, graph_costs, graph_largest, logs_of, built}
use Rattle.mc64_symmetric.specs.Graph.{mirrored_columns}
use Rattle.mc64_symmetric.specs.Call.{lengths_fit, input_fault, cost_graph}
use Rattle.mc64_symmetric.proofs.Theorems.{graph_matched, input_listed}
use Rattle.factors_mc64.specs.declared.Scaled.{Scaled}
use Rattle.factors_mc64.specs.Calls as Factors
use Rattle.factors_mc64.proofs.Outcomes.{answered_scaled}
use Rattle.factors_balance.proofs.Theorems.{symmetric_balanced}
use Rattle.mc64.specs.Call.{ScalingSlices, scaling_slices, rest_lengths, rest_fits, scaling_fault, symmetric_graph, unmatched_columns, slices_after}
use Rattle.mc64.specs.Call.{symmetric_scaling, Balances, cache_left, Promises, scaled as done}
use Rattle.mc64.specs.inner.Steps.{Ready, Scales}

-- ---- answers
-- every column is matched
applied_full : (n matched : ℕ) → ◌≡◌ {A = Result Scaled ℕ} (Ok (Factors.applied_or_partial n matched)) (Ok Scaled.Applied)
    → matched ≡ n
applied_full n matched e = go (eqb matched n) refl e
  where
    go : (b : Bool) → eqb matched n ≡ b
        → ◌≡◌ {A = Result Scaled ℕ} (Ok (cond b Scaled.Applied (Scaled.PartialSingular (n - matched)))) (Ok Scaled.Applied)
        → matched ≡ n
    go true q e = eqb-true matched n q
    go false q e = cc

same_kept : {k r : ℕ} → ◌≡◌ {A = Result ℕ ℕ} (Ok k) (Ok r) → k ≡ r
same_kept e = cc

same_refused : {k r : ℕ} → ◌≡◌ {A = Result ℕ ℕ} (Err k) (Err r) → k ≡ r
same_refused e = cc

-- ---- lengths
record Fitting (n : ℕ) (p : Match.Slices) (f : Factors.Slices) : Type 0 where
  perms : length p.perm ≡ n
  row_duals : length p.u ≡ n
  column_duals : length p.v ≡ n
  words : length p.work ≡ 12 * n + 1
  doubles : length p.fwork ≡ 2 * n
  factors : length f.factors ≡ n
  marks : length f.work ≡ n

rest_fitting : (n : ℕ) (p : Match.Slices) (f : Factors.Slices) → rest_lengths n p f ≡ true → Fitting n p f
unfolding rest_lengths
rest_fitting n p f e =
    let rows = both (eqb (length p.perm) n) _ e in
    let u = both (eqb (length p.u) n) _ rows.1 in
    let v = both (eqb (length p.v) n) _ u.1 in
    let w = both (eqb (length p.work) (12 * n + 1)) _ v.1 in
    let d = both (eqb (length p.fwork) (2 * n)) _ w.1 in
    let x = both (eqb (length f.factors) n) _ d.1 in
    record {
      perms = eqb-true _ _ rows.0;
      row_duals = eqb-true _ _ u.0;
      column_duals = eqb-true _ _ v.0;
      words = eqb-true _ _ w.0;
      doubles = eqb-true _ _ d.0;
      factors = eqb-true _ _ x.0;
      marks = eqb-true _ _ x.1;
    }

module _ (m : Matrix) (logs : List Float) (s : Graphs.Slices) where
  abbrev whole : Match.Slices → Factors.Slices → ℕ
  whole p f = input_fault m logs (lengths_fit m logs s && rest_fits m.pattern.n (scaling_slices s p f))

  -- ---- a length of the match or of the factors is wrong: 1, 2 or 3
  module _ (p : Match.Slices) (f : Factors.Slices) {fit : Bool} (e : fit ≡ rest_lengths m.pattern.n p f) where
    pub lengths_refused : {x : ℕ} → fit ≡ false → x ≡ size_fault m.pattern.n max_symmetric (length m.pattern.row_idx) false
        → outcome_is (Err x) (scaling_slices s p f) ≡ symmetric_scaling m logs (scaling_slices s p f)
    unfolding symmetric_scaling input_fault rest_fits
    lengths_refused {x} z q =
        let some : size_fault m.pattern.n max_symmetric (length m.pattern.row_idx) false ≢ 0 =
        λ y. false≢true ((sizes_accepted m.pattern.n max_symmetric (length m.pattern.row_idx) false).0 y).2 in
        let r : rest_lengths m.pattern.n p f ≡ false = sym e ∙ z in
        let same : whole p f ≡ x = rw (r, and-false (lengths_fit m logs s)) (or_some _ _ some ∙ sym q) in
        refused_is Err (done m logs (scaling_slices s p f)) (scaling_slices s p f) (sym same) (λ y. some (sym q ∙ y))

    pub same_fault : fit ≡ true → whole p f ≡ input_fault m logs (lengths_fit m logs s)
    unfolding rest_fits
    same_fault z = let r : rest_lengths m.pattern.n p f ≡ true = sym e ∙ z in rw (r, and-true (lengths_fit m logs s)) refl

  -- ---- the building refuses
  pub building_refused : {k : ℕ} {after : Graphs.Slices} {fit : Bool} (p : Match.Slices) (f : Factors.Slices)
      → outcome_is (Err k) after ≡ cost_graph m logs s → fit ≡ rest_lengths m.pattern.n p f → fit ≡ true
      → outcome_is (Err k) (scaling_slices after p f) ≡ symmetric_scaling m logs (scaling_slices s p f)
  unfolding symmetric_scaling cost_graph
  building_refused {k} {after} p f e t z =
      go (input_fault m logs (lengths_fit m logs s)) e
      ∙ ap (λ (i : ℕ). refusing Err i (done m logs (scaling_slices s p f)) (scaling_slices s p f)) (sym (same_fault p f t z))
    where
      go : (i : ℕ) → outcome_is (Err k) after ≡ Graphs.outcome i m.pattern.n (mirrored_columns m) logs s
          → outcome_is (Err k) (scaling_slices after p f) ≡ refusing Err i (done m logs (scaling_slices s p f)) (scaling_slices s p f)
      go zero o = let q = ap (λ (x : Outcome (Result ℕ ℕ) Graphs.Slices). x.answer) o in cc
      go (suc i) o = rw (
        same_refused (ap (λ (x : Outcome (Result ℕ ℕ) Graphs.Slices). x.answer) o),
        ap (λ (x : Outcome (Result ℕ ℕ) Graphs.Slices). x.after) o,
      ) refl

  -- ---- the graph is built
  module _ {k : ℕ} {after : Graphs.Slices} (e : outcome_is (Ok k) after ≡ cost_graph m logs s)
      (doubles : (i : ℕ) → i < length logs → T (fits binary64 (get_or logs i nan))) where
    builds : (input_fault m logs (lengths_fit m logs s) ≡ 0) × (k ≡ kept_before (mirrored_columns m) m.pattern.n) ×
        (after ≡ built m.pattern.n (mirrored_columns m) logs s)
    unfolding cost_graph
    builds = go (input_fault m logs (lengths_fit m logs s)) e
      where
        go : (i : ℕ) → outcome_is (Ok k) after ≡ Graphs.outcome i m.pattern.n (mirrored_columns m) logs s
            → (i ≡ 0) × (k ≡ kept_before (mirrored_columns m) m.pattern.n)
            × (after ≡ built m.pattern.n (mirrored_columns m) logs s)
        go zero o = (
          refl,
          same_kept (ap (λ (x : Outcome (Result ℕ ℕ) Graphs.Slices). x.answer) o),
          ap (λ (x : Outcome (Result ℕ ℕ) Graphs.Slices). x.after) o,
        )
        go (suc i) o = let q = ap (λ (x : Outcome (Result ℕ ℕ) Graphs.Slices). x.answer) o in cc

    accepted : Accepted (symmetric_graph m logs)
    accepted = graph_matched m logs s builds.0 doubles

    costs : length (graph_costs (mirrored_columns m) logs m.pattern.n) ≡ k
    costs =
        let l = both (eqb (length (graph_pointers (mirrored_columns m) m.pattern.n)) (m.pattern.n + 1)) _ (graph_fits (symmetric_graph m logs) accepted) in
        eqb-true _ _ l.1 ∙ sym builds.1

    pub rows_room : k ≤ length after.graph_idx
    unfolding built
    rows_room = rw builds.2
        (omega (
          arith,
          builds.1,
          length-append (graph_rows (mirrored_columns m) m.pattern.n)
              (drop (kept_before (mirrored_columns m) m.pattern.n) s.graph_idx),
        ))

    pub cost_room_lem : k ≤ length after.cost
    unfolding built
    cost_room_lem = rw builds.2
        (omega (
          arith,
          costs,
          length-append (graph_costs (mirrored_columns m) logs m.pattern.n)
              (drop (kept_before (mirrored_columns m) m.pattern.n) s.cost),
        ))

    -- the parts that are lent are the graph
    abbrev parts : CostGraph
    parts = graph_of m.pattern.n after.graph_ptr (take k after.graph_idx) (take k after.cost)

    graph_is : parts ≡ symmetric_graph m logs
    unfolding built
    graph_is =
        let rows = take_at (graph_rows (mirrored_columns m) m.pattern.n) (drop (kept_before (mirrored_columns m) m.pattern.n) s.graph_idx) k
        (sym builds.1) in
        let paid = take_at (graph_costs (mirrored_columns m) logs m.pattern.n) (drop (kept_before (mirrored_columns m) m.pattern.n) s.cost) k costs in
        rw (builds.2, rows, paid) refl

    largest_is : after.cmax ≡ graph_largest (mirrored_columns m) logs m.pattern.n
    unfolding built
    largest_is = ap (λ (x : Graphs.Slices). x.cmax) builds.2

    module _ (p : Match.Slices) (f : Factors.Slices) {fit : Bool} (t : fit ≡ rest_lengths m.pattern.n p f) (z : fit ≡ true) where
      fitting : Fitting m.pattern.n p f
      fitting = rest_fitting m.pattern.n p f (sym t ∙ z)

      pub ready : Ready parts after.cmax p f
      ready =
          let x : Accepted parts = subst (λ (g : CostGraph). Accepted g) (sym graph_is) accepted in
          record {
            solvable = record {
              accepted = x;
              perms = fitting.perms;
              row_duals = fitting.row_duals;
              column_duals = fitting.column_duals;
              words = fitting.words;
              values = fitting.doubles;
            };
            largest = rw largest_is (ones_length (λ c. largest (logs_of (mirrored_columns m) logs c)) m.pattern.n);
            factors = fitting.factors;
            marks = fitting.marks;
          }

      pub complete : {pairs : Match.Slices} {scaled : Factors.Slices} {r : Scaled} → Scales parts after.cmax p pairs scaled r
          → outcome_is (Ok r) (scaling_slices after pairs scaled) ≡ symmetric_scaling m logs (scaling_slices s p f)
      unfolding symmetric_scaling done
      complete {pairs} {scaled} {r} C =
          let c : Scales (symmetric_graph m logs) (graph_largest (mirrored_columns m) logs m.pattern.n) p pairs scaled r = rw (graph_is, largest_is) at C in
          rw (c.answered, c.pairs, c.scaled, builds.2, same_fault p f t z, builds.0) refl

-- ---- the number and the unmatched count
pub answered : (m : Matrix) (logs : List Float) (l : ScalingSlices) {answer : Result Scaled ℕ} {after : ScalingSlices}
    → outcome_is answer after ≡ symmetric_scaling m logs l
    → Factors.AnswersBy (scaling_fault m logs l) (unmatched_columns m logs) answer
unfolding symmetric_scaling done
answered m logs l {answer} e = go (scaling_fault m logs l) (ap (λ (o : Outcome (Result Scaled ℕ) ScalingSlices). o.answer) e)
  where
    go : (fault : ℕ) → answer ≡ (refusing Err fault (done m logs l) l).answer → Factors.AnswersBy fault (unmatched_columns m logs) answer
    go zero q = answered_scaled m.pattern.n (hungarian_match (symmetric_graph m logs)).matched q refl
    go (suc fault) q =
        let number : fault_of answer ≡ suc fault = ap fault_of q in
        record { number = number; count = λ z. let w : ⊥ = omega arith in absurd w }

-- the number is listed: neither the match nor the factors refuse, so it is the building's
pub numbered : (m : Matrix) (logs : List Float) (l : ScalingSlices) {answer : Result Scaled ℕ} {after : ScalingSlices}
    → outcome_is answer after ≡ symmetric_scaling m logs l → OneOf symmetric_graph_numbers (fault_of answer)
numbered m logs l e =
    subst (OneOf symmetric_graph_numbers) (sym (answered m logs l e).number)
    (input_listed m logs (lengths_fit m logs l.graph && rest_fits m.pattern.n l)).is

-- ---- what follows from the outcome
module _ (m : Matrix) (logs : List Float) where
  -- with fewer lengths tested nothing else is wrong
  part_fine : (a b : Bool) → input_fault m logs (a && b) ≡ 0 → input_fault m logs a ≡ 0
  unfolding input_fault
  part_fine false b e = e
  part_fine true true e = e
  part_fine true false e =
      absurd (false≢true ((sizes_accepted m.pattern.n max_symmetric (length m.pattern.row_idx) false).0
      (or-zero (size_fault m.pattern.n max_symmetric (length m.pattern.row_idx) false) _ e).0).2)

  -- the factors of whole logs
  pub balances : (l : ScalingSlices) {answer : Result Scaled ℕ} {after : ScalingSlices} → ((k : ℕ) → k < length logs → T (fits binary64 (get_or logs k nan)))
      → (fault : ℕ) → scaling_fault m logs l ≡ fault
      → outcome_is answer after ≡ refusing Err fault (done m logs l) l → Balances m logs answer (cache_left after) after.scaled.factors
  unfolding done built
  balances l {answer} {after} doubles zero z o = λ applied whole.
      let is-full : (hungarian_match (symmetric_graph m logs)).matched ≡ m.pattern.n =
      applied_full m.pattern.n (hungarian_match (symmetric_graph m logs)).matched (sym (ap (λ (x : Outcome (Result Scaled ℕ) ScalingSlices). x.answer) o) ∙ applied) in
      let left : after ≡ slices_after m logs l = ap (λ (x : Outcome (Result Scaled ℕ) ScalingSlices). x.after) o in
      rw left (symmetric_balanced m logs l.graph (part_fine (lengths_fit m logs l.graph) (rest_fits m.pattern.n l) z) doubles whole is-full)
  balances l {answer} {after} doubles (suc fault) z o =
      λ applied whole free. let q = sym applied ∙ ap (λ (x : Outcome (Result Scaled ℕ) ScalingSlices). x.answer) o in cc

-- the unmatched count, the number and the factors' bound
pub promised : (m : Matrix) (logs : List Float) (l : ScalingSlices) {answer : Result Scaled ℕ} {after : ScalingSlices}
    → ((k : ℕ) → k < length logs → T (fits binary64 (get_or logs k nan)))
    → outcome_is answer after ≡ symmetric_scaling m logs l
    → Promises m logs l answer after
unfolding symmetric_scaling
promised m logs l doubles e =
    record {
      outcome = e;
      answered = answered m logs l e;
      number = numbered m logs l e;
      balanced = balances m logs l doubles (scaling_fault m logs l) refl e;
    }
