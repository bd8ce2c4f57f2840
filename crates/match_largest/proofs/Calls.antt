-- The call: its tests establish what its parts require, what they write are the definition's marks, and what it answers keeps the contract's
-- clauses. Our own matches are accepted by the match's theorem on its range, which speaks of no cost.
use Rattle.std.proofs.Common.{Err}
use mathlib.Core.Path.{◌≡◌, refl, sym, ap, ◌∙◌, subst}
use mathlib.Core.Logic.{◌≢◌}
use mathlib.Core.Bool.{Bool, true, cond, ◌||◌}
use mathlib.Core.List.{List, [], ◌∷◌}
use Prim.Native.Nat.{ℕ, zero, suc, ◌+◌, ◌<◌}
use native.Mathlib.Decide.{ℕ_discrete}
use native.Mathlib.Omega.{arith}
use borrow.Author.Tests.{eqb-true, eq-eqb, ne_eqb}
use lib.Dec.{T, eqb}
use lib.ListN.{length, get_or}
use lib.Seq.{ext_get_or}
use lib.Ieee.Fits.{eq→eqb}
use Rattle.limits.specs.Limits.{none}
use Rattle.refusal.specs.Refusal.{incomplete_matching, not_largest}
use Rattle.refusal.specs.Number.{fault_of}
use Rattle.refusal.specs.Listed.{listed, OneOf, general_numbers, largest_numbers}
use Rattle.slices.specs.Lists.{tabulate}
use Rattle.slices.specs.Outcome.{Outcome, outcome_is, refusing, as_number}
use Rattle.slices.proofs.Bools.{both}
use Rattle.slices.proofs.Refusing.{refused_is}
use Rattle.slices.proofs.Lists.{length_table, table_at}
use Rattle.sparse.specs.Fault.{unless}
use Rattle.sparse.specs.Validate.{pattern_fault}
use Rattle.sparse.proofs.Accepted.{pattern_accepted}
use Rattle.sparse.proofs.First.{or-zero, unless_holds, answer_first, answer_second}
use Rattle.sparse.proofs.Listed.{Listed, test, or_listed, within, part}
use Rattle.sparse.proofs.Theorems.{pattern_listed}
use Rattle.matching.specs.Pairing.{paired_entries}
use Rattle.float64.specs.Number.{Number, units_per_one}
use Rattle.cost_limit.specs.Range.{cost_limit}
use Rattle.sparse.specs.Pattern.{Pattern, pattern, column_of, bipartite}
use Rattle.hungarian.specs.Graph.{with_costs}
use Rattle.hungarian.specs.Match.{hungarian_match}
use Rattle.hungarian.specs.Optimal.{LargestMatch, matched_entries}
use Rattle.hungarian.specs.inner.Setting.{Setting}
use Rattle.hungarian.proofs.Accepts.{near_setting}
use Rattle.hungarian.proofs.Theorems.{match_largest}
use Rattle.hungarian_match.specs.Call.{match_fault, finished, match_outcome}
use Rattle.hungarian_match.proofs.Calls.{accepted_lengths}
use Rattle.match_check.specs.inner.Steps.{AcceptedPattern}
use Rattle.match_largest.specs.Marks.{row_at, is_free, mark, pairs_fit, is_met, marked_columns, marked_rows, is_largest, pairing_fault}
use Rattle.match_largest.specs.Call.{Slices, slices, largest_lengths, largest_fault, pair_count, marks_of, largest_outcome, pairs, Promises}
use Rattle.match_largest.specs.Call.{IsLargestOf, Room, Exactly, Shown, Ours, OursAccepted}
use Rattle.match_largest.specs.inner.Sweeps.{Searched}
use Rattle.match_largest.proofs.Berge.{Good}
use Rattle.match_largest.proofs.Rounds.{columns_length, rows_length, column-is, row_is}
use Rattle.match_largest.proofs.Pairs.{fits_at, fits_good, good_fits}
use Rattle.match_largest.proofs.Largest.{held_largest, largest_held, shown}

-- ---- 3
pub record Fitting (g : Pattern) (perm : List ℕ) (s : Slices) : Type 0 where
  pub pointers : length g.col_ptr ≡ g.n + 1
  pub places : length perm ≡ g.n
  pub room : Room g s

module _ (g : Pattern) (perm : List ℕ) (s : Slices) where
  pub fitting : largest_lengths g.n g.col_ptr perm s ≡ true → Fitting g perm s
  unfolding largest_lengths
  fitting t =
      let a = both (eqb (length g.col_ptr) (g.n + 1)) _ t in
      let b = both (eqb (length perm) g.n) _ a.1 in
      let c = both (eqb (length s.columns) g.n) _ b.1 in
      let d = both (eqb (length s.rows) g.n) (eqb (length s.matched) 1) c.1 in
      record {
        pointers = eqb-true _ _ a.0;
        places = eqb-true _ _ b.0;
        room = record { columns = eqb-true _ _ c.0; rows = eqb-true _ _ d.0; matched = eqb-true _ _ d.1 };
      }

  fits : Fitting g perm s → largest_lengths g.n g.col_ptr perm s ≡ true
  unfolding largest_lengths
  fits f = rw (eq-eqb _ _ f.pointers, eq-eqb _ _ f.places, eq-eqb _ _ f.room.columns, eq-eqb _ _ f.room.rows, eq-eqb _ _ f.room.matched) refl

-- ---- an accepted pattern
module _ (g : Pattern) (lengths : Bool) (z : pattern_fault g lengths ≡ 0) where
  pub all_fit : lengths ≡ true
  all_fit = ((pattern_accepted g lengths).0 z).2

  pub pattern_is : length g.col_ptr ≡ g.n + 1 → AcceptedPattern g.n g.col_ptr g.row_idx
  pattern_is p = let a = (pattern_accepted g lengths).0 z in record { few = a.0; entries = a.1; pointers = p; columns = a.3 }

-- ---- what an accepted call has passed
pub record Passed (g : Pattern) (perm : List ℕ) (s : Slices) : Type 0 where
  pub fit : Fitting g perm s
  pub shape : AcceptedPattern g.n g.col_ptr g.row_idx
  pub pairing : pairs_fit g perm ≡ true
  pub rows : is_largest g perm ≡ true

module _ (g : Pattern) (perm : List ℕ) (s : Slices) where
  pub passed : largest_fault g perm s ≡ 0 → Passed g perm s
  unfolding largest_fault pairing_fault
  passed z =
      let a = or-zero (pattern_fault g (largest_lengths g.n g.col_ptr perm s)) _ z in
      let b = or-zero (unless (pairs_fit g perm) incomplete_matching) _ a.1 in
      let f = fitting g perm s (all_fit g (largest_lengths g.n g.col_ptr perm s) a.0) in
      record {
        fit = f;
        shape = pattern_is g (largest_lengths g.n g.col_ptr perm s) a.0 f.pointers;
        pairing = unless_holds _ incomplete_matching (omega arith) b.0;
        rows = unless_holds _ not_largest (omega arith) b.1;
      }

  good : Passed g perm s → Good (bipartite g) none (row_at perm)
  good p = fits_good g perm p.pairing p.shape.few p.shape.columns

  is_largest_lem : Passed g perm s → IsLargestOf g perm × Room g s
  is_largest_lem p = (
    record {
      few = p.shape.few;
      few_entries = p.shape.entries;
      pointers = p.fit.pointers;
      in_order = p.shape.columns;
      places = p.fit.places;
      stand = λ j h f. let r = (good p).stand j h f in record { entry = r.0; within = r.1; row = r.2; column = r.3 };
      largest = held_largest g perm p.shape.columns (good p) p.rows;
    },
    p.fit.room,
  )

  -- a largest matching passes
  module _ (l : IsLargestOf g perm) where
    its_pair : (j : ℕ) (h : j < g.n) (f : row_at perm j ≢ none) → T (pairs g perm (l.stand j h f).entry)
    unfolding paired_entries
    its_pair j h f = let e = l.stand j h f in eq→eqb (ap (row_at perm) e.column ∙ sym e.row)

    its_good : Good (bipartite g) none (row_at perm)
    its_good = record {
      outside = omega (arith, l.few);
      stand = λ j h f. let e = l.stand j h f in (e.entry, e.within, e.row, e.column);
      once = λ i j b d f e.
          let f' : row_at perm j ≢ none = λ z. f (e ∙ z) in
          let p = l.stand i b f in
          let q = l.stand j d f' in
          let same : p.entry ≡ q.entry = l.largest.matching.rows p.entry q.entry p.within q.within (its_pair i b f) (its_pair j d f')
          (p.row ∙ e ∙ sym q.row) in
          sym p.column ∙ ap (column_of g) same ∙ q.column;
    }

    largest_passes : Room g s → largest_fault g perm s ≡ 0
    unfolding largest_fault pairing_fault
    largest_passes r =
        let a : largest_lengths g.n g.col_ptr perm s ≡ true = fits g perm s (record { pointers = l.pointers; places = l.places; room = r }) in
        rw (
          a,
          (pattern_accepted g true).1 (l.few, l.few_entries, refl, l.in_order),
          good_fits g perm l.in_order its_good,
          largest_held g perm l.in_order its_good
              l.largest,
        ) refl

-- ---- our own matches
pub ours_largest : (g : Pattern) (perm : List ℕ) → Ours g perm → IsLargestOf g perm
unfolding match_outcome finished matched_entries
ours_largest g perm o = go (match_fault (with_costs g o.cost) o.before) refl o.number o.left
  where
    found : match_fault (with_costs g o.cost) o.before ≡ 0
        → IsLargestOf g (hungarian_match (with_costs g o.cost)).perm
    found e =
        let c = with_costs g o.cost in
        let a = (accepted_lengths c o.before e).accepted in
        let S : Setting Number units_per_one (cost_limit g.n) c = near_setting c a o.doubles in
        let r : LargestMatch g (hungarian_match c) = match_largest c a o.doubles in
        record {
          few = S.few_columns;
          few_entries = S.few_entries;
          pointers = omega (arith, S.pointer_count);
          in_order = S.columns;
          places = r.places;
          stand = r.pairs;
          largest = record { matching = r.matching; most = λ R m. omega (arith, r.largest R m, r.pair_count) };
        }

    go : (f : ℕ) → match_fault (with_costs g o.cost) o.before ≡ f
        → fault_of (refusing Err f (finished (with_costs g o.cost) o.before) o.before).answer ≡ 0
        → perm ≡ (refusing Err f (finished (with_costs g o.cost) o.before) o.before).after.perm
        → IsLargestOf g perm
    go zero e z left = subst (IsLargestOf g) (sym left) (found e)
    go (suc f) e z left = let y : ⊥ = omega (arith, z) in absurd y

-- ---- 0 1 2 3 4 5 7 30 33 and no other number
largest_listed : (g : Pattern) (perm : List ℕ) (s : Slices) → Listed largest_numbers (largest_fault g perm s)
unfolding listed within largest_fault pairing_fault
largest_listed g perm s =
    or_listed (part general_numbers (pattern_listed g (largest_lengths g.n g.col_ptr perm s)) refl)
    (or_listed (test (pairs_fit g perm) incomplete_matching refl refl) (test (is_largest g perm) not_largest refl refl))

-- ---- the clauses, of any answer
module _ (g : Pattern) (perm : List ℕ) (s : Slices) where
  pub all_promised : {r : ℕ} {after : Slices} → outcome_is r after ≡ largest_outcome g perm s → Promises g perm s r after
  unfolding largest_outcome
  all_promised {r} {after} o = go (largest_fault g perm s) refl o
    where
      exactly : {number : ℕ} → number ≡ largest_fault g perm s → Exactly g perm s number
      exactly e = (λ z. is_largest_lem g perm s (passed g perm s (sym e ∙ z)), λ l. e ∙ largest_passes g perm s l.0 l.1)

      ours : {number : ℕ} → number ≡ largest_fault g perm s → OursAccepted g perm s number
      ours e u room = e ∙ largest_passes g perm s (ours_largest g perm u) room

      numbered : {number : ℕ} → number ≡ largest_fault g perm s → OneOf largest_numbers number
      numbered e = subst (OneOf largest_numbers) (sym e) (largest_listed g perm s).is

      go : (f : ℕ) → largest_fault g perm s ≡ f → outcome_is r after ≡ refusing as_number f (outcome_is 0 (marks_of g perm)) s → Promises g perm s r after
      go zero z e =
          let n : r ≡ largest_fault g perm s = ap (λ (x : Outcome ℕ Slices). x.answer) e ∙ sym z in
          let l : after ≡ marks_of g perm = ap (λ (x : Outcome ℕ Slices). x.after) e in
          let p = passed g perm s z in
          record {
            outcome = o;
            number = numbered n;
            exactly = exactly n;
            shows = λ m. subst (Shown g perm) (sym l) (shown g perm p.shape.columns (good g perm s p) p.rows);
            ours = ours n;
          }
      go (suc f) z e =
          let n : r ≡ largest_fault g perm s = ap (λ (x : Outcome ℕ Slices). x.answer) e ∙ sym z in
          record {
            outcome = o;
            number = numbered n;
            exactly = exactly n;
            shows = λ m. let q : ⊥ = omega (arith, m, n, z) in absurd q;
            ours = ours n;
          }

-- ---- the answers
refused_by : (g : Pattern) (perm : List ℕ) (s : Slices) {fault : ℕ} → fault ≢ 0 → fault ≡ largest_fault g perm s
    → outcome_is fault s ≡ largest_outcome g perm s
unfolding largest_outcome
refused_by g perm s z e = refused_is as_number (outcome_is 0 (marks_of g perm)) s e z

module _ (n : ℕ) (col_ptr row_idx perm : List ℕ) (s : Slices) {lengths : Bool} (l : lengths ≡ largest_lengths n col_ptr perm s) where
  pub pointers_fit : lengths ≡ true → length col_ptr ≡ n + 1
  pointers_fit t = (fitting (pattern n col_ptr row_idx) perm s (sym l ∙ t)).pointers

  module _ {shape : ℕ} (f : shape ≡ pattern_fault (pattern n col_ptr row_idx) lengths) where
    tested : shape ≡ pattern_fault (pattern n col_ptr row_idx) (largest_lengths n col_ptr perm s)
    tested = f ∙ ap (pattern_fault (pattern n col_ptr row_idx)) l

    pub by_shape : shape ≢ 0 → outcome_is shape s ≡ largest_outcome (pattern n col_ptr row_idx) perm s
    unfolding largest_fault
    by_shape z = refused_by (pattern n col_ptr row_idx) perm s z (answer_first _ tested z)

    module _ (z : shape ≡ 0) where
      pub fit : Fitting (pattern n col_ptr row_idx) perm s
      fit = fitting (pattern n col_ptr row_idx) perm s (all_fit (pattern n col_ptr row_idx) _ (sym tested ∙ z))

      pub shape_is : AcceptedPattern n col_ptr row_idx
      shape_is = pattern_is (pattern n col_ptr row_idx) _ (sym tested ∙ z) fit.pointers

      module _ {fault : ℕ} (p : fault ≡ pairing_fault (pattern n col_ptr row_idx) perm) where
        whole : fault ≡ largest_fault (pattern n col_ptr row_idx) perm s
        unfolding largest_fault
        whole = answer_second tested z p

        pub by_pairing : fault ≢ 0 → outcome_is fault s ≡ largest_outcome (pattern n col_ptr row_idx) perm s
        by_pairing y = refused_by (pattern n col_ptr row_idx) perm s y whole

        module _ (y : fault ≡ 0) where
          pub through : Passed (pattern n col_ptr row_idx) perm s
          through = passed (pattern n col_ptr row_idx) perm s (sym whole ∙ y)

          -- every row that stands in perm is below n
          pub rows_below_lem : (j : ℕ) → j < length perm → row_at perm j ≢ none → row_at perm j < 4096
          rows_below_lem j h d = let r = (fits_at (pattern n col_ptr row_idx) perm through.pairing j (omega (arith, fit.places)) d).below in
              omega (arith, shape_is.few)

          module _ {met : List ℕ} (m : Searched (pattern n col_ptr row_idx) perm met) where
            columns_are : tabulate (length perm) (λ j. cond (eqb (row_at perm j) none) 1 (get_or met (row_at perm j) 0)) ≡ marked_columns
                (pattern n col_ptr row_idx) perm
            columns_are =
                ext_get_or 0 _ (marked_columns (pattern n col_ptr row_idx) perm)
                (length_table (length perm) _ ∙ fit.places ∙ sym (columns_length (pattern n col_ptr row_idx) perm))
                (λ j h. let b : j < length perm =
                subst (λ (x : ℕ). j < x) (length_table (length perm) (λ j. cond (eqb (row_at perm j) none) 1 (get_or met (row_at perm j) 0))) h in
                let d : j < n = subst (λ (x : ℕ). j < x) fit.places b in
                table_at (length perm) (λ j. cond (eqb (row_at perm j) none) 1 (get_or met (row_at perm j) 0)) j b ∙ at j d
                ∙ sym (column-is (pattern n col_ptr row_idx) perm shape_is.columns j d))
              where
                at : (j : ℕ) → j < n → cond (eqb (row_at perm j) none) 1 (get_or met (row_at perm j) 0) ≡ mark
                    (is_free perm j || is_met (pattern n col_ptr row_idx) (marked_columns (pattern n col_ptr row_idx) perm) (row_at perm j))
                at j h = elim (ℕ_discrete (row_at perm j) none) [
                  | yes e ↦ rw (eq-eqb (row_at perm j) none e) refl
                  | no d ↦
                      let b = (fits_at (pattern n col_ptr row_idx) perm through.pairing j h d).below in
                      rw (ne_eqb (row_at perm j) none d) (m.same (row_at perm j) b ∙ row_is (pattern n col_ptr row_idx) perm shape_is.columns (row_at perm j) b)
                ]

            rows_are : (rows : List ℕ) → length rows ≡ n → tabulate (length rows) (λ i. get_or met i 0) ≡ marked_rows (pattern n col_ptr row_idx) perm
            rows_are rows e =
                ext_get_or 0 _ (marked_rows (pattern n col_ptr row_idx) perm) (length_table (length rows) _ ∙ e ∙ sym (rows_length (pattern n col_ptr row_idx) perm))
                (λ i h. let b : i < length rows = subst (λ (x : ℕ). i < x) (length_table (length rows) (λ i. get_or met i 0)) h in
                table_at (length rows) (λ i. get_or met i 0) i b ∙ m.same i (subst (λ (x : ℕ). i < x) e b))

            pub found : {columns rows matched : List ℕ} → columns ≡ tabulate (length perm) (λ j. cond (eqb (row_at perm j) none) 1 (get_or met (row_at perm j) 0))
                → rows ≡ tabulate (length s.rows) (λ i. get_or met i 0) → matched ≡ pair_count (pattern (length perm) col_ptr row_idx) perm ∷ []
                → outcome_is 0 (slices columns rows matched) ≡ largest_outcome (pattern n col_ptr row_idx) perm s
            unfolding largest_outcome marks_of
            found c r k =
                let w : largest_fault (pattern n col_ptr row_idx) perm s ≡ 0 = sym whole ∙ y in
                let c' = c ∙ columns_are in
                let r' = r ∙ rows_are s.rows fit.room.rows in
                let k' = k ∙ ap (λ (x : ℕ). pair_count (pattern x col_ptr row_idx) perm ∷ []) fit.places in
                rw (w, c', r', k') refl
