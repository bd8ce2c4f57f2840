-- The whole search: it starts with the columns without a row, and the marks that it leaves are those of the rounds, since by the columns of the rows
-- it follows the same paths.
use mathlib.Core.Path.{◌≡◌, refl, sym, ap, ◌∙◌, subst}
use mathlib.Core.Logic.{◌≢◌}
use mathlib.Core.Bool.{Bool, true, false, not, ◌&&◌, ◌||◌}
use mathlib.Core.List.{List}
use Prim.Native.Nat.{ℕ, ◌≤◌, ◌<◌}
use native.Mathlib.Nat.{mul-one, not-suc-le-zero}
use native.Mathlib.Decide.{ℕ_discrete}
use native.Mathlib.Omega.{arith}
use lib.Dec.{T, eqb, ltb, ltb→lt, lt→ltb}
use lib.ListN.{length, get_or, replicate, length-replicate}
use lib.Ieee.Bits.{is_true}
use Rattle.limits.specs.Limits.{none}
use Rattle.refusal.specs.Refusal.{accepted, incomplete_matching, not_largest}
use Rattle.slices.proofs.Bools.{same_test}
use Rattle.slices.proofs.Lists.{zeros}
use Rattle.sparse.specs.Columns.{Columns}
use Rattle.matching.specs.Sum.{sum_to, or_zero}
use Rattle.matching.proofs.Sums.{sum_same, sum_parts, sum_const, count_le}
use Rattle.matching.proofs.Pairings.{apart, not_eqb}
use Rattle.sparse.specs.Pattern.{Pattern, pattern, row_of, bipartite}
use Rattle.match_check.specs.Check.{every_of, taken_before}
use Rattle.match_check.specs.inner.Steps.{AcceptedPattern}
use Rattle.match_check.proofs.Every.{every_same}
use Rattle.match_largest.specs.Marks.{row_at, is_free, pairs_fit, marked_rows, is_held, is_largest, pairing_fault}
use Rattle.match_largest.specs.Call.{Reached}
use Rattle.match_largest.specs.inner.Sweeps.{Entered, Queued, Led, unmet, Sweeping, Swept, Searched}
use Rattle.match_largest.proofs.Berge.{Good}
use Rattle.match_largest.proofs.Pairs.{taken_by, by_taken, fits_good}
use Rattle.match_largest.proofs.Rounds.{same_bits, row_bit_lem, row_reached, reached_row}

module _ (g : Pattern) {perm inverse : List ℕ} (few : g.n ≤ 4096) (p : Good (bipartite g) none (row_at perm)) (a : Entered g.n perm g.n inverse) where
  -- a row of a column is below n
  row_below : (j : ℕ) → j < g.n → row_at perm j ≢ none → (w : Columns g.n g.col_ptr g.row_idx) → row_at perm j < g.n
  row_below j h f w = let r = p.stand j h f in omega (arith, w.inside r.0 r.1, r.2)

  -- the column of a row that a column has is that column
  column_of_lem : (j i : ℕ) → j < g.n → i < g.n → row_at perm j ≡ i → get_or inverse i 0 ≡ j
  column_of_lem j i h b e =
      let t = a.taken i j b h e in
      let r = a.back i b t in
      p.once (get_or inverse i 0) j t h (λ z. let y : ⊥ = omega (arith, r.1) in y) (r.1 ∙ sym e)

  module _ (w : Columns g.n g.col_ptr g.row_idx) where
    led_reached : {j : ℕ} → Led g inverse j → Reached g perm j
    led_reached {j} (Led.begins h f) = Reached.begins h (elim (ℕ_discrete (row_at perm j) none) [
      | yes e ↦ e
      | no d ↦ let b = row_below j h d w in absurd (f (row_at perm j) b (column_of_lem j (row_at perm j) h b refl))
    ])
    led_reached {j} (Led.goes k b r h e) =
        let t : get_or inverse (row_of g k) 0 < g.n = omega (arith, e) in
        Reached.goes k b (led_reached r) h (ap (row_at perm) (sym e) ∙ (a.back (row_of g k) (w.inside k b) t).1)

    reached_led : {j : ℕ} → Reached g perm j → Led g inverse j
    reached_led {j} (Reached.begins h e) =
        Led.begins h (λ i b q. let r = a.back i b (omega (arith, q)) in let z : ⊥ = omega (arith, e, ap (row_at perm) (sym q), r.1) in z)
    reached_led {j} (Reached.goes k b r h e) = Led.goes k b (reached_led r) h (column_of_lem j (row_of g k) h (w.inside k b) e)

    pub searched : {met : List ℕ} → Swept g inverse met → Searched g perm met
    searched {met} s = record {
      marks = s.marks;
      same = λ i h. same_bits (get_or met i 0) (get_or (marked_rows g perm) i 0) (s.bits i) (row_bit_lem g perm w i h)
          (λ m. let r = (s.exactly i h).0 m in
          reached_row g perm w i h (record { entry = r.entry; within = r.within; row = r.row; column = led_reached r.column }))
          (λ m. let r = row_reached g perm w i h m in
          (s.exactly i h).1 (record { entry = r.entry; within = r.within; row = r.row; column = reached_led r.column }));
    }

    -- ---- the start
    taken_rows : sum_to g.n (λ i. or_zero (ltb (get_or inverse i 0) g.n) 1) ≡ sum_to g.n (λ j. or_zero (not (is_free perm j)) 1)
    taken_rows =
        omega (
          arith,
          count_le g.n g.n (λ i. ltb (get_or inverse i 0) g.n) (λ j. not (is_free perm j)) (λ i. get_or inverse i 0)
              (λ i b t. let l = ltb→lt (get_or inverse i 0) g.n t in
              (l, not_eqb (row_at perm (get_or inverse i 0)) none (λ z. let y : ⊥ = omega (arith, (a.back i b l).1) in y)))
              (λ i c b d s t e. sym (a.back i b (ltb→lt (get_or inverse i 0) g.n s)).1 ∙ ap (row_at perm) e
              ∙ (a.back c d (ltb→lt (get_or inverse c 0) g.n t)).1),
          count_le g.n g.n (λ j. not (is_free perm j)) (λ i. ltb (get_or inverse i 0) g.n) (row_at perm)
              (λ j b t. let l = row_below j b (apart (row_at perm j) none t) w in
              (l, lt→ltb (get_or inverse (row_at perm j) 0) g.n (a.taken (row_at perm j) j l b refl)))
              (λ i j b d s t e. p.once i j b d (apart (row_at perm i) none s) e),
        )

    pub search_begins : {met queue : List ℕ} {free : ℕ} → met ≡ replicate 4096 0 → Queued perm g.n queue free → Sweeping g inverse met queue 0 0 free
    search_begins {met} {queue} {free} m q = record {
      marks = ap length m ∙ length-replicate {A = ℕ} 4096 0;
      places = q.places;
      before = omega arith;
      left =
          omega (
            arith,
            q.count,
            taken_rows,
            sum_parts g.n (is_free perm) (λ j. 1),
            sum_const g.n 1,
            mul-one g.n,
            sum_same g.n (λ i. or_zero (unmet g.n inverse met i) 1) (λ i. or_zero (ltb (get_or inverse i 0) g.n) 1)
                (λ i b. ap (λ (x : ℕ). or_zero (eqb x 0 && ltb (get_or inverse i 0) g.n) 1) (zero i)),
          );
      bits = λ i. omega (arith, zero i);
      columns = λ c h. let r = q.is_column c h in (r.0, reached_led (Reached.begins r.0 r.1));
      frees = λ j h f. let r = q.place j h (free_row (led_reached (Led.begins h f)) f h) in record { place = r.0; before = r.1; column = r.2 };
      waiting = λ i h e t. let z : ⊥ = omega (arith, zero i) in absurd z;
      swept = λ c l h i. absurd (not-suc-le-zero h);
      begun = λ l h i. absurd (not-suc-le-zero h);
      sound = λ i h e. let z : ⊥ = omega (arith, zero i) in absurd z;
    }
      where
        zero : (i : ℕ) → get_or met i 0 ≡ 0
        zero i = ap (λ (l : List ℕ). get_or l i 0) m ∙ zeros 4096 i

        free_row : {j : ℕ} → Reached g perm j → ((i : ℕ) → i < g.n → get_or inverse i 0 ≢ j) → j < g.n → row_at perm j ≡ none
        free_row (Reached.begins h e) f b = e
        free_row {j} (Reached.goes k c r h e) f b = absurd (f (row_of g k) (w.inside k c) (column_of_lem j (row_of g k) h (w.inside k c) e))

-- ---- what the functions hand over
module _ {n : ℕ} {col_ptr row_idx perm inverse : List ℕ} (x : AcceptedPattern n col_ptr row_idx) (t : pairs_fit (pattern n col_ptr row_idx) perm ≡ true)
    (a : Entered n perm n inverse) where
  good : Good (bipartite (pattern n col_ptr row_idx)) none (row_at perm)
  good = fits_good (pattern n col_ptr row_idx) perm t x.few x.columns

  pub starts : length perm ≡ n → {met queue : List ℕ} {free : ℕ} → met ≡ replicate 4096 0 → Queued perm (length perm) queue free
      → Sweeping (pattern n col_ptr row_idx) inverse met queue 0 0 free
  starts l {queue = queue} {free = free} m q =
      search_begins (pattern n col_ptr row_idx) x.few good a x.columns m (subst (λ (c : ℕ). Queued perm c queue free) l q)

  pub ends : {met : List ℕ} → Swept (pattern n col_ptr row_idx) inverse met → Searched (pattern n col_ptr row_idx) perm met
  ends s = searched (pattern n col_ptr row_idx) x.few good a x.columns s

-- a marked row has a column exactly where some column has the row
pub held_is : {g : Pattern} {perm inverse met : List ℕ} → Entered g.n perm g.n inverse → Searched g perm met
    → every_of g.n (λ i. not (eqb (get_or met i 0) 1) || ltb (get_or inverse i 0) g.n) 0 ≡ is_largest g perm
unfolding is_largest
held_is {g} {perm} {inverse} {met} a s = every_same (λ i. not (eqb (get_or met i 0) 1) || ltb (get_or inverse i 0) g.n) (is_held g perm) g.n each
  where
    column : (i : ℕ) → i < g.n → ltb (get_or inverse i 0) g.n ≡ taken_before perm g.n i
    column i h = same_test (ltb (get_or inverse i 0) g.n) (taken_before perm g.n i)
        (λ t. let r = a.back i h (ltb→lt (get_or inverse i 0) g.n t) in subst T (sym (by_taken perm g.n i (get_or inverse i 0) r.0 r.1)) tt)
        (λ t. let r = taken_by perm g.n i (is_true (taken_before perm g.n i) t) in lt→ltb (get_or inverse i 0) g.n (a.taken i r.0 h r.1 r.2))

    each : (i : ℕ) → i < g.n → (not (eqb (get_or met i 0) 1) || ltb (get_or inverse i 0) g.n) ≡ is_held g perm i
    each i h = rw (s.same i h, column i h) refl

-- ---- 30 and 33
module _ (g : Pattern) (perm : List ℕ) {fit : Bool} (p : fit ≡ pairs_fit g perm) where
  pub by_pairs : fit ≡ false → incomplete_matching ≡ pairing_fault g perm
  unfolding pairing_fault
  by_pairs z = let q : pairs_fit g perm ≡ false = sym p ∙ z in rw q refl

  module _ (y : fit ≡ true) {held : Bool} (h : held ≡ is_largest g perm) where
    pub by_rows : held ≡ false → not_largest ≡ pairing_fault g perm
    unfolding pairing_fault
    by_rows z =
        let q : pairs_fit g perm ≡ true = sym p ∙ y in
        let r : is_largest g perm ≡ false = sym h ∙ z in
        rw (q, r) refl

    pub by_nothing : held ≡ true → accepted ≡ pairing_fault g perm
    unfolding pairing_fault
    by_nothing z =
        let q : pairs_fit g perm ≡ true = sym p ∙ y in
        let r : is_largest g perm ≡ true = sym h ∙ z in
        rw (q, r) refl
