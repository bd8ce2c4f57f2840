-- What the answer 0 means: `validate` answers it exactly for matrices within the limits, with the right lengths, whose pointers and rows
-- are in order. From the laws of the first fault, test by test; each place lies in the column whose pointers enclose it.
use mathlib.Core.Path.{◌≡◌, ◌∙◌, subst}
use mathlib.Core.Bool.{Bool, true, false, ◌||◌, true≢false}
use mathlib.Core.List.{List}
use mathlib.Core.Logic.{◌↔◌}
use Prim.Native.Nat.{ℕ, zero, suc, pred, ◌+◌, ◌-◌, ◌≤◌, ◌<◌}
use native.Mathlib.Nat.{add-zero, add-suc, le_refl, le_trans}
use native.Mathlib.Omega.{arith}
use native.Mathlib.Decide.{dec_lt}
use borrow.Author.Tests.{ltb-true, leb-true, eqb-true, lt-ltb, lt-leb, le-leb, eq-eqb}
use lib.Dec.{leb, ltb, eqb}
use lib.ListN.{length, get_or}
use Rattle.limits.specs.Limits.{max_columns, max_general, max_symmetric}
use Rattle.slices.proofs.Bools.{both}
use Rattle.sparse.specs.Fault.{unless}
use Rattle.sparse.specs.Pattern.{Pattern}
use Rattle.sparse.specs.Matrix.{Matrix}
use Rattle.sparse.specs.Validate
use Rattle.sparse.specs.Columns.{Pointers, Sizes, Columns, Lower}
use Rattle.refusal.specs.Refusal.{too_many_columns, too_many_entries, slice_length, column_pointers, index_range, upper_triangle, rows_not_rising}
use Rattle.sparse.proofs.First.{or-none, or-zero, unless_holds, span_zero, all_zero}

-- ---- pointers
module _ {n : ℕ} {col_ptr : List ℕ} {count : ℕ} (p : Pointers n col_ptr count) where
  pub climbs : (i j : ℕ) → i + j ≤ n → get_or col_ptr i 0 ≤ get_or col_ptr (i + j) 0
  climbs i zero h = rw add-zero (le_refl _)
  climbs i (suc j) h = rw add-suc (le_trans (climbs i j (omega arith)) (p.rises (i + j) (omega arith)))

  pub pointer_below : (j : ℕ) → j ≤ n → get_or col_ptr j 0 ≤ count
  pointer_below j h =
      let e : j + (n - j) ≡ n = omega arith in
      rw (← p.last) (subst (λ (k : ℕ). get_or col_ptr j 0 ≤ get_or col_ptr k 0) e (climbs j (n - j) (omega arith)))

  -- each place of the first j columns lies in one of them
  pub column_of_lem : (k j : ℕ) → j ≤ n → k < get_or col_ptr j 0 → (i : ℕ) × (i < j) × (get_or col_ptr i 0 ≤ k) × (k < get_or col_ptr (suc i) 0)
  column_of_lem k zero h l = let z : ⊥ = omega (arith, p.first) in absurd z
  column_of_lem k (suc j) h l = go (column_of_lem k j (omega arith)) (dec_lt k (get_or col_ptr j 0))
    where
      go : (k < get_or col_ptr j 0 → (i : ℕ) × (i < j) × (get_or col_ptr i 0 ≤ k) × (k < get_or col_ptr (suc i) 0)) → Dec (k < get_or col_ptr j 0) → (i : ℕ)
          × (i < suc j) × (get_or col_ptr i 0 ≤ k) × (k < get_or col_ptr (suc i) 0)
      go f (yes s) = let r = f s in (r.0, omega (arith, r.1), r.2, r.3)
      go f (no s) = (j, omega arith, omega arith, l)

-- the pointer test answers 0 exactly for pointers
pub pointers_accepted : (n : ℕ) (col_ptr : List ℕ) (count : ℕ) → (Validate.pointer_fault n col_ptr count ≡ 0) ↔ Pointers n col_ptr count
unfolding Validate.pointer_fault
pointers_accepted n col_ptr count = (
  λ e.
      let f = or-zero (unless (eqb (get_or col_ptr 0 0) 0) column_pointers) _ e in
      let l = or-zero (unless (eqb (get_or col_ptr n 0) count) column_pointers) _ f.1 in
      record {
        first = eqb-true _ _ (unless_holds _ column_pointers (omega arith) f.0);
        last = eqb-true _ _ (unless_holds _ column_pointers (omega arith) l.0);
        rises = λ j h. leb-true _ _ (unless_holds _ column_pointers (omega arith) ((all_zero _ n).0 l.1 j h));
      },
  λ p.
      rw (eq-eqb (get_or col_ptr 0 0) 0 p.first, eq-eqb (get_or col_ptr n 0) count p.last)
      ((all_zero _ n).1 (λ j h. rw (le-leb (get_or col_ptr j 0) (get_or col_ptr (suc j) 0) (p.rises j h)))),
)

-- ---- sizes
pub sizes_accepted : (n limit count : ℕ) (lengths : Bool)
    → (Validate.size_fault n limit count lengths ≡ 0) ↔ ((n ≤ max_columns) × (count ≤ limit) × (lengths ≡ true))
unfolding Validate.size_fault
sizes_accepted n limit count lengths = (
  λ e.
      let f = or-zero (unless (leb n max_columns) too_many_columns) _ e in
      let l = or-zero (unless (leb count limit) too_many_entries) _ f.1 in (
        leb-true _ _ (unless_holds _ too_many_columns (omega arith) f.0),
        leb-true _ _ (unless_holds _ too_many_entries (omega arith) l.0),
        unless_holds lengths slice_length (omega arith) l.1,
      ),
  λ h. rw (le-leb n max_columns h.0, le-leb count limit h.1, h.2),
)

pub frame_accepted : (limit : ℕ) (m : Matrix) → let p = m.pattern in
    (Validate.frame_fault limit m ≡ 0) ↔ (Sizes limit m × Pointers p.n p.col_ptr (length p.row_idx))
unfolding Validate.frame_fault
frame_accepted limit m =
    let n = m.pattern.n in
    let col_ptr = m.pattern.col_ptr in
    let rows = m.pattern.row_idx in (
      λ e.
          let z = or-zero (Validate.size_fault n limit (length rows) (Validate.matrix_lengths n col_ptr rows m.values)) _ e in
          let s = (sizes_accepted n limit (length rows) _).0 z.0 in
          let l = both _ _ s.2 in (
            record { columns = s.0; entries = s.1; colptrs = eqb-true _ _ l.0; stored = eqb-true _ _ l.1 },
            (pointers_accepted n col_ptr
                (length rows)).0 z.1,
          ),
      λ h.
          let l : Validate.matrix_lengths n col_ptr rows m.values ≡ true =
          rw (eq-eqb (length col_ptr) (n + 1) h.0.colptrs, eq-eqb (length m.values) (length rows) h.0.stored) in
          or-none ((sizes_accepted n limit (length rows) _).1 (h.0.columns, h.0.entries, l)) ∙ (pointers_accepted n col_ptr (length rows)).1 h.1,
    )

-- ---- one entry
either : (a b : Bool) → a ≡ false → (a || b) ≡ true → b ≡ true
either true b e h = absurd (true≢false e)
either false b e h = h

module _ (n : ℕ) (rows : List ℕ) where
  pub general_entry_lem : (from k : ℕ) → (Validate.general_entry n rows from k ≡ 0) ↔ ((get_or rows k 0 < n) × (from < k → get_or rows (pred k) 0 < get_or rows k 0))
  general_entry_lem from k = (
    λ e.
        let f = or-zero (unless (ltb (get_or rows k 0) n) index_range) _ e in (
          ltb-true _ _ (unless_holds _ index_range (omega arith) f.0),
          λ h. ltb-true _ _ (either _ _ (lt-leb k from h) (unless_holds _ rows_not_rising (omega arith) f.1)),
        ),
    λ h. rw (lt-ltb (get_or rows k 0) n h.0) (risen h.1 (dec_lt from k)),
  )
    where
      risen : (from < k → get_or rows (pred k) 0 < get_or rows k 0) → Dec (from < k)
          → unless (leb k from || ltb (get_or rows (pred k) 0) (get_or rows k 0)) rows_not_rising ≡ 0
      risen h (yes l) = rw (lt-leb k from l, lt-ltb (get_or rows (pred k) 0) (get_or rows k 0) (h l))
      risen h (no l) = rw (le-leb k from (omega arith))

  pub lower_entry_lem : (j k : ℕ) → (Validate.lower_entry n rows j k ≡ 0) ↔ ((get_or rows k 0 < n) × (j ≤ get_or rows k 0))
  lower_entry_lem j k = (
    λ e.
        let f = or-zero (unless (ltb (get_or rows k 0) n) index_range) _ e in
        (ltb-true _ _ (unless_holds _ index_range (omega arith) f.0), leb-true _ _ (unless_holds _ upper_triangle (omega arith) f.1)),
    λ h. rw (lt-ltb (get_or rows k 0) n h.0, le-leb j (get_or rows k 0) h.1),
  )

pub rising_pair_lem : (rows : List ℕ) (k : ℕ) → (Validate.rising_pair rows k ≡ 0) ↔ (get_or rows k 0 < get_or rows (suc k) 0)
rising_pair_lem rows k = (λ e. ltb-true _ _ (unless_holds _ rows_not_rising (omega arith) e), λ h. rw (lt-ltb (get_or rows k 0) (get_or rows (suc k) 0) h))

-- ---- columns
module _ {n : ℕ} {col_ptr rows : List ℕ} (p : Pointers n col_ptr (length rows)) where
  pub general_columns_lem : (Validate.general_columns n col_ptr rows ≡ 0) ↔ Columns n col_ptr rows
  unfolding Validate.general_columns Validate.general_column
  general_columns_lem = (
    λ e.
        let entry : (j k : ℕ) → j < n → get_or col_ptr j 0 ≤ k → k < get_or col_ptr (suc j) 0 → (get_or rows k 0 < n)
        × (get_or col_ptr j 0 < k → get_or rows (pred k) 0 < get_or rows k 0) =
        λ j k h l u. (general_entry_lem n rows _ k).0 ((span_zero _ (get_or col_ptr j 0) (get_or col_ptr (suc j) 0)).0 ((all_zero _ n).0 e j h) k l u) in
        record {
          pointers = p;
          inside = λ k h. let i = column_of_lem p k n (le_refl n) (rw p.last h) in (entry i.0 k i.1 i.2 i.3).0;
          rising = λ j k h l u. (entry j (suc k) h (omega arith) u).1 (omega arith);
        },
    λ c.
        (all_zero _ n).1 (λ j h. (span_zero _ (get_or col_ptr j 0) (get_or col_ptr (suc j) 0)).1
        (λ k l u. (general_entry_lem n rows _ k).1 (c.inside k (le_trans u (pointer_below p (suc j) h)), risen c j k h l u))),
  )
    where
      risen : Columns n col_ptr rows → (j k : ℕ) → j < n → get_or col_ptr j 0 ≤ k → k < get_or col_ptr (suc j) 0 → get_or col_ptr j 0 < k
          → get_or rows (pred k) 0 < get_or rows k 0
      risen c j zero h l u s = let z : ⊥ = omega arith in absurd z
      risen c j (suc k) h l u s = c.rising j k h (omega arith) u

  pub symmetric_columns_lem : (Validate.symmetric_columns n col_ptr rows ≡ 0) ↔ (Columns n col_ptr rows × Lower n col_ptr rows)
  unfolding Validate.symmetric_columns Validate.lower_column Validate.rising_column
  symmetric_columns_lem = (
    λ e.
        let column : (j : ℕ) → j < n → (Validate.lower_column n rows j (get_or col_ptr j 0) (get_or col_ptr (suc j) 0) ≡ 0)
        × (Validate.rising_column rows (get_or col_ptr j 0) (get_or col_ptr (suc j) 0) ≡ 0) =
        λ j h. or-zero _ _ ((all_zero _ n).0 e j h) in
        let entry : (j k : ℕ) → j < n → get_or col_ptr j 0 ≤ k → k < get_or col_ptr (suc j) 0 → (get_or rows k 0 < n) × (j ≤ get_or rows k 0) =
        λ j k h l u. (lower_entry_lem n rows j k).0 ((span_zero _ (get_or col_ptr j 0) (get_or col_ptr (suc j) 0)).0 (column j h).0 k l u) in (
          record {
            pointers = p;
            inside = λ k h. let i = column_of_lem p k n (le_refl n) (rw p.last h) in (entry i.0 k i.1 i.2 i.3).0;
            rising = λ j k h l u. (rising_pair_lem rows k).0 ((span_zero _ (get_or col_ptr j 0) (pred (get_or col_ptr (suc j) 0))).0 (column j h).1 k l (omega arith));
          },
          record { below = λ j k h l u. (entry j k h l u).1 },
        ),
    λ c.
        (all_zero _ n).1 (λ j h.
        or-none ((span_zero _ (get_or col_ptr j 0) (get_or col_ptr (suc j) 0)).1
        (λ k l u. (lower_entry_lem n rows j k).1 (c.0.inside k (le_trans u (pointer_below p (suc j) h)), c.1.below j k h l u)))
        ∙ (span_zero _ (get_or col_ptr j 0) (pred (get_or col_ptr (suc j) 0))).1 (λ k l u. (rising_pair_lem rows k).1 (c.0.rising j k h l (omega arith)))),
  )

-- ---- a pattern
pub pattern_accepted : (p : Pattern) (lengths : Bool) → (Validate.pattern_fault p lengths ≡ 0)
    ↔ ((p.n ≤ max_columns) × (length p.row_idx ≤ max_general) × (lengths ≡ true) × Columns p.n p.col_ptr p.row_idx)
unfolding Validate.pattern_fault
pattern_accepted p lengths =
    let n = p.n in
    let col_ptr = p.col_ptr in
    let count = length p.row_idx in (
      λ e.
          let a = or-zero (Validate.size_fault n max_general count lengths) _ e in
          let b = or-zero (Validate.pointer_fault n col_ptr count) _ a.1 in
          let s = (sizes_accepted n max_general count lengths).0 a.0 in
          (s.0, s.1, s.2, (general_columns_lem ((pointers_accepted n col_ptr count).0 b.0)).0 b.1),
      λ h.
          or-none ((sizes_accepted n max_general count lengths).1 (h.0, h.1, h.2))
          ∙ or-none ((pointers_accepted n col_ptr count).1 h.3.pointers)
          ∙ (general_columns_lem h.3.pointers).1 h.3,
    )

-- ---- `validate`
pub general_accepted : (m : Matrix) → let p = m.pattern in
    (Validate.general_fault m ≡ 0) ↔ (Sizes max_general m × Columns p.n p.col_ptr p.row_idx)
unfolding Validate.general_fault
general_accepted m = (
  λ e.
      let z = or-zero _ _ e in
      let f = (frame_accepted max_general m).0 z.0 in
      (f.0, (general_columns_lem f.1).0 z.1),
  λ h. or-none ((frame_accepted max_general m).1 (h.0, h.1.pointers)) ∙ (general_columns_lem h.1.pointers).1 h.1,
)

pub symmetric_accepted : (m : Matrix) → let p = m.pattern in
    (Validate.symmetric_fault m ≡ 0) ↔ (Sizes max_symmetric m × (Columns p.n p.col_ptr p.row_idx × Lower p.n p.col_ptr p.row_idx))
unfolding Validate.symmetric_fault
symmetric_accepted m = (
  λ e.
      let z = or-zero _ _ e in
      let f = (frame_accepted max_symmetric m).0 z.0 in
      (f.0, (symmetric_columns_lem f.1).0 z.1),
  λ h. or-none ((frame_accepted max_symmetric m).1 (h.0, h.1.0.pointers)) ∙ (symmetric_columns_lem h.1.0.pointers).1 h.1,
)
