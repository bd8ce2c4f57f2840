-- The tests of one entry, from the comparisons that the code makes: which fault the entry has, or that it has none.
use Rattle.std.proofs.lemmas.List.{length-take, length-drop, get_or-take, get_or-drop}
use mathlib.Core.Path.{◌≡◌, refl, sym, ◌∙◌}
use mathlib.Core.Bool.{Bool, true, false, cond, ◌||◌}
use mathlib.Core.List.{List}
use Prim.Native.Nat.{ℕ, suc, pred, ◌+◌, ◌-◌, ◌≤◌, ◌<◌}
use native.Mathlib.Numerals.{add-one}
use native.Mathlib.Omega.{arith}
use borrow.Author.Tests.{lt-ltb, le-ltb, le-leb, lt-leb}
use lib.Dec.{leb, ltb, leb-zero}
use lib.ListN.{length, get_or, take, drop}
use Rattle.refusal.specs.Refusal.{index_range, upper_triangle, rows_not_rising}
use Rattle.sparse.specs.Validate.{general_entry, lower_entry, rising_pair}

-- a column's entries are those of its stretch
pub stretch_length : (rows : List ℕ) (from to : ℕ) → from ≤ to → to ≤ length rows → length (take (to - from) (drop from rows)) ≡ to - from
stretch_length rows from to h l = simp (length-take, length-drop) (omega arith)

pub stretch_at : (rows : List ℕ) (from to i : ℕ) → from ≤ to → to ≤ length rows → i < length (take (to - from) (drop from rows))
    → (from + i < to) × (get_or (take (to - from) (drop from rows)) i 0 ≡ get_or rows (from + i) 0)
stretch_at rows from to i h l u =
    let within : i < to - from = omega (arith, stretch_length rows from to h l) in
    (omega arith, get_or-take (to - from) (drop from rows) i 0 within ∙ get_or-drop from rows i 0)

-- the least row that place k of a column from `from` on may have
abbrev pub least : List ℕ → ℕ → ℕ → ℕ
least rows from k = cond (leb k from) 0 (get_or rows (pred k) 0 + 1)

above : (first : Bool) (a row : ℕ) → (first || ltb a row) ≡ leb (cond first 0 (a + 1)) row
above true a row = sym (leb-zero row)
above false a row = rw add-one

pub least_first : (rows : List ℕ) (from : ℕ) → least rows from from ≡ 0
least_first rows from = rw (le-leb from from (omega arith))

pub least_next : (rows : List ℕ) (from k : ℕ) → from ≤ k → least rows from (k + 1) ≡ get_or rows k 0 + 1
least_next rows from k h = rw (lt-leb (k + 1) from (omega arith), add-one k)

module _ (n : ℕ) (rows : List ℕ) (k : ℕ) where
  pub general_range : (from : ℕ) → n ≤ get_or rows k 0 → general_entry n rows from k ≡ index_range
  general_range from h = rw (le-ltb (get_or rows k 0) n h)

  pub general_falls : (from : ℕ) → get_or rows k 0 < n → get_or rows k 0 < least rows from k → general_entry n rows from k ≡ rows_not_rising
  general_falls from h l =
      rw (lt-ltb (get_or rows k 0) n h, above (leb k from) (get_or rows (pred k) 0) (get_or rows k 0), lt-leb (least rows from k) (get_or rows k 0) l)

  pub general_right : (from : ℕ) → get_or rows k 0 < n → least rows from k ≤ get_or rows k 0 → general_entry n rows from k ≡ 0
  general_right from h l =
      rw (lt-ltb (get_or rows k 0) n h, above (leb k from) (get_or rows (pred k) 0) (get_or rows k 0), le-leb (least rows from k) (get_or rows k 0) l)

  pub lower_range : (j : ℕ) → n ≤ get_or rows k 0 → lower_entry n rows j k ≡ index_range
  lower_range j h = rw (le-ltb (get_or rows k 0) n h)

  pub lower_above : (j : ℕ) → get_or rows k 0 < n → get_or rows k 0 < j → lower_entry n rows j k ≡ upper_triangle
  lower_above j h l = rw (lt-ltb (get_or rows k 0) n h, lt-leb j (get_or rows k 0) l)

  pub lower_right : (j : ℕ) → get_or rows k 0 < n → j ≤ get_or rows k 0 → lower_entry n rows j k ≡ 0
  lower_right j h l = rw (lt-ltb (get_or rows k 0) n h, le-leb j (get_or rows k 0) l)

-- the pair that ends at place k
pub pair_falls : (rows : List ℕ) (k : ℕ) → 0 < k → get_or rows k 0 ≤ get_or rows (k - 1) 0 → rising_pair rows (k - 1) ≡ rows_not_rising
pair_falls rows k some h =
    let next : suc (k - 1) ≡ k = omega arith in
    rw (next, le-ltb (get_or rows (k - 1) 0) (get_or rows k 0) h) refl

pub pair_rises : (rows : List ℕ) (k : ℕ) → 0 < k → get_or rows (k - 1) 0 < get_or rows k 0 → rising_pair rows (k - 1) ≡ 0
pair_rises rows k some h =
    let next : suc (k - 1) ≡ k = omega arith in
    rw (next, lt-ltb (get_or rows (k - 1) 0) (get_or rows k 0) h) refl
