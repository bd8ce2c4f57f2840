-- The pairs read line by line: the lines of the first columns leave the entries of these columns, followed by any text (`columns_read`). By
-- induction on the columns.
use Rattle.std.proofs.Common.{Ok}
use mathlib.Core.Path.{◌≡◌, refl, sym, ap, ap₂, ◌∙◌}
use mathlib.Core.Bool.{Bool, true, false, cond}
use mathlib.Core.Logic.{◌⊎◌, inl, inr}
use mathlib.Core.List.{List, [], ◌∷◌, ◌++◌, append-nil, append_assoc}
use Prim.Native.Nat.{ℕ, zero, suc, ◌+◌, ◌-◌, ◌*◌, ◌^◌, ◌≤◌, ◌<◌}
use native.Mathlib.Omega.{arith}
use borrow.Author.Tests.{le-leb, lt-ltb, eqb-false}
use lib.Dec.{eqb}
use lib.ListN.{length, get_or, length-append}
use Rattle.text_matrix_market.specs.declared.banner.Kind.TheVariants.{Pattern}
use Rattle.text_matrix_market.specs.declared.stages.Entry.{Entry}
use Rattle.text_matrix_market.specs.Text.{lines_of}
use Rattle.text_matrix_market.specs.File.{is_within, weight_fits, line_entry, entering, read_line, read_lines}
use Rattle.text_matrix_market.proofs.Entries.{an_entry, entered, short}
use Rattle.text_report.specs.Pairs.{matched_pair, matched_pairs}
use Rattle.text_pairs_read.specs.Pairs.{pair_entry, pair_entries, Rows}
use Rattle.text_pairs_read.proofs.Parts.{lines_first}
use Rattle.text_pairs_read.proofs.Lines.{two_numbers, two_feed, two_blank, two_read, two_length}

-- ---- one pair
within : (n index : ℕ) → index < n → is_within n (index + 1) ≡ true
within n index h = rw (le-leb 1 (index + 1) (omega arith), le-leb (index + 1) n (omega arith))

module _ (n count : ℕ) (few : n ≤ 64) where
  module _ (row column : ℕ) (h : row < n) (k : column < n) where
    pair_entry_lem : line_entry Pattern n (two_numbers (row + 1) (column + 1)) ≡ Ok (pair_entry row column)
    pair_entry_lem =
        let line : List ℕ = two_numbers (row + 1) (column + 1) in
        let w : weight_fits Pattern n 0 ≡ true = lt-ltb (n * 0) (2 ^ 48) (omega arith) in
        let r : row + 1 - 1 ≡ row = omega arith in
        let c : column + 1 - 1 ≡ column = omega arith in
        sym (an_entry Pattern n line (two_read (row + 1) (column + 1) (omega arith) (omega arith)) (within n row h) (within n column k) w refl)
        ∙ ap Ok (ap₂ pair_entry r c)

    pair_added : (entries : List Entry) → length entries < count
        → entering Pattern n count (entries ++ (pair_entry row column ∷ [])) ≡ read_line (entering Pattern n count entries) (two_numbers (row + 1) (column + 1))
    pair_added entries l =
        let line : List ℕ = two_numbers (row + 1) (column + 1) in
        short line (entering Pattern n count entries) (omega (arith, two_length (row + 1) (column + 1) (omega arith) (omega arith)))
        (entered Pattern n count entries line (two_blank (row + 1) (column + 1)) l pair_entry_lem)

    pair_line : (rest : List ℕ) → lines_of (matched_pair row column ++ rest) ≡ two_numbers (row + 1) (column + 1) ∷ lines_of rest
    unfolding matched_pair
    pair_line rest =
        let line : List ℕ = two_numbers (row + 1) (column + 1) in
        ap lines_of (append_assoc line (10 ∷ []) rest) ∙ lines_first line rest (two_feed (row + 1) (column + 1))

  -- ---- one column, with a pair or without
  column_read : (row column : ℕ) (none : Bool) → (none ≡ false → row < n) → column < n → (entries : List Entry) (rest : List ℕ)
      → length (entries ++ cond none [] (pair_entry row column ∷ [])) ≤ count
      → read_lines (entering Pattern n count entries) (lines_of (cond none [] (matched_pair row column) ++ rest))
      ≡ read_lines (entering Pattern n count (entries ++ cond none [] (pair_entry row column ∷ []))) (lines_of rest)
  unfolding read_lines
  column_read row column true h k entries rest l = ap (λ (es : List Entry). read_lines (entering Pattern n count es) (lines_of rest)) (sym (append-nil entries))
  column_read row column false h k entries rest l =
      let e : length entries < count = omega (arith, length-append entries (pair_entry row column ∷ [])) in
      rw (pair_line row column (h refl) k rest, pair_added row column (h refl) k entries e)

-- ---- the columns
module _ (n : ℕ) (perm : List ℕ) (r : Rows n perm) where
  has_row_lem : (k : ℕ) → k < n → eqb (get_or perm k 0) 4294967295 ≡ false → get_or perm k 0 < n
  has_row_lem k h e = go (r.rows k h)
    where
      go : (get_or perm k 0 ≡ 4294967295) ⊎ (get_or perm k 0 < n) → get_or perm k 0 < n
      go (inl x) = absurd (eqb-false (get_or perm k 0) 4294967295 e x)
      go (inr l) = l

  pub columns_read : (count k : ℕ) → k ≤ n → length (pair_entries k perm) ≤ count → (rest : List ℕ)
      → read_lines (entering Pattern n count []) (lines_of (matched_pairs k perm ++ rest)) ≡ read_lines (entering Pattern n count (pair_entries k perm))
      (lines_of rest)
  unfolding pair_entries matched_pairs
  columns_read count zero h l rest = refl
  columns_read count (suc k) h l rest =
      let none : Bool = eqb (get_or perm k 0) 4294967295 in
      let here : List ℕ = cond none [] (matched_pair (get_or perm k 0) k) in
      let e : length (pair_entries k perm) ≤ count = omega (arith, length-append (pair_entries k perm) (cond none [] (pair_entry (get_or perm k 0) k ∷ []))) in
      ap (λ (text : List ℕ). read_lines (entering Pattern n count []) (lines_of text)) (append_assoc (matched_pairs k perm) here rest)
      ∙ columns_read count k (omega arith) e (here ++ rest)
      ∙ column_read n count r.few (get_or perm k 0) k none (has_row_lem k h) h (pair_entries k perm) rest l
