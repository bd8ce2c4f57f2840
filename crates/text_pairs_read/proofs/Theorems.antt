-- The text of a match's pairs, read again, is the pattern file of these pairs (`read_again`). Banner, size line and pairs by what each line leaves; at
-- the end the count is met and no pair is repeated.
use Rattle.std.proofs.Common.{Some}
use mathlib.Core.Path.{◌≡◌, refl, sym, ap, ◌∙◌}
use mathlib.Core.List.{List, [], ◌∷◌, ◌++◌, append-nil, append_assoc}
use Prim.Native.Nat.{ℕ, ◌≤◌}
use native.Mathlib.Omega.{arith}
use borrow.Author.Tests.{le-leb, eq-eqb}
use lib.ListN.{length}
use Rattle.text_matrix_market.specs.declared.banner.Kind.TheVariants.{Pattern}
use Rattle.text_matrix_market.specs.Text.{cut, non_empty, lines_of, words_of, is_blank_line, begins_percent}
use Rattle.text_matrix_market.specs.Numbers.{decimal_value, number_read, three_of, two_of, numbers_of}
use Rattle.text_matrix_market.specs.Banner.{same_word, same_words, codes, is_banner, banner_kind}
use Rattle.text_matrix_market.specs.File.{max_input, line_entry, State, start, sizing, entering, content, read_line, read_lines, file, reading_at_end, reading_of}
use Rattle.text_matrix_market.specs.File.{pair_among, repeats, unrepeated, file_of}
use Rattle.text_matrix_market.proofs.Entries.{banner_there, a_size, short}
use Rattle.text_report.specs.Decimal.{digits, decimal}
use Rattle.text_report.specs.Pairs.{pattern_banner, pattern_size, matched_pair, matched_pairs, pairs_text}
use Rattle.text_pairs_read.specs.Pairs.{pair_entry, pair_entries, Rows}
use Rattle.text_pairs_read.proofs.Parts.{lines_first}
use Rattle.text_pairs_read.proofs.Lines.{three_numbers, three_feed, three_blank, three_percent, three_read, three_length}
use Rattle.text_pairs_read.proofs.Columns.{columns_read}
use Rattle.text_pairs_read.proofs.Lengths.{entries_few, text_short}
use Rattle.text_pairs_read.proofs.Apart.{pairs_apart}

-- ---- the banner
abbrev banner_line : List ℕ
banner_line = codes "%%MatrixMarket matrix coordinate pattern general"

banner_line_lem : (rest : List ℕ) → lines_of (pattern_banner ++ rest) ≡ banner_line ∷ lines_of rest
unfolding lines_of cut
banner_line_lem rest = refl

banner_pattern : banner_kind banner_line ≡ Some Pattern
unfolding cut non_empty words_of begins_percent same_word same_words is_banner banner_kind
banner_pattern = refl

banner_read : sizing Pattern ≡ read_line start banner_line
banner_read = short banner_line start (omega arith) (banner_there banner_line banner_pattern)

-- ---- the size line
module _ (n count : ℕ) where
  size_line_lem : (rest : List ℕ) → lines_of (pattern_size n count ++ rest) ≡ three_numbers n n count ∷ lines_of rest
  unfolding pattern_size
  size_line_lem rest =
      let line : List ℕ = three_numbers n n count in
      ap lines_of (append_assoc line (10 ∷ []) rest) ∙ lines_first line rest (three_feed n n count)

  size_read_lem : n ≤ 64 → count ≤ 64 → entering Pattern n count [] ≡ read_line (sizing Pattern) (three_numbers n n count)
  size_read_lem few met =
      let line : List ℕ = three_numbers n n count in
      short line (sizing Pattern) (omega (arith, three_length n n count (omega arith) (omega arith) (omega arith)))
      (a_size Pattern line (three_blank n n count) (three_percent n n count) (three_read n n count (omega arith) (omega arith) (omega arith)) refl few
      (omega arith))

-- ---- the text
module _ (n : ℕ) (perm : List ℕ) (r : Rows n perm) where
  abbrev pair_count : ℕ
  pair_count = length (pair_entries n perm)

  count_few : pair_count ≤ 64
  count_few = omega (arith, entries_few n perm, r.few)

  text_lines : lines_of (pairs_text n pair_count perm) ≡ banner_line ∷ three_numbers n n pair_count ∷ lines_of (matched_pairs n perm)
  unfolding pairs_text
  text_lines =
      ap lines_of (append_assoc pattern_banner (pattern_size n pair_count) (matched_pairs n perm))
      ∙ banner_line_lem (pattern_size n pair_count ++ matched_pairs n perm)
      ∙ ap (λ (lines : List (List ℕ)). banner_line ∷ lines) (size_line_lem n pair_count (matched_pairs n perm))

  pairs_read : read_lines (entering Pattern n pair_count []) (lines_of (matched_pairs n perm)) ≡ entering Pattern n pair_count (pair_entries n perm)
  unfolding read_lines lines_of cut
  pairs_read =
      ap (λ (text : List ℕ). read_lines (entering Pattern n pair_count []) (lines_of text)) (sym (append-nil (matched_pairs n perm)))
      ∙ columns_read n perm r pair_count n (omega arith) (omega arith) []

  text_read : read_lines start (lines_of (pairs_text n pair_count perm)) ≡ entering Pattern n pair_count (pair_entries n perm)
  unfolding read_lines
  text_read =
      let size : List ℕ = three_numbers n n pair_count in
      let below : List (List ℕ) = lines_of (matched_pairs n perm) in
      ap (read_lines start) text_lines
      ∙ ap (λ (state : State). read_lines (read_line state size) below) (sym banner_read)
      ∙ ap (λ (state : State). read_lines state below) (sym (size_read_lem n pair_count r.few count_few))
      ∙ pairs_read

  reading : reading_of (pairs_text n pair_count perm) ≡ file Pattern n (pair_entries n perm)
  unfolding reading_of reading_at_end
  reading = rw (le-leb (length (pairs_text n pair_count perm)) max_input (text_short n perm r pair_count count_few), text_read, eq-eqb pair_count pair_count refl)

  pub read_again : file_of (pairs_text n (length (pair_entries n perm)) perm) ≡ file Pattern n (pair_entries n perm)
  unfolding file_of
  read_again = ap unrepeated reading ∙ rw (pairs_apart n perm)

-- ---- an example
three_pairs : file_of (pairs_text 3 3 (2 ∷ 0 ∷ 1 ∷ [])) ≡ file Pattern 3 (pair_entry 2 0 ∷ pair_entry 0 1 ∷ pair_entry 1 2 ∷ [])
unfolding digits decimal pattern_size matched_pair matched_pairs pairs_text cut non_empty lines_of words_of is_blank_line begins_percent decimal_value number_read
    three_of two_of numbers_of same_word same_words is_banner banner_kind line_entry content read_line read_lines reading_at_end reading_of pair_among repeats file_of
three_pairs = refl
