-- The lines of the text as they are read: two numbers, or three, each a word (`two_read`, `three_read`), none of them blank or a comment. By the words
-- of a line, one after the other.
use Rattle.std.proofs.Common.{Some}
use mathlib.Core.Path.{◌≡◌, refl, ap, ◌∙◌}
use mathlib.Core.Bool.{false}
use mathlib.Core.List.{List, [], ◌∷◌, ◌++◌, append_assoc}
use Prim.Native.Nat.{ℕ, ◌≤◌, ◌<◌}
use native.Mathlib.Omega.{arith}
use borrow.Author.Tests.{ne_eqb}
use lib.Dec.{eqb}
use lib.ListN.{length, length-append}
use Rattle.text_matrix_market.specs.declared.banner.Kind.TheVariants.{General, Pattern}
use Rattle.text_matrix_market.specs.Text.{is_blank, is_line_feed, is_nil, words_of, is_blank_line, begins_percent}
use Rattle.text_matrix_market.specs.Numbers.{three_of, two_of, numbers_of}
use Rattle.text_report.specs.Decimal.{decimal}
use Rattle.text_report.specs.Report.{spaced}
use Rattle.text_report.proofs.Digits.{decimal_length}
use Rattle.text_pairs_read.proofs.Parts.{None, none_append, words_first, words_last}
use Rattle.text_pairs_read.proofs.Numerals.{Taken, decimal_some, decimal_none, number_back}

-- ---- no digit is a blank, a line feed or a percent sign
no_blank : (b : ℕ) → 48 ≤ b → is_blank b ≡ false
no_blank b h = rw (ne_eqb b 32 (λ e. omega arith), ne_eqb b 9 (λ e. omega arith), ne_eqb b 13 (λ e. omega arith))

no_feed : (b : ℕ) → 48 ≤ b → is_line_feed b ≡ false
no_feed b h = ne_eqb b 10 (λ e. omega arith)

percent_first : (line rest : List ℕ) → 0 < length line → None (λ b. eqb b 37) line → begins_percent (line ++ rest) ≡ false
unfolding begins_percent
percent_first [] rest h p = let z : ⊥ = omega arith in absurd z
percent_first (b ∷ line) rest h p = p.0

-- ---- numbers with a space between them
abbrev pub two_numbers : ℕ → ℕ → List ℕ
two_numbers a b = decimal a ++ spaced (decimal b)

abbrev pub three_numbers : ℕ → ℕ → ℕ → List ℕ
three_numbers a b c = decimal a ++ spaced (decimal b) ++ spaced (decimal c)

first_word : (n : ℕ) (rest : List ℕ) → words_of (decimal n ++ spaced rest) ≡ decimal n ∷ words_of rest
first_word n rest = words_first (decimal n) (decimal_some n) (decimal_none is_blank no_blank n) rest

last_word : (n : ℕ) → words_of (decimal n) ≡ decimal n ∷ []
last_word n = words_last (decimal n) (decimal_some n) (decimal_none is_blank no_blank n)

-- ---- two numbers
module _ (a b : ℕ) where
  two_words : words_of (two_numbers a b) ≡ decimal a ∷ decimal b ∷ []
  two_words = first_word a (decimal b) ∙ ap (λ (words : List (List ℕ)). decimal a ∷ words) (last_word b)

  pub two_feed : None is_line_feed (two_numbers a b)
  two_feed = none_append is_line_feed (decimal a) (spaced (decimal b)) (decimal_none is_line_feed no_feed a) (refl, decimal_none is_line_feed no_feed b)

  pub two_blank : is_blank_line (two_numbers a b) ≡ false
  unfolding is_blank_line
  two_blank = ap is_nil two_words

  module _ (h : Taken a) (k : Taken b) where
    pub two_read : numbers_of Pattern (two_numbers a b) ≡ Some (a, b, 0)
    unfolding numbers_of two_of
    two_read = rw (two_words, number_back a h, number_back b k)

    pub two_length : length (two_numbers a b) ≤ 37
    two_length = omega (arith, length-append (decimal a) (spaced (decimal b)), decimal_length 17 a h, decimal_length 17 b k)

-- ---- three numbers
module _ (a b c : ℕ) where
  three_words : words_of (three_numbers a b c) ≡ decimal a ∷ decimal b ∷ decimal c ∷ []
  three_words =
      ap words_of (append_assoc (decimal a) (spaced (decimal b)) (spaced (decimal c)))
      ∙ first_word a (two_numbers b c) ∙ ap (λ (words : List (List ℕ)). decimal a ∷ words) (two_words b c)

  pub three_feed : None is_line_feed (three_numbers a b c)
  three_feed = none_append is_line_feed (two_numbers a b) (spaced (decimal c)) (two_feed a b) (refl, decimal_none is_line_feed no_feed c)

  pub three_blank : is_blank_line (three_numbers a b c) ≡ false
  unfolding is_blank_line
  three_blank = ap is_nil three_words

  pub three_percent : begins_percent (three_numbers a b c) ≡ false
  three_percent =
      ap begins_percent (append_assoc (decimal a) (spaced (decimal b)) (spaced (decimal c)))
      ∙ percent_first (decimal a) (spaced (two_numbers b c)) (decimal_some a) (decimal_none (λ x. eqb x 37) (λ x l. ne_eqb x 37 (λ e. omega arith)) a)

  module _ (h : Taken a) (k : Taken b) (l : Taken c) where
    pub three_read : numbers_of General (three_numbers a b c) ≡ Some (a, b, c)
    unfolding numbers_of three_of
    three_read = rw (three_words, number_back a h, number_back b k, number_back c l)

    pub three_length : length (three_numbers a b c) ≤ 56
    three_length = omega (arith, length-append (two_numbers a b) (spaced (decimal c)), two_length a b h k, decimal_length 17 c l)
