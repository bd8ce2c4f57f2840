-- SPECIFICATION 11.1: A number is one to eighteen decimal digits. A size line is three numbers; an entry line is two,
-- followed by what its kind of file has there: a number, a number that may begin with a minus, or nothing.
use Rattle.std.specs.Prelude.{Bool, true, false, cond, ◌&&◌, Option, Some, None, List, [], ◌∷◌}
use Rattle.std.specs.Prelude.{ℕ, ◌+◌, ◌-◌, ◌*◌, eqb, leb, length}
use Rattle.text_matrix_market.specs.declared.banner.Kind.{Kind}
use Rattle.text_matrix_market.specs.declared.banner.Kind.TheVariants.{General, Symmetric, Pattern}
use Rattle.text_matrix_market.specs.Text.{words_of}

-- `0` to `9`
abbrev pub is_digit : ℕ → Bool
is_digit b = leb 48 b && leb b 57

-- the number, if the test holds
abbrev pub only_if : Bool → Option ℕ → Option ℕ
only_if true number = number
only_if false number = None

-- the number of digits that follow those of `value`
unfoldable pub decimal_value : ℕ → List ℕ → Option ℕ
decimal_value value [] = Some value
decimal_value value (b ∷ digits) = only_if (is_digit b) (decimal_value (10 * value + (b - 48)) digits)

-- the number of a word
unfoldable pub number_read : List ℕ → Option ℕ
number_read word = only_if (leb 1 (length word) && leb (length word) 18) (decimal_value 0 word)

-- the size of a word's number, which may begin with one minus
unfoldable pub size_read : List ℕ → Option ℕ
size_read [] = None
size_read (b ∷ word) = cond (eqb b 45) (number_read word) (number_read (b ∷ word))

-- three numbers, if all three are numbers
abbrev pub three : Option ℕ → Option ℕ → Option ℕ → Option (ℕ × ℕ × ℕ)
three None b c = None
three (Some a) None c = None
three (Some a) (Some b) None = None
three (Some a) (Some b) (Some c) = Some (a, b, c)

-- the numbers of three words, the last read in its own way; none for more or fewer words
unfoldable pub three_of : (List ℕ → Option ℕ) → List (List ℕ) → Option (ℕ × ℕ × ℕ)
three_of last [] = None
three_of last (a ∷ []) = None
three_of last (a ∷ b ∷ []) = None
three_of last (a ∷ b ∷ c ∷ []) = three (number_read a) (number_read b) (last c)
three_of last (a ∷ b ∷ c ∷ d ∷ words) = None

-- the numbers of two words, and a 0 for the third
unfoldable pub two_of : List (List ℕ) → Option (ℕ × ℕ × ℕ)
two_of [] = None
two_of (a ∷ []) = None
two_of (a ∷ b ∷ []) = three (number_read a) (number_read b) (Some 0)
two_of (a ∷ b ∷ c ∷ words) = None

-- the numbers of a line: row, column and weight of an entry
unfoldable pub numbers_of : Kind → List ℕ → Option (ℕ × ℕ × ℕ)
numbers_of General line = three_of number_read (words_of line)
numbers_of Symmetric line = three_of size_read (words_of line)
numbers_of Pattern line = two_of (words_of line)
