-- SPECIFICATION 11.1: Lines of an input and words of a line. A byte is a number below 256.
use Rattle.std.specs.Prelude.{Bool, true, false, ◌||◌, List, [], ◌∷◌, ℕ, eqb}

-- a line feed
abbrev pub is_line_feed : ℕ → Bool
is_line_feed b = eqb b 10

-- a space, a tab or a carriage return
abbrev pub is_blank : ℕ → Bool
is_blank b = eqb b 32 || (eqb b 9 || eqb b 13)

-- a byte before parts: it ends a part, or belongs to the first
abbrev pub prepend : Bool → ℕ → List (List ℕ) → List (List ℕ)
prepend true b parts = [] ∷ parts
prepend false b [] = (b ∷ []) ∷ []
prepend false b (part ∷ parts) = (b ∷ part) ∷ parts

-- the parts of a list. A byte that passes the test ends a part and belongs to none; the last part may lack it
unfoldable pub cut : (ℕ → Bool) → List ℕ → List (List ℕ)
cut ends [] = []
cut ends (b ∷ bytes) = prepend (ends b) b (cut ends bytes)

-- the parts that are not empty
unfoldable pub non_empty : List (List ℕ) → List (List ℕ)
non_empty [] = []
non_empty ([] ∷ parts) = non_empty parts
non_empty ((b ∷ part) ∷ parts) = (b ∷ part) ∷ non_empty parts

-- a line feed ends a line, and may be missing at the end of the input
unfoldable pub lines_of : List ℕ → List (List ℕ)
lines_of input = cut is_line_feed input

-- one or more blanks separate words, and may begin or end a line
unfoldable pub words_of : List ℕ → List (List ℕ)
words_of line = non_empty (cut is_blank line)

-- no words
abbrev pub is_nil : List (List ℕ) → Bool
is_nil [] = true
is_nil (word ∷ words) = false

-- a line of blanks only, or an empty one
unfoldable pub is_blank_line : List ℕ → Bool
is_blank_line line = is_nil (words_of line)

-- the line's first byte is `%`
unfoldable pub begins_percent : List ℕ → Bool
begins_percent [] = false
begins_percent (b ∷ line) = eqb b 37
