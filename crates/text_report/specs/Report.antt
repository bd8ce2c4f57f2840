-- SPECIFICATION 11.4: The lines for a match and for a refusal, as bytes; and what it means that a function wrote a
-- text.
use Rattle.std.specs.Prelude.{cond, List, [], ◌∷◌, ◌++◌, ℕ, zero, suc, ◌+◌, eqb, get_or, Float}
use Rattle.std.specs.Float.{nan}
use Rattle.limits.specs.Limits.{none}
use Rattle.float64.specs.Number.{whole_of}
use Rattle.text_matrix_market.specs.Banner.{codes}
use Rattle.text_report.specs.Decimal.{decimal, signed_text}

-- ---- words
abbrev pub matched_word : List ℕ
matched_word = codes "matched "

abbrev pub of_word : List ℕ
of_word = codes " of "

abbrev pub counts_word : List ℕ
counts_word = codes "counts"

abbrev pub refused_word : List ℕ
refused_word = codes "refused "

abbrev pub line_feed : List ℕ
line_feed = codes "\n"

-- a text with a space in front
abbrev pub spaced : List ℕ → List ℕ
spaced text = 32 ∷ text

-- ---- lines

-- the pairs and N
unfoldable pub matched_line : ℕ → ℕ → List ℕ
matched_line pairs n = matched_word ++ decimal pairs ++ of_word ++ decimal n ++ line_feed

-- the row of a column, counted from 1; 0 if it has none
unfoldable pub row_number : ℕ → ℕ
row_number row = cond (eqb row none) 0 (row + 1)

-- line k: k, the row of column k, u of row k, v of column k
unfoldable pub pair_line : ℕ → ℕ → Float → Float → List ℕ
pair_line k row u v =
    decimal k ++ spaced (decimal (row_number row))
    ++ spaced (signed_text (whole_of u)) ++ spaced (signed_text (whole_of v)) ++ line_feed

-- lines 1 to `count`; places of the lists are counted from 0
unfoldable pub pair_lines : ℕ → List ℕ → List Float → List Float → List ℕ
pair_lines zero perm u v = []
pair_lines (suc k) perm u v = pair_lines k perm u v ++ pair_line (k + 1) (get_or perm k 0) (get_or u k nan) (get_or v k nan)

-- the numbers at places 1 to `count` of a list
unfoldable pub numbers : ℕ → List ℕ → List ℕ
numbers zero counts = []
numbers (suc k) counts = numbers k counts ++ spaced (decimal (get_or counts (k + 1) 0))

-- the seven counts, which follow the number of pairs
unfoldable pub counts_line : List ℕ → List ℕ
counts_line counts = counts_word ++ numbers 7 counts ++ line_feed

-- ---- the text: of a match with its counts, and of a refusal

unfoldable pub match_text : ℕ → List ℕ → List Float → List Float → List ℕ → List ℕ
match_text n perm u v counts = matched_line (get_or counts 0 0) n ++ pair_lines n perm u v ++ counts_line counts

unfoldable pub refused_text : ℕ → List ℕ
refused_text number = refused_word ++ decimal number ++ line_feed
