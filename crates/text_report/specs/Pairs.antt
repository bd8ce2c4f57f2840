-- SPECIFICATION 11.4: The text that the program `pairs` prints of a match: a pattern file of its pairs, by rising
-- column.
use Rattle.std.specs.Prelude.{cond, List, [], ◌++◌, ℕ, zero, suc, ◌+◌, eqb, get_or}
use Rattle.limits.specs.Limits.{none}
use Rattle.text_matrix_market.specs.Banner.{codes}
use Rattle.text_report.specs.Decimal.{decimal}
use Rattle.text_report.specs.Report.{line_feed, spaced}

abbrev pub pattern_banner : List ℕ
pattern_banner = codes "%%MatrixMarket matrix coordinate pattern general\n"

-- N twice, and the matched count
unfoldable pub pattern_size : ℕ → ℕ → List ℕ
pattern_size n pairs = decimal n ++ spaced (decimal n) ++ spaced (decimal pairs) ++ line_feed

-- row and column of a pair, counted from 1
unfoldable pub matched_pair : ℕ → ℕ → List ℕ
matched_pair row column = decimal (row + 1) ++ spaced (decimal (column + 1)) ++ line_feed

-- the pair of a column; a column without a row has none
abbrev pub column_pair : ℕ → ℕ → List ℕ
column_pair row column = cond (eqb row none) [] (matched_pair row column)

-- the pairs of the first columns
unfoldable pub matched_pairs : ℕ → List ℕ → List ℕ
matched_pairs zero perm = []
matched_pairs (suc k) perm = matched_pairs k perm ++ column_pair (get_or perm k 0) k

unfoldable pub pairs_text : ℕ → ℕ → List ℕ → List ℕ
pairs_text n pairs perm = pattern_banner ++ pattern_size n pairs ++ matched_pairs n perm
