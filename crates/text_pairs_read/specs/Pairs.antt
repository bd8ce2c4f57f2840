-- The pairs of a match as the entries of a pattern file, by rising column, and what a list must be to have them.
use Rattle.std.specs.Prelude.{◌≡◌, ◌⊎◌, cond, List, [], ◌∷◌, ◌++◌, ℕ, zero, suc, ◌≤◌, ◌<◌, eqb, length, get_or}
use Rattle.limits.specs.Limits.{none}
use Rattle.text_matrix_market.specs.declared.stages.Entry.{Entry}

-- row and column of a pair, without a weight
abbrev pub pair_entry : ℕ → ℕ → Entry
pair_entry row column = record { row = row; column = column; weight = 0 }

-- the entries of the first columns; a column without a row has none
unfoldable pub pair_entries : ℕ → List ℕ → List Entry
pair_entries zero perm = []
pair_entries (suc k) perm =
    pair_entries k perm ++ cond (eqb (get_or perm k 0) none) [] (pair_entry (get_or perm k 0) k ∷ [])

-- n columns, within the limit of a file, and for each its row or none
pub record Rows (n : ℕ) (perm : List ℕ) : Type 0 where
  pub few : n ≤ 64
  pub places : length perm ≡ n
  pub rows : (j : ℕ) → j < n → (get_or perm j 0 ≡ none) ⊎ (get_or perm j 0 < n)
