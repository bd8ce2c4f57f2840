-- The pairs have at most one entry a column (`entries_few`), by induction on the columns; and their text, which fits the writer's room, stays within
-- the reader's limit (`text_short`).
use mathlib.Core.Path.{◌≡◌}
use mathlib.Core.Logic.{◌⊎◌, inl, inr}
use mathlib.Core.Bool.{Bool, true, false, cond}
use mathlib.Core.List.{List, [], ◌∷◌, ◌++◌, append-nil}
use Prim.Native.Nat.{ℕ, zero, suc, ◌^◌, ◌≤◌, ◌<◌}
use native.Mathlib.Omega.{arith}
use lib.Dec.{eqb}
use lib.ListN.{length, get_or, length-append}
use Rattle.text_matrix_market.specs.File.{max_input}
use Rattle.text_report.specs.Pairs.{pattern_banner, pattern_size, matched_pairs, pairs_text}
use Rattle.text_report.proofs.Pairs.{text_within}
use Rattle.text_pairs_read.specs.Pairs.{pair_entry, pair_entries, Rows}

pub entries_few : (k : ℕ) (perm : List ℕ) → length (pair_entries k perm) ≤ k
unfolding pair_entries
entries_few zero perm = omega arith
entries_few (suc k) perm = go (eqb (get_or perm k 0) 4294967295) (entries_few k perm)
  where
    go : (none : Bool) → length (pair_entries k perm) ≤ k → length (pair_entries k perm ++ cond none [] (pair_entry (get_or perm k 0) k ∷ [])) ≤ suc k
    go true h = rw append-nil (omega arith)
    go false h = omega (arith, length-append (pair_entries k perm) (pair_entry (get_or perm k 0) k ∷ []))

-- a row, or none, is a number of 32 bits
row_fits : (n row : ℕ) → n ≤ 64 → (row ≡ 4294967295) ⊎ (row < n) → row < 2 ^ 32
row_fits n row h (inl e) = omega arith
row_fits n row h (inr l) = omega arith

pub text_short : (n : ℕ) (perm : List ℕ) → Rows n perm → (count : ℕ) → count ≤ 64 → length (pairs_text n count perm) ≤ max_input
unfolding pairs_text
text_short n perm r count h =
    omega (
      arith,
      length-append (pattern_banner ++ pattern_size n count) (matched_pairs n perm),
      length-append pattern_banner (pattern_size n count),
      text_within n count perm r.few (omega arith) (λ k l. row_fits n (get_or perm k 0) r.few (r.rows k l)),
    )
