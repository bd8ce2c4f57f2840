-- The lengths of the lines of a pattern file, part by part, and how its pairs grow by one; with 64 columns it has at most 972 bytes. By the length of
-- an append, by induction on the count, and by the number of digits of what each type holds.
use mathlib.Core.Path.{◌≡◌, sym, ap}
use mathlib.Core.Logic.{◌≢◌}
use mathlib.Core.Bool.{Bool, true, false, cond}
use mathlib.Core.List.{List, [], ◌++◌}
use Prim.Native.Nat.{ℕ, zero, suc, ◌+◌, ◌*◌, ◌^◌, ◌≤◌, ◌<◌}
use native.Mathlib.Numerals.{add-one}
use native.Mathlib.Omega.{arith}
use borrow.Author.Tests.{eq-eqb, ne_eqb}
use lib.Dec.{eqb}
use lib.ListN.{length, get_or, length-append}
use Rattle.text_report.specs.inner.Steps.{output_length}
use Rattle.text_report.specs.Decimal.{decimal}
use Rattle.text_report.specs.Pairs.{pattern_size, matched_pair, column_pair, matched_pairs}
use Rattle.text_report.proofs.Digits.{decimal_length}
use Rattle.text_report.proofs.Lines.{rising}

pub size_length : (n pairs : ℕ) → length (pattern_size n pairs) ≡ length (decimal n) + (1 + length (decimal n)) + (1 + length (decimal pairs)) + 1
unfolding pattern_size
size_length n pairs = simp length-append (omega arith)

pub matched_pair_length : (row column : ℕ) → length (matched_pair row column) ≡ length (decimal (row + 1)) + (1 + length (decimal (column + 1))) + 1
unfolding matched_pair
matched_pair_length row column = simp length-append (omega arith)

-- ---- the pair of a column

pub no_pair : (row column : ℕ) → row ≡ 4294967295 → column_pair row column ≡ []
no_pair row column e = ap (λ (none : Bool). cond none [] (matched_pair row column)) (eq-eqb row 4294967295 e)

pub one_pair : (row column : ℕ) → row ≢ 4294967295 → column_pair row column ≡ matched_pair row column
one_pair row column h = ap (λ (none : Bool). cond none [] (matched_pair row column)) (ne_eqb row 4294967295 h)

-- ---- the first pairs are no longer than all

module _ (perm : List ℕ) where
  abbrev pair_at : ℕ → List ℕ
  pair_at k = column_pair (get_or perm k 0) k

  pub pair_more : (k : ℕ) → matched_pairs k perm ++ pair_at k ≡ matched_pairs (k + 1) perm
  unfolding matched_pairs
  pair_more k = ap (λ (j : ℕ). matched_pairs j perm) (sym (add-one k))

  pub pairs_length : (k : ℕ) → length (matched_pairs (suc k) perm) ≡ length (matched_pairs k perm) + length (pair_at k)
  unfolding matched_pairs
  pairs_length k = length-append (matched_pairs k perm) (pair_at k)

  pub pairs_rise : (k n : ℕ) → k ≤ n → length (matched_pairs k perm) ≤ length (matched_pairs n perm)
  pairs_rise k n l = rising (λ (i : ℕ). length (matched_pairs i perm)) (λ (i : ℕ). omega (arith, pairs_length i)) k n l

-- ---- how long the text can get

pair_within : (row column : ℕ) → row < 2 ^ 32 → column < 64 → length (column_pair row column) ≤ 14
pair_within row column r l = go (eqb row 4294967295)
  where
    go : (none : Bool) → length (cond none [] (matched_pair row column)) ≤ 14
    go true = omega arith
    go false = omega (arith, matched_pair_length row column, decimal_length 9 (row + 1) (omega arith), decimal_length 1 (column + 1) (omega arith))

pairs_within : (n : ℕ) (perm : List ℕ) → n ≤ 64 → ((k : ℕ) → k < n → get_or perm k 0 < 2 ^ 32) → (k : ℕ) → k ≤ n → length (matched_pairs k perm) ≤ 14 * k
unfolding matched_pairs
pairs_within n perm h rows zero l = omega arith
pairs_within n perm h rows (suc k) l =
    omega (arith, pairs_length perm k, pairs_within n perm h rows k (omega arith), pair_within (get_or perm k 0) k (rows k l) (omega arith))

pub text_within : (n pairs : ℕ) (perm : List ℕ) → n ≤ 64 → pairs < 2 ^ 64 → ((k : ℕ) → k < n → get_or perm k 0 < 2 ^ 32)
    → 49 + length (pattern_size n pairs) + length (matched_pairs n perm) ≤ output_length
text_within n pairs perm h p rows =
    omega (arith, size_length n pairs, decimal_length 1 n (omega arith), decimal_length 19 pairs (omega arith), pairs_within n perm h rows n (omega arith))
