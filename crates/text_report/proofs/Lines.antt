-- The lengths of the lines, part by part; and how the lines and the numbers grow by one. By the length of an append, and by induction on the count.
use mathlib.Core.Path.{◌≡◌, sym, ap}
use mathlib.Core.Logic.{◌⊎◌, inl, inr}
use mathlib.Core.List.{List, ◌++◌}
use Prim.Native.Nat.{ℕ, zero, suc, ◌+◌, ◌≤◌, ◌<◌}
use native.Mathlib.Nat.{le_refl, le_trans, le_of_eq, eq-or-lt_of_le}
use native.Mathlib.Numerals.{add-one}
use native.Mathlib.Omega.{arith}
use lib.ListN.{length, get_or, length-append}
use lib.Ieee.{Float, nan}
use Rattle.float64.specs.Number.{whole_of}
use Rattle.text_report.specs.Decimal.{decimal, signed_text}
use Rattle.text_report.specs.Report.{spaced, matched_line, pair_line, pair_lines, row_number, numbers, counts_line}

pub matched_length : (pairs n : ℕ) → length (matched_line pairs n) ≡ 8 + length (decimal pairs) + 4 + length (decimal n) + 1
unfolding matched_line
matched_length pairs n = simp length-append

pub pair_length : (k row : ℕ) (u v : Float) → length (pair_line k row u v) ≡ length (decimal k) + (1 + length (decimal (row_number row)))
    + (1 + length (signed_text (whole_of u))) + (1 + length (signed_text (whole_of v))) + 1
unfolding pair_line
pair_length k row u v = simp length-append (omega arith)

-- ---- the first lines, and the first numbers, are no longer than all

pub rising : (f : ℕ → ℕ) → ((k : ℕ) → f k ≤ f (suc k)) → (k n : ℕ) → k ≤ n → f k ≤ f n
rising f step k zero l = let z : k ≡ 0 = omega arith in rw z (le_refl (f 0))
rising f step k (suc n) l = go (eq-or-lt_of_le l) (λ h. rising f step k n h)
  where
    go : (k ≡ suc n) ⊎ (k < suc n) → (k ≤ n → f k ≤ f n) → f k ≤ f (suc n)
    go (inl e) h = le_of_eq (ap f e)
    go (inr h) g = le_trans (g (omega arith)) (step n)

module _ (perm : List ℕ) (u v : List Float) where
  abbrev line_at : ℕ → List ℕ
  line_at k = pair_line (k + 1) (get_or perm k 0) (get_or u k nan) (get_or v k nan)

  pub line_more : (k : ℕ) → pair_lines k perm u v ++ line_at k ≡ pair_lines (k + 1) perm u v
  unfolding pair_lines
  line_more k = ap (λ (j : ℕ). pair_lines j perm u v) (sym (add-one k))

  pub line_length : (k : ℕ) → length (pair_lines (suc k) perm u v) ≡ length (pair_lines k perm u v) + length (line_at k)
  unfolding pair_lines
  line_length k = length-append (pair_lines k perm u v) (line_at k)

  pub lines_rise : (k n : ℕ) → k ≤ n → length (pair_lines k perm u v) ≤ length (pair_lines n perm u v)
  lines_rise k n l = rising (λ (i : ℕ). length (pair_lines i perm u v)) (λ (i : ℕ). omega (arith, line_length i)) k n l

module _ (counts : List ℕ) where
  abbrev number_at : ℕ → List ℕ
  number_at k = spaced (decimal (get_or counts (k + 1) 0))

  pub number_more : (k : ℕ) → numbers k counts ++ number_at k ≡ numbers (k + 1) counts
  unfolding numbers
  number_more k = ap (λ (j : ℕ). numbers j counts) (sym (add-one k))

  pub number_length : (k : ℕ) → length (numbers (suc k) counts) ≡ length (numbers k counts) + length (number_at k)
  unfolding numbers
  number_length k = length-append (numbers k counts) (number_at k)

  pub numbers_rise : (k n : ℕ) → k ≤ n → length (numbers k counts) ≤ length (numbers n counts)
  numbers_rise k n l = rising (λ (i : ℕ). length (numbers i counts)) (λ (i : ℕ). omega (arith, number_length i)) k n l

  pub counts_length : length (counts_line counts) ≡ 6 + length (numbers 7 counts) + 1
  unfolding counts_line
  counts_length = simp length-append
