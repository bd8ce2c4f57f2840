-- How long the texts can get: a line of a match takes at most 50 bytes, the first one 35 and the counts 154, so that 64 lines and these are below
-- 4,096. By the number of digits of what each type holds.
use mathlib.Core.Bool.{Bool, true, false, cond}
use mathlib.Core.List.{List}
use Prim.Native.Nat.{ℕ, zero, suc, ◌+◌, ◌*◌, ◌^◌, ◌≤◌, ◌<◌}
use native.Mathlib.Omega.{arith}
use lib.Dec.{eqb}
use lib.IntN.{ℤ, pos, negsuc, nat_abs}
use lib.ListN.{length, get_or}
use lib.Ieee.{Float, nan}
use Rattle.float64.specs.Number.{whole_of}
use Rattle.text_report.specs.Decimal.{signed_text}
use Rattle.text_report.specs.Report.{matched_line, pair_line, pair_lines, row_number, numbers, counts_line}
use Rattle.text_report.specs.inner.Steps.{Printable, AllPrintable, output_length}
use Rattle.text_report.proofs.Digits.{decimal_length}
use Rattle.text_report.proofs.Lines.{matched_length, pair_length, line_length, number_length, counts_length}

row_within : (row : ℕ) → row_number row ≤ row + 1
unfolding row_number
row_within row = go (eqb row 4294967295)
  where
    go : (none : Bool) → cond none 0 (row + 1) ≤ row + 1
    go true = omega arith
    go false = omega arith

signed_within : (z : ℤ) → nat_abs z ≤ 2 ^ 53 → length (signed_text z) ≤ 17
unfolding signed_text
signed_within (pos n) l = omega (arith, decimal_length 15 n (omega arith))
signed_within (negsuc n) l = omega (arith, decimal_length 15 (suc n) (omega arith))

pair_within : (k row : ℕ) (u v : Float) → k ≤ 64 → row < 2 ^ 32 → Printable u → Printable v → length (pair_line k row u v) ≤ 50
pair_within k row u v h r p q =
    omega (
      arith,
      pair_length k row u v,
      decimal_length 1 k (omega arith),
      decimal_length 9 (row_number row) (omega (arith, row_within row)),
      signed_within (whole_of u) p.small,
      signed_within (whole_of v) q.small,
    )

matched_within : (pairs n : ℕ) → pairs < 2 ^ 64 → n ≤ 64 → length (matched_line pairs n) ≤ 35
matched_within pairs n p h = omega (arith, matched_length pairs n, decimal_length 19 pairs (omega arith), decimal_length 1 n (omega arith))

module _ (n : ℕ) (perm : List ℕ) (u v : List Float) (h : n ≤ 64) (rows : (k : ℕ) → get_or perm k 0 < 2 ^ 32) (p : AllPrintable n u) (q : AllPrintable n v) where
  lines_within : (k : ℕ) → k ≤ n → length (pair_lines k perm u v) ≤ 50 * k
  unfolding pair_lines
  lines_within zero l = omega arith
  lines_within (suc k) l =
      omega (
        arith,
        line_length perm u v k,
        lines_within k (omega arith),
        pair_within (k + 1) (get_or perm k 0) (get_or u k nan) (get_or v k nan)
            (omega arith) (rows k) (p k l) (q k l),
      )

module _ (counts : List ℕ) (small : (k : ℕ) → get_or counts k 0 < 2 ^ 64) where
  numbers_within : (k : ℕ) → length (numbers k counts) ≤ 21 * k
  unfolding numbers
  numbers_within zero = omega arith
  numbers_within (suc k) = omega (arith, number_length counts k, numbers_within k, decimal_length 19 (get_or counts (k + 1) 0) (omega (arith, small (k + 1))))

  counts_within : length (counts_line counts) ≤ 154
  counts_within = omega (arith, counts_length counts, numbers_within 7)

pub parts_within : (n : ℕ) (perm : List ℕ) (u v : List Float) (counts : List ℕ) → n ≤ 64 → ((k : ℕ) → get_or perm k 0 < 2 ^ 32) → AllPrintable n u
    → AllPrintable n v → ((k : ℕ) → get_or counts k 0 < 2 ^ 64)
    → length (matched_line (get_or counts 0 0) n) + length (pair_lines n perm u v) + length (counts_line counts) ≤ output_length
parts_within n perm u v counts h rows p q small =
    omega (arith, matched_within (get_or counts 0 0) n (small 0) h, lines_within n perm u v h rows p q n (omega arith), counts_within counts small)
