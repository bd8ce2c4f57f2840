-- SPECIFICATION 9.1: The logarithm of a double to base two, in units of 1/65,536: the definition that computes
-- (`whole_log`), and what it says of the exact number (`Logarithm`). proofs/Theorems.antt shows that the first is the
-- second.
use Rattle.std.specs.Prelude.{◌≡◌, ℕ, zero, suc, ◌+◌, ◌-◌, ◌*◌, ◌/◌, ◌^◌, ◌≤◌, ◌<◌, ℤ, pos, ◌+ℤ◌, Float}
use Rattle.std.specs.Prelude.{Result, Ok, Err}
use Rattle.std.proofs.Math.IntN.{sub_ℕ}
use Rattle.std.specs.Float.{nan, inf, fin, binary64}
use Rattle.std.specs.Float.Ieee.{size, of_int}
use Rattle.float64.specs.Number.{magnitude}
use Rattle.refusal.specs.Refusal.{accepted, value_not_finite}

-- ---- an answer's value and number

-- the logarithm itself, 0 if there is none
abbrev pub value_of : Result ℤ ℕ → ℤ
value_of (Ok p) = p
value_of (Err number) = pos 0

-- the logarithm as a double, NaN if there is none
abbrev pub double_of : Result ℤ ℕ → Float
double_of (Ok p) = of_int binary64 p
double_of (Err number) = nan

-- 9 for zeros, NaNs and infinities, else 0
abbrev pub log_fault : Float → ℕ
log_fault nan = value_not_finite
log_fault (inf s) = value_not_finite
log_fault (fin s zero e) = value_not_finite
log_fault (fin s (suc m) e) = accepted

-- ---- the definition that computes

-- the next digit: whether the square of m, a number of 32 digits, has 64 of them or 63
abbrev pub digit_of : ℕ → ℕ
digit_of m = m * m / 2 ^ 63

-- the square of m, cut to 32 digits
abbrev pub squared : ℕ → ℕ
squared m = m * m / 2 ^ (31 + digit_of m)

-- k more digits of a logarithm e
unfoldable pub log_from : ℕ → ℕ → ℕ → ℕ
log_from zero m e = e
log_from (suc k) m e = log_from k (squared m) (2 * e + digit_of m)

-- the 32 leading digits of n, followed by zeros if it has fewer
abbrev pub leading : ℕ → ℕ
leading n = n * 2 ^ 31 / 2 ^ (size n - 1)

-- the logarithm of a whole number n above 0
unfoldable pub log_of : ℕ → ℕ
unfolding log_from size
log_of n = log_from 16 (leading n) (size n - 1)

-- the logarithm of a size in units of 2 ^ -1074 is larger than that of the number by 1074 * 65536
abbrev pub from_units : ℕ → ℤ
from_units log = sub_ℕ log (1074 * 65536)

-- the answer for every double
unfoldable pub whole_log : Float → Result ℤ ℕ
unfolding log_of magnitude
whole_log nan = Err value_not_finite
whole_log (inf s) = Err value_not_finite
whole_log (fin s zero e) = Err value_not_finite
whole_log (fin s (suc m) e) = Ok (from_units (log_of (magnitude (fin s (suc m) e))))

-- ---- what it says of the exact number

-- n lies from 2 ^ q to below 2 ^ (q + 2)
pub record Bounds (q n : ℕ) : Type 0 where
  pub at_most : 2 ^ q ≤ n
  pub below : n < 2 ^ (q + 2)

-- 2 ^ p is at most the magnitude of x to the power 65,536, which is below 2 ^ (p + 2). The magnitude is
-- `magnitude x` / 2 ^ 1074, so both sides are taken 2 ^ (1074 * 65536) times; q is p + 1074 * 65536.
pub record Logarithm (x : Float) (p : ℤ) : Type 0 where
  pub q : ℕ
  pub shifted : p +ℤ pos (1074 * 65536) ≡ pos q
  pub bounds : Bounds q (magnitude x ^ 65536)

-- what an answer says of x
abbrev pub Answer : Float → Result ℤ ℕ → Type 0
Answer x (Ok p) = Logarithm x p
Answer x (Err number) = number ≡ log_fault x
