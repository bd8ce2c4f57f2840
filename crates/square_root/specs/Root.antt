-- SPECIFICATION 9: The square root of a double, twice: as what IEEE 754 asks of it (`Answer`), and as a definition that
-- computes (`sqrt_of`). proofs/Laws.antt shows that the second is the first, and that the first leaves no choice.
use Rattle.std.specs.Prelude.{◌≡◌, true, false, cond, ℕ, zero, suc, ◌+◌, ◌-◌, ◌*◌, ◌/◌, ◌^◌, ◌<◌, leb, Float}
use Rattle.std.specs.Prelude.{Result, Ok, Err}
use Rattle.std.specs.Float.{nan, inf, fin, binary64}
use Rattle.std.specs.Float.Ieee.{size, units}
use Rattle.float64.specs.Number.{Number, negative, magnitude, units_per_one}
use Rattle.float64.specs.Constants.{quiet_nan}
use Rattle.refusal.specs.Refusal.{accepted, no_root}

-- ---- an answer's value and number

-- the root itself, NaN if there is none
abbrev pub value_of : Result Float ℕ → Float
value_of (Ok y) = y
value_of (Err number) = quiet_nan

-- 11 for a NaN and for a number below zero, else 0
abbrev pub root_fault : Float → ℕ
root_fault nan = no_root
root_fault (inf true) = no_root
root_fault (inf false) = accepted
root_fault (fin s zero e) = accepted
root_fault (fin true (suc m) e) = no_root
root_fault (fin false (suc m) e) = accepted

-- ---- units

-- In units of 2 ^ -1074, of which x has magnitude x and the number 1 has `units_per_one`, the exact root of x is
-- √(square x): it is √(magnitude x / one) times `units_per_one`.
unfoldable pub square : Float → ℕ
unfolding magnitude units_per_one
square x = magnitude x * units_per_one

-- ---- what IEEE 754 requires

-- y is the double that is nearest to the exact root of x, a finite x above zero: the exact root lies below the middle
-- of y and any larger double z, and above the middle of y and any smaller one. The middle is (magnitude y + magnitude
-- z) / 2 units; it and the exact root are compared by four times their squares. This is IEEE 754's root, rounded once,
-- to nearest, ties to even: below and above are strict, so the exact root is never in the middle of two doubles, and
-- the rule for ties never applies. Since y is finite, no root overflows. A negative z is farther away than zero is.
pub record Nearest (x y : Float) : Type 0 where
  pub number : Number y
  pub sign : negative y ≡ false
  pub under : (z : Float) → Number z → negative z ≡ false → magnitude y < magnitude z
      → 4 * square x < (magnitude y + magnitude z) * (magnitude y + magnitude z)
  pub over : (z : Float) → Number z → negative z ≡ false → magnitude z < magnitude y
      → (magnitude y + magnitude z) * (magnitude y + magnitude z) < 4 * square x

-- r is the answer for x: a NaN and a number below zero are refused, infinity and the zeros are their own roots, -0.0
-- with its sign, and other numbers get the nearest double
abbrev pub Answer : Float → Result Float ℕ → Type 0
Answer nan r = r ≡ Err no_root
Answer (inf true) r = r ≡ Err no_root
Answer (inf false) r = r ≡ Ok (inf false)
Answer (fin s zero e) r = r ≡ Ok (fin s zero e)
Answer (fin true (suc m) e) r = r ≡ Err no_root
Answer (fin false (suc m) e) r = (y : Float) × (r ≡ Ok y) × Nearest (fin false (suc m) e) y

-- ---- the definition that computes

-- q + 1 if its square is at most n, else q
abbrev pub longer : ℕ → ℕ → ℕ
longer n q = cond (leb ((q + 1) * (q + 1)) n) (q + 1) q

-- the whole root of an n below 4 ^ d, one digit at a time
unfoldable pub whole_root : ℕ → ℕ → ℕ
whole_root zero n = 0
whole_root (suc d) n = longer n (2 * whole_root d (n / 4))

-- The double nearest to √A units. Of A the 107 or 108 leading digits are kept, A / 2 ^ (2 * j); those dropped are
-- zeros. Their whole root q has 54 digits, one more than a double. So the exact root lies from q * 2 ^ j to below (q +
-- 1) * 2 ^ j, and nearest to it is q / 2, rounded up, times 2 ^ (j + 1).
unfoldable pub root_of : ℕ → Float
unfolding size units whole_root
root_of A = let j = (size A - 107) / 2 in units binary64 false ((whole_root 54 (A / 2 ^ (2 * j)) + 1) / 2) (j + 1)

unfoldable pub sqrt_of : Float → Result Float ℕ
unfolding square root_of
sqrt_of nan = Err no_root
sqrt_of (inf true) = Err no_root
sqrt_of (inf false) = Ok (inf false)
sqrt_of (fin s zero e) = Ok (fin s zero e)
sqrt_of (fin true (suc m) e) = Err no_root
sqrt_of (fin false (suc m) e) = Ok (root_of (square (fin false (suc m) e)))
