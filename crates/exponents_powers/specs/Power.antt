-- SPECIFICATION 7.4: Scaling by 2 ^ shift changes the exponent field of a normal number and nothing else; zeros stay,
-- with their sign. Doubles are taken by their bits: a sign, 11 digits of the exponent field, 52 of the fraction.
use Rattle.std.specs.Prelude.{◌≡◌, Bool, false, ◌&&◌, ◌||◌, cond, List, ℕ, ◌+◌, ◌*◌, ◌/◌, ◌%◌, ◌^◌, leb, eqb, ℤ, pos, negsuc, nat_abs, ◌+ℤ◌}
use Rattle.std.specs.Int.Signed.{le_z}
use Rattle.std.specs.Float.{binary64}
use Rattle.std.specs.Float.Ieee.{of_bits, up, down}
use Rattle.float64.specs.Number.{magnitude}

-- the largest exponent, in magnitude
abbrev pub exponent_limit : ℕ
exponent_limit = 67108864

unfoldable pub within_limit : ℤ → Bool
within_limit e = le_z (negsuc 67108863) e && le_z e (pos exponent_limit)

-- a set of exponents, one for each row and one for each column
pub record Exponents : Type 0 where
  pub rows : List ℤ
  pub columns : List ℤ

abbrev pub exponents : List ℤ → List ℤ → Exponents
exponents rows columns = record { rows = rows; columns = columns }

-- ---- the parts of a double

abbrev pub field_of : ℕ → ℕ
field_of bits = bits / 2 ^ 52 % 2048

abbrev pub is_zero : ℕ → Bool
is_zero bits = eqb (bits % 2 ^ 63) 0

-- the exponent fields of normal numbers
abbrev pub is_normal : ℤ → Bool
is_normal (pos field) = leb 1 field && leb field 2046
is_normal (negsuc field) = false

-- the double with this exponent field and the old sign and fraction
abbrev pub with_field : ℕ → ℕ → ℕ
with_field bits field = bits / 2 ^ 63 * 2 ^ 63 + field * 2 ^ 52 + bits % 2 ^ 52

-- ---- scaling

-- the exponent field after scaling
abbrev pub shifted_field : ℕ → ℤ → ℤ
shifted_field bits shift = pos (field_of bits) +ℤ shift

-- a zero, or a normal number that stays normal
unfoldable pub scalable : ℕ → ℤ → Bool
scalable bits shift = is_zero bits || (is_normal (pos (field_of bits)) && is_normal (shifted_field bits shift))

unfoldable pub scaled_bits : ℕ → ℤ → ℕ
scaled_bits bits shift = cond (is_zero bits) bits (with_field bits (nat_abs (shifted_field bits shift)))

-- ---- what scaling does to the exact number

-- what the bits after stand for is the number times 2 ^ shift, the fraction up shift / down shift: the sizes in units,
-- and the sign
pub record ScaledExactly (bits : ℕ) (shift : ℤ) (after : ℕ) : Type 0 where
  pub size : magnitude (of_bits binary64 after) * down shift ≡ magnitude (of_bits binary64 bits) * up shift
  pub sign : after / 2 ^ 63 ≡ bits / 2 ^ 63
