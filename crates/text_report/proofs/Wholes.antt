-- A whole double's size as an unsigned integer, and its text by its sign: what `put_whole` requires. By the size as a fraction whose division
-- leaves no rest, and by the order of whole numbers.
use mathlib.Core.Path.{◌≡◌, refl, sym, ap, ◌∙◌, subst}
use mathlib.Core.Bool.{true, false, not, ◌&&◌, true≢false}
use mathlib.Core.List.{◌∷◌}
use Prim.Native.Nat.{ℕ, ◌*◌, ◌/◌, ◌%◌, ◌^◌, ◌≤◌}
use native.Mathlib.Nat.{mul-mod_left}
use native.Mathlib.Omega.{arith}
use borrow.Author.Tests.{ltb-true}
use lib.Dec.{T, eqb, leb, ltb, le→leb, lt→ltb}
use lib.IntN.{ℤ, pos, negsuc, nat_abs}
use lib.Signed.{lt_z}
use lib.Ieee.{Float, nan, inf, fin, binary64, up, down, lt, in_unsigned, to_unsigned, whole}
use lib.Ieee.Fits.{and_i}
use lib.Ieee.Casts.{to_unsigned_cut}
use lib.Ieee.Positive.{num, den}
use Rattle.float64.specs.Number.{Whole, negative, whole_of}
use Rattle.float64.specs.Constants as constants
use Rattle.float64.specs.Functions.{absolute}
use Rattle.float64.proofs.WholeNumbers.{whole_lt, whole_of_lem, size_signed, size_multiple}
use Rattle.float64.proofs.Constants.{zero_whole}
use Rattle.text_report.specs.Decimal.{decimal, signed_text}
use Rattle.text_report.specs.inner.Steps.{Printable}

-- ---- the size

-- the size is the fraction divided, and nothing is left over
size_quotient : (x : Float) → nat_abs (whole_of x) ≡ num x / den x
unfolding whole_of
size_quotient x = size_signed (negative x) (num x / den x)

no_rest : (x : Float) (z : ℤ) → Whole x z → num x % den x ≡ 0
no_rest x z w =
    ap (λ (n : ℕ). n % den x) (sym (size_signed (negative x) (num x)) ∙ ap nat_abs w.value ∙ size_multiple z (den x)) ∙ mul-mod_left (nat_abs z) (den x)

castable : (m q r : ℕ) → r ≡ 0 → q ≤ 2 ^ 53 → T (eqb r 0 && leb q (2 ^ 53) && not (false && eqb m 0) && (true && ltb q (2 ^ 64)))
castable m q r e l =
    rw e (and_i (leb q (2 ^ 53) && true) (ltb q (2 ^ 64)) (and_i (leb q (2 ^ 53)) true (le→leb q (2 ^ 53) l) tt) (lt→ltb q (2 ^ 64) (omega arith)))

pub size_casts : (x : Float) → Printable x → T (in_unsigned binary64 64 (absolute x))
unfolding absolute in_unsigned whole
size_casts nan p = absurd p.is_whole.1.is_finite
size_casts (inf s) p = absurd p.is_whole.1.is_finite
size_casts (fin s m e) p =
    castable m (m * up e / down e) (m * up e % down e) (no_rest (fin s m e) p.is_whole.0 p.is_whole.1)
    (subst (λ (n : ℕ). n ≤ 2 ^ 53) (size_quotient (fin s m e)) p.small)

pub size_is : (x : Float) → Printable x → to_unsigned 64 (absolute x) ≡ nat_abs (whole_of x)
unfolding absolute
size_is nan p = absurd p.is_whole.1.is_finite
size_is (inf s) p = absurd p.is_whole.1.is_finite
size_is (fin s m e) p = to_unsigned_cut binary64 64 false m e (size_casts (fin s m e) p) ∙ sym (size_quotient (fin s m e))

-- ---- the text by the sign

below-zero : (x : Float) → Printable x → lt x constants.zero ≡ lt_z (whole_of x) (pos 0)
below-zero x p =
    let w : Whole x (whole_of x) = subst (Whole x) (sym (whole_of_lem x p.is_whole.0 p.is_whole.1)) p.is_whole.1 in
    whole_lt x constants.zero (whole_of x) (pos 0) w zero_whole

minus_digits : (z : ℤ) → lt_z z (pos 0) ≡ true → signed_text z ≡ 45 ∷ decimal (nat_abs z)
unfolding signed_text
minus_digits (pos n) e = let z : ⊥ = omega (arith, ltb-true n 0 e) in absurd z
minus_digits (negsuc n) e = refl

only_digits : (z : ℤ) → lt_z z (pos 0) ≡ false → signed_text z ≡ decimal (nat_abs z)
unfolding signed_text
only_digits (pos n) e = refl
only_digits (negsuc n) e = absurd (true≢false e)

pub negative_text : (x : Float) → Printable x → lt x constants.zero ≡ true → signed_text (whole_of x) ≡ 45 ∷ decimal (to_unsigned 64 (absolute x))
negative_text x p e = rw (size_is x p) (minus_digits (whole_of x) (sym (below-zero x p) ∙ e))

pub other_text : (x : Float) → Printable x → lt x constants.zero ≡ false → signed_text (whole_of x) ≡ decimal (to_unsigned 64 (absolute x))
other_text x p e = rw (size_is x p) (only_digits (whole_of x) (sym (below-zero x p) ∙ e))
