-- A double with a new exponent field has its old sign and fraction and that field. A double that is scaled is a zero, or normal before and after.
use mathlib.Core.Path.{◌≡◌, refl, sym, ap, ◌∙◌}
use mathlib.Core.Bool.{Bool, true, false, ◌&&◌, ◌||◌, cond, true≢false}
use Prim.Native.Nat.{ℕ, ◌/◌, ◌%◌, ◌^◌, ◌≤◌}
use native.Mathlib.Omega.{arith}
use borrow.Author.Tests.{leb-true}
use lib.IntN.{ℤ, pos, negsuc, nat_abs}
use Rattle.slices.proofs.Bools.{both}
use Rattle.exponents_powers.specs.Power.{field_of, is_zero, is_normal, with_field, shifted_field, scalable, scaled_bits}

-- ---- a double with another exponent field
module _ (b f : ℕ) (low : 1 ≤ f) (high : f ≤ 2046) where
  pub field_after : field_of (with_field b f) ≡ f
  field_after = omega arith

  pub sign_after : with_field b f / 2 ^ 63 ≡ b / 2 ^ 63
  sign_after = omega arith

  pub fraction_after : with_field b f % 2 ^ 52 ≡ b % 2 ^ 52
  fraction_after = omega arith

-- ---- a normal field is a natural number from 1 to 2046
pub record Normal (z : ℤ) : Type 0 where
  pub field : ℕ
  pub is : z ≡ pos field
  pub low : 1 ≤ field
  pub high : field ≤ 2046

pub normal_field : (z : ℤ) → is_normal z ≡ true → Normal z
normal_field (pos f) h = let b = both _ _ h in record { field = f; is = refl; low = leb-true 1 f b.0; high = leb-true f 2046 b.1 }
normal_field (negsuc f) h = absurd (true≢false (sym h))

-- ---- a double that is scaled: a zero, or normal before and after
pub data Scales (b : ℕ) (s : ℤ) : Type 0 where
  is_zero_lem : is_zero b ≡ true → Scales b s
  is_normal_lem : is_zero b ≡ false → is_normal (pos (field_of b)) ≡ true → Normal (shifted_field b s) → Scales b s

pub scales : (b : ℕ) (s : ℤ) → scalable b s ≡ true → Scales b s
unfolding scalable
scales b s h = go (is_zero b) refl
  where
    go : (t : Bool) → is_zero b ≡ t → Scales b s
    go true e = is_zero_lem e
    go false e =
        let k : (is_normal (pos (field_of b)) && is_normal (shifted_field b s)) ≡ true =
        ap (λ (t : Bool). t || (is_normal (pos (field_of b)) && is_normal (shifted_field b s))) (sym e) ∙ h in
        let n = both (is_normal (pos (field_of b))) (is_normal (shifted_field b s)) k in
        is_normal_lem e n.0 (normal_field (shifted_field b s) n.1)

pub zero_scaled : (b : ℕ) (s : ℤ) → is_zero b ≡ true → scaled_bits b s ≡ b
unfolding scaled_bits
zero_scaled b s e = ap (λ (t : Bool). cond t b (with_field b (nat_abs (shifted_field b s)))) e

pub normal_scaled : (b : ℕ) (s : ℤ) → is_zero b ≡ false → (n : Normal (shifted_field b s)) → scaled_bits b s ≡ with_field b n.field
unfolding scaled_bits
normal_scaled b s e n = ap (λ (t : Bool). cond t b (with_field b (nat_abs (shifted_field b s)))) e ∙ ap (λ (z : ℤ). with_field b (nat_abs z)) n.is
