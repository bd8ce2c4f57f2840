-- Scaling twice is scaling by the sum, and the opposite shift brings a double back. Fields add as integers do.
use mathlib.Core.Path.{◌≡◌, refl, sym, ap, ap₂, ◌∙◌}
use mathlib.Core.Bool.{Bool, true, false, ◌&&◌, ◌||◌, true≢false}
use Prim.Native.Nat.{ℕ, ◌+◌, ◌*◌, ◌%◌, ◌^◌, ◌≤◌}
use native.Mathlib.Omega.{arith}
use borrow.Author.Tests.{le-leb, ne_eqb}
use lib.IntN.{ℤ, pos, neg_ℤ, nat_abs, ◌+ℤ◌, +ℤ_assoc, +ℤ_invr, +ℤ_idr}
use Rattle.exponents_powers.specs.Power.{field_of, is_zero, is_normal, with_field, shifted_field, scalable, scaled_bits}
use Rattle.exponents_powers.proofs.Laws.{Scales, is_zero_lem, is_normal_lem, Normal, field_after, sign_after, fraction_after, normal_field, scales, zero_scaled}
use Rattle.exponents_powers.proofs.Laws.{normal_scaled}

-- ---- a double with another exponent field
module _ (b f : ℕ) (low : 1 ≤ f) (high : f ≤ 2046) where
  not_zero_after : is_zero (with_field b f) ≡ false
  not_zero_after = ne_eqb (with_field b f % 2 ^ 63) 0 (λ (e : with_field b f % 2 ^ 63 ≡ 0). let z : ⊥ = omega arith in z)

  normal_after : is_normal (pos (field_of (with_field b f))) ≡ true
  normal_after = rw (field_after b f low high, le-leb 1 f low, le-leb f 2046 high) refl

  again : (g : ℕ) → with_field (with_field b f) g ≡ with_field b g
  again g = ap₂ (λ (s t : ℕ). s * 2 ^ 63 + g * 2 ^ 52 + t) (sign_after b f low high) (fraction_after b f low high)

with_own_field : (b : ℕ) → with_field b (field_of b) ≡ b
with_own_field b = omega arith

-- ---- what may be scaled
field_normal : (z : ℤ) → Normal z → is_normal z ≡ true
field_normal z n = rw (n.is, le-leb 1 n.field n.low, le-leb n.field 2046 n.high) refl

zero_scalable : (b : ℕ) (s : ℤ) → is_zero b ≡ true → scalable b s ≡ true
unfolding scalable
zero_scalable b s e = ap (λ (t : Bool). t || (is_normal (pos (field_of b)) && is_normal (shifted_field b s))) e

normal_scalable : (b : ℕ) (s : ℤ) → is_zero b ≡ false → is_normal (pos (field_of b)) ≡ true → is_normal (shifted_field b s) ≡ true → scalable b s ≡ true
unfolding scalable
normal_scalable b s e f g = ap (λ (t : Bool). t || (is_normal (pos (field_of b)) && is_normal (shifted_field b s))) e ∙ ap₂ ◌&&◌ f g

-- ---- a double scaled once, scaled again by t, is the double scaled by s + t
module _ (b : ℕ) (s t : ℤ) where
  shifted_again : (n : Normal (shifted_field b s)) → shifted_field (with_field b n.field) t ≡ shifted_field b (s +ℤ t)
  shifted_again n = ap (λ (f : ℕ). pos f +ℤ t) (field_after b n.field n.low n.high) ∙ ap (λ (z : ℤ). z +ℤ t) (sym n.is)
      ∙ +ℤ_assoc (pos (field_of b)) s t

  pub scaled_twice : scalable b s ≡ true → scalable (scaled_bits b s) t ≡ true → (scalable b (s +ℤ t) ≡ true)
      × (scaled_bits (scaled_bits b s) t ≡ scaled_bits b (s +ℤ t))
  scaled_twice h k = go (scales b s h)
    where
      twice : (c : ℕ) (e : is_zero b ≡ false) (f : is_normal (pos (field_of b)) ≡ true) (n : Normal (shifted_field b s)) → c ≡ with_field b n.field → Scales c t
          → (scalable b (s +ℤ t) ≡ true) × (scaled_bits c t ≡ scaled_bits b (s +ℤ t))
      twice c e f n w (is_zero_lem z) = absurd (true≢false (sym z ∙ ap is_zero w ∙ not_zero_after b n.field n.low n.high))
      twice c e f n w (is_normal_lem z g m) =
          let q : shifted_field c t ≡ shifted_field b (s +ℤ t) = ap (λ (x : ℕ). shifted_field x t) w ∙ shifted_again n in
          let m' : Normal (shifted_field b (s +ℤ t)) = record { field = m.field; is = sym q ∙ m.is; low = m.low; high = m.high } in (
            normal_scalable b (s +ℤ t) e f (field_normal (shifted_field b (s +ℤ t)) m'),
            normal_scaled c t z m ∙ ap (λ (x : ℕ). with_field x m.field) w ∙ again b n.field n.low n.high m.field
                ∙ sym (normal_scaled b (s +ℤ t) e m'),
          )

      go : Scales b s → (scalable b (s +ℤ t) ≡ true) × (scaled_bits (scaled_bits b s) t ≡ scaled_bits b (s +ℤ t))
      go (is_zero_lem e) = (zero_scalable b (s +ℤ t) e, ap (λ (c : ℕ). scaled_bits c t) (zero_scaled b s e) ∙ zero_scaled b t e ∙ sym (zero_scaled b (s +ℤ t) e))
      go (is_normal_lem e f n) = twice (scaled_bits b s) e f n (normal_scaled b s e n) (scales (scaled_bits b s) t k)

-- ---- scaled by s and then by -s, a double is what it was
pub scaled_back : (b : ℕ) (s : ℤ) → scalable b s ≡ true → (scalable (scaled_bits b s) (neg_ℤ s) ≡ true) × (scaled_bits (scaled_bits b s) (neg_ℤ s) ≡ b)
scaled_back b s h = go (scales b s h)
  where
    back : (c : ℕ) (f : is_normal (pos (field_of b)) ≡ true) (n : Normal (shifted_field b s)) → c ≡ with_field b n.field
        → (scalable c (neg_ℤ s) ≡ true) × (scaled_bits c (neg_ℤ s) ≡ b)
    back c f n w =
        let z : is_zero c ≡ false = ap is_zero w ∙ not_zero_after b n.field n.low n.high in
        let g : is_normal (pos (field_of c)) ≡ true = ap (λ (x : ℕ). is_normal (pos (field_of x))) w ∙ normal_after b n.field n.low n.high in
        let q : shifted_field c (neg_ℤ s) ≡ pos (field_of b) =
        ap (λ (x : ℕ). shifted_field x (neg_ℤ s)) w ∙ shifted_again b s (neg_ℤ s) n ∙ ap (λ (y : ℤ). pos (field_of b) +ℤ y) (+ℤ_invr s)
        ∙ +ℤ_idr (pos (field_of b)) in
        let o = normal_field (pos (field_of b)) f in
        let m : Normal (shifted_field c (neg_ℤ s)) = record { field = o.field; is = q ∙ o.is; low = o.low; high = o.high } in
        let own : with_field b o.field ≡ b = ap (λ (y : ℤ). with_field b (nat_abs y)) (sym o.is) ∙ with_own_field b in (
          normal_scalable c (neg_ℤ s) z g (field_normal (shifted_field c (neg_ℤ s)) m),
          normal_scaled c (neg_ℤ s) z m
              ∙ ap (λ (x : ℕ). with_field x o.field) w ∙ again b n.field n.low n.high o.field ∙ own,
        )

    go : Scales b s → (scalable (scaled_bits b s) (neg_ℤ s) ≡ true) × (scaled_bits (scaled_bits b s) (neg_ℤ s) ≡ b)
    go (is_zero_lem e) =
        let w = zero_scaled b s e in
        (ap (λ (c : ℕ). scalable c (neg_ℤ s)) w ∙ zero_scalable b (neg_ℤ s) e, ap (λ (c : ℕ). scaled_bits c (neg_ℤ s)) w ∙ zero_scaled b (neg_ℤ s) e)
    go (is_normal_lem e f n) = back (scaled_bits b s) f n (normal_scaled b s e n)
