-- What the functions' proofs cite: exponents within the limit, counted from the least one up, are natural numbers, and their sums are the shifted fields.
use mathlib.Core.Path.{◌≡◌, sym, ap, ap₂, ◌∙◌, subst}
use mathlib.Core.Bool.{Bool, true, false, ◌&&◌, true≢false}
use Prim.Native.Nat.{ℕ, ◌+◌, ◌-◌, ◌^◌, ◌≤◌, ◌<◌}
use native.Mathlib.Omega.{arith}
use borrow.Author.Tests.{leb-true, lt-leb}
use lib.Dec.{leb}
use lib.IntN.{ℤ, pos, negsuc, ◌+ℤ◌}
use lib.Signed.{mag}
use mir.Syntax.{w32}
use mir.Val.{SFits, to_z, of_z}
use mir.ValLaws.{to_z-of_z}
use Rattle.slices.proofs.Bools.{both, same_leb}
use Rattle.float64.proofs.Integers.{plus, minus, sum_parts}
use Rattle.exponents_powers.specs.Power.{within_limit, field_of, is_zero, is_normal, with_field, scalable, scaled_bits}
use Rattle.exponents_powers.proofs.Laws.{Scales, is_zero_lem, is_normal_lem, scales, normal_scaled}

pub within : (e : ℤ) → within_limit e ≡ true → (plus e ≤ 67108864) × (minus e ≤ 67108864)
unfolding within_limit
within (pos n) h = (leb-true n 67108864 (both true (leb n 67108864) h).1, omega arith)
within (negsuc n) h = let l : n ≤ 67108863 = leb-true n 67108863 (both (leb n 67108863) true h).0 in (omega arith, omega arith)

-- an integer whose parts differ by b - a
natural : (z : ℤ) (a b : ℕ) → plus z + a ≡ b + minus z → a ≤ b → z ≡ pos (b - a)
natural (pos n) a b e h = let k : n ≡ b - a = omega arith in ap pos k
natural (negsuc n) a b e h = let z : ⊥ = omega arith in absurd z

-- the exponent counted from the least one up
abbrev pub raised_of : ℤ → ℕ
raised_of e = plus e + 67108864 - minus e

pub raised_is : (e : ℤ) → within_limit e ≡ true → e +ℤ pos 67108864 ≡ pos (raised_of e)
raised_is e h = natural (e +ℤ pos 67108864) (minus e) (plus e + 67108864) (let p = sum_parts e (pos 67108864) in omega arith) (omega (arith, within e h))

pub raised_most : (e : ℤ) → within_limit e ≡ true → raised_of e ≤ 134217728
raised_most e h = omega (arith, within e h)

pub raised_fits : (e : ℤ) → within_limit e ≡ true → SFits w32 (pos (raised_of e))
raised_fits e h = record { sfits = omega (arith, raised_most e h) }

-- an exponent as it is read from its bits
pub read_is : (e : ℤ) → mag e < 2 ^ 31 → to_z w32 (of_z w32 e) ≡ e
read_is e h = to_z-of_z w32 e (record { sfits = h })

pub read_raised : {R : ℕ} (e : ℤ) → SFits w32 e → pos R ≡ to_z w32 (of_z w32 e) +ℤ pos 67108864 → pos R ≡ e +ℤ pos 67108864
read_raised e f h = h ∙ ap (λ (z : ℤ). z +ℤ pos 67108864) (to_z-of_z w32 e f)

-- the sum of a field and two such exponents
pub shifted_parts : (f R C : ℕ) (r c : ℤ) → pos R ≡ r +ℤ pos 67108864 → pos C ≡ c +ℤ pos 67108864
    → plus (pos f +ℤ (r +ℤ c)) + 134217728 ≡ f + R + C + minus (pos f +ℤ (r +ℤ c))
shifted_parts f R C r c e d =
    let rp : plus (pos R) ≡ plus (r +ℤ pos 67108864) = ap plus e in
    let rm : minus (pos R) ≡ minus (r +ℤ pos 67108864) = ap minus e in
    let cp : plus (pos C) ≡ plus (c +ℤ pos 67108864) = ap plus d in
    let cm : minus (pos C) ≡ minus (c +ℤ pos 67108864) = ap minus d in
    omega (arith, sum_parts r (pos 67108864), sum_parts c (pos 67108864), sum_parts r c, sum_parts (pos f) (r +ℤ c))

pub normal_test : (z : ℤ) (S : ℕ) → plus z + 134217728 ≡ S + minus z → (leb 134217729 S && leb S 134219774) ≡ is_normal z
normal_test (pos m) S e =
    ap₂ ◌&&◌ (same_leb 134217729 S 1 m (λ h. omega arith) (λ h. omega arith)) (same_leb S 134219774 m 2046 (λ h. omega arith) (λ h. omega arith))
normal_test (negsuc m) S e = ap (λ (t : Bool). t && leb S 134219774) (lt-leb 134217729 S (omega arith))

-- what `scaled` finds: the new field F, and the double that has it
pub record Found (b R C : ℕ) (s : ℤ) : Type 0 where
  pub field : ℕ
  pub sum : field_of b + R + C ≡ field + 134217728
  pub low : 1 ≤ field
  pub high : field ≤ 2046
  pub is : scaled_bits b s ≡ with_field b field

pub found : (b R C : ℕ) (r c : ℤ) → pos R ≡ r +ℤ pos 67108864 → pos C ≡ c +ℤ pos 67108864 → is_zero b ≡ false → scalable b (r +ℤ c) ≡ true → Found b R C (r +ℤ c)
found b R C r c e d z h = go (scales b (r +ℤ c) h)
  where
    go : Scales b (r +ℤ c) → Found b R C (r +ℤ c)
    go (is_zero_lem y) = absurd (true≢false (sym y ∙ z))
    go (is_normal_lem _ _ n) =
        let p = shifted_parts (field_of b) R C r c e d in
        let q : plus (pos n.field) + 134217728 ≡ field_of b + R + C + minus (pos n.field) =
        subst (λ (y : ℤ). plus y + 134217728 ≡ field_of b + R + C + minus y) n.is p in
        record { field = n.field; sum = omega arith; low = n.low; high = n.high; is = normal_scaled b (r +ℤ c) z n }
