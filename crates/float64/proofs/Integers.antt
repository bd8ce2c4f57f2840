-- An integer z as a difference of two natural numbers, z = plus z - minus z, so that `omega`, which reads natural numbers only, proves facts of integers.
-- Sums, differences, negation, order and equality of integers are equations and orders of those parts.
use mathlib.Core.Path.{◌≡◌, refl, sym, ap, ◌∙◌}
use mathlib.Core.Bool.{Bool, true, false, not, cond}
use Prim.Native.Nat.{ℕ, zero, suc, ◌+◌, ◌-◌, ◌*◌, ◌≤◌, ◌<◌}
use native.Mathlib.Nat.{zero-mul}
use native.Mathlib.Omega.{arith}
use lib.Dec.{T, leb, ltb, leb→le, le→leb, ltb→lt, lt→ltb, nltb→le}
use lib.IntN.{ℤ, pos, negsuc, neg_ℤ, sub_ℕ, ◌+ℤ◌, ◌*ℤ◌}
use lib.Signed.{lt_z, le_z}
use Rattle.slices.proofs.Bools.{same_test, same_ltb, same_leb}

abbrev pub plus : ℤ → ℕ
plus (pos n) = n
plus (negsuc n) = 0

abbrev pub minus : ℤ → ℕ
minus (pos n) = 0
minus (negsuc n) = suc n

-- equal parts, crosswise, make equal integers
pub same_integer : (a b : ℤ) → plus a + minus b ≡ plus b + minus a → a ≡ b
same_integer (pos a) (pos b) e = let z : a ≡ b = omega arith in ap pos z
same_integer (pos a) (negsuc b) e = let z : ⊥ = omega arith in absurd z
same_integer (negsuc a) (pos b) e = let z : ⊥ = omega arith in absurd z
same_integer (negsuc a) (negsuc b) e = let z : a ≡ b = omega arith in ap negsuc z

-- ---- sums
pub sub_parts : (a b : ℕ) → plus (sub_ℕ a b) + b ≡ a + minus (sub_ℕ a b)
sub_parts a b = go (ltb a b) (ltb→lt a b) (nltb→le a b)
  where
    go : (t : Bool) → (T t → a < b) → (T (not t) → b ≤ a) → plus (cond t (negsuc (b - suc a)) (pos (a - b))) + b ≡ a + minus
        (cond t (negsuc (b - suc a)) (pos (a - b)))
    go true f g = omega (arith, f tt)
    go false f g = omega (arith, g tt)

pub sum_parts : (a b : ℤ) → plus (a +ℤ b) + (minus a + minus b) ≡ plus a + plus b + minus (a +ℤ b)
sum_parts (pos a) (pos b) = omega arith
sum_parts (pos a) (negsuc b) = omega (arith, sub_parts a (suc b))
sum_parts (negsuc a) (pos b) = omega (arith, sub_parts b (suc a))
sum_parts (negsuc a) (negsuc b) = omega arith

pub neg_parts : (a : ℤ) → (plus (neg_ℤ a) ≡ minus a) × (minus (neg_ℤ a) ≡ plus a)
neg_parts (pos zero) = (refl, refl)
neg_parts (pos (suc n)) = (refl, refl)
neg_parts (negsuc n) = (refl, refl)

-- ---- order
pub less_parts : (a b : ℤ) → lt_z a b ≡ ltb (plus a + minus b) (plus b + minus a)
less_parts (pos a) (pos b) = same_ltb a b (a + 0) (b + 0) (λ h. omega arith) (λ h. omega arith)
less_parts (pos a) (negsuc b) =
    same_test false (ltb (a + suc b) (0 + 0)) (λ t. absurd t) (λ t. let z : a + suc b < 0 + 0 = ltb→lt (a + suc b) (0 + 0) t in let n : ⊥ =
    omega arith in absurd n)
less_parts (negsuc a) (pos b) = same_test true (ltb (0 + 0) (b + suc a)) (λ t. lt→ltb (0 + 0) (b + suc a) (omega arith)) (λ t. tt)
less_parts (negsuc a) (negsuc b) = same_ltb b a (0 + suc b) (0 + suc a) (λ h. omega arith) (λ h. omega arith)

pub at_most_parts : (a b : ℤ) → le_z a b ≡ leb (plus a + minus b) (plus b + minus a)
at_most_parts (pos a) (pos b) = same_leb a b (a + 0) (b + 0) (λ h. omega arith) (λ h. omega arith)
at_most_parts (pos a) (negsuc b) =
    same_test false (leb (a + suc b) (0 + 0)) (λ t. absurd t) (λ t. let z : a + suc b ≤ 0 + 0 = leb→le (a + suc b) (0 + 0) t in let n : ⊥ =
    omega arith in absurd n)
at_most_parts (negsuc a) (pos b) = same_test true (leb (0 + 0) (b + suc a)) (λ t. le→leb (0 + 0) (b + suc a) (omega arith)) (λ t. tt)
at_most_parts (negsuc a) (negsuc b) = same_leb b a (0 + suc b) (0 + suc a) (λ h. omega arith) (λ h. omega arith)

-- ---- a multiple
pub multiple_parts : (z : ℤ) (d : ℕ) → (plus (z *ℤ pos d) ≡ plus z * d) × (minus (z *ℤ pos d) ≡ minus z * d)
multiple_parts (pos n) d = (refl, sym (zero-mul d))
multiple_parts (negsuc n) d = ((neg_parts (pos (suc n * d))).0 ∙ sym (zero-mul d), (neg_parts (pos (suc n * d))).1)
