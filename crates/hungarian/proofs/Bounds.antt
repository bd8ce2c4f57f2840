-- How large the numbers of a search can get: bounds by the number of popped rows, all far below 2 ^ 53.
-- `level p` is p times the cost limit and a little more; with n · C at most 2 ^ 48 + n no level that a search reaches is above 2 ^ 50.
use mathlib.Core.Path.{◌≡◌, sym, ap, ◌∙◌}
use Prim.Native.Nat.{ℕ, suc, ◌+◌, ◌*◌, ◌^◌, ◌≤◌, ◌<◌}
use native.Mathlib.Nat.{le_trans, le_of_eq, mul-le-mul_right, mul_assoc, add-mul, mul-add, suc-mul, one-mul, mul_comm}
use native.Mathlib.Omega.{arith}
use lib.Ieee.{Float}
use Rattle.float64.specs.Number.{units_per_one}
use Rattle.hungarian.specs.Graph.{CostGraph}
use Rattle.hungarian.specs.inner.Setting.{Setting}
use Rattle.hungarian.specs.inner.Bounds.{level}

pub level_step : (C p : ℕ) → level C (suc p) ≡ level C p + C * units_per_one + 4 * units_per_one
unfolding level
level_step C p = suc-mul p ((C + 4) * units_per_one) ∙ ap (λ (x : ℕ). p * ((C + 4) * units_per_one) + x) (add-mul C 4 units_per_one)
    ∙ (let e : p * ((C + 4) * units_per_one) + (C * units_per_one + 4 * units_per_one) ≡ p * ((C + 4) * units_per_one) + C * units_per_one + 4 * units_per_one =
    omega arith in e)

pub level_mono : (C p q : ℕ) → p ≤ q → level C p ≤ level C q
unfolding level
level_mono C p q h = mul-le-mul_right ((C + 4) * units_per_one) h

pub once_at_least : (n c : ℕ) → 0 < n → c ≤ n * c
once_at_least n c h = le_trans (le_of_eq (sym (one-mul c))) (mul-le-mul_right c h)

-- (n + 2)(C + 4) = n C + 4 n + 2 C + 8
spread : (n C : ℕ) → (n + 2) * (C + 4) ≡ n * C + 4 * n + (2 * C + 8)
spread n C = add-mul n 2 (C + 4) ∙ ap (λ (x : ℕ). x + 2 * (C + 4)) (mul-add n C 4 ∙ ap (λ (x : ℕ). n * C + x) (mul_comm n 4))
    ∙ (let e : n * C + 4 * n + 2 * (C + 4) ≡ n * C + 4 * n + (2 * C + 8) = omega arith in e)

pub level_most : {Good : Float → Type 0} {err C : ℕ} {g : CostGraph} → Setting Good err C g → 0 < g.pattern.n
    → level C (g.pattern.n + 2) ≤ 2 ^ 50 * units_per_one
unfolding level
level_most {C = C} {g = g} S h =
    le_trans (le_of_eq (sym (mul_assoc (g.pattern.n + 2) (C + 4) units_per_one)))
    (mul-le-mul_right units_per_one (small g.pattern.n C h S.few_columns S.product))
  where
    small : (n C : ℕ) → 0 < n → n ≤ 4096 → n * C ≤ 2 ^ 48 + n → (n + 2) * (C + 4) ≤ 2 ^ 50
    small n C h few prod =
        let c = once_at_least n C h in rw (spread n C) (omega arith)
