-- Sums of natural numbers over an index, and a function changed at one place.
use Rattle.std.specs.Prelude.{Bool, true, false, cond, ℕ, zero, suc, ◌+◌, eqb}

-- w 0 + … + w (n - 1)
unfoldable pub sum_to : ℕ → (ℕ → ℕ) → ℕ
sum_to zero w = 0
sum_to (suc n) w = sum_to n w + w n

-- a if the test holds, else 0
abbrev pub or_zero : Bool → ℕ → ℕ
or_zero true a = a
or_zero false a = 0

-- f, but with a at place i
unfoldable pub updated : {A : Type 0} → (ℕ → A) → ℕ → A → ℕ → A
updated f i a j = cond (eqb j i) a (f j)
