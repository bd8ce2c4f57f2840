-- A counting loop: the steps f from, f (from + 1), .. below `to`, in this order.
use Rattle.std.specs.Prelude.{ℕ, zero, suc, ◌-◌}

unfoldable pub steps : {A : Type 0} → ℕ → ℕ → (ℕ → A → A) → A → A
steps zero k f s = s
steps (suc m) k f s = steps m (suc k) f (f k s)

abbrev pub each : {A : Type 0} → ℕ → ℕ → (ℕ → A → A) → A → A
each from to f s = steps (to - from) from f s
