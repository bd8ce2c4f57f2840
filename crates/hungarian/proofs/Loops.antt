-- Counting loops: one more turn, none left, and what every turn keeps holds at the end.
use mathlib.Core.Path.{◌≡◌, subst}
use Prim.Native.Nat.{ℕ, zero, suc, ◌+◌, ◌-◌, ◌≤◌, ◌<◌}
use native.Mathlib.Omega.{arith}
use Rattle.hungarian.specs.Loop.{steps, each}

pub steps_keep : {A : Type 0} (P : ℕ → A → Type 0) (f : ℕ → A → A) (m k : ℕ) (s : A)
    → ((i : ℕ) (a : A) → k ≤ i → i < k + m → P i a → P (suc i) (f i a)) → P k s → P (k + m) (steps m k f s)
unfolding steps
steps_keep P f zero k s step p = subst (λ (n : ℕ). P n s) (let e : k ≡ k + 0 = omega arith in e) p
steps_keep P f (suc m) k s step p =
    subst (λ (n : ℕ). P n (steps m (suc k) f (f k s))) (let e : suc k + m ≡ k + suc m = omega arith in e)
    (steps_keep P f m (suc k) (f k s) (λ i a h l q. step i a (omega arith) (omega arith) q) (step k s (omega arith) (omega arith) p))

-- an invariant by the index: from `from` to `to`
pub each_keeps : {A : Type 0} (P : ℕ → A → Type 0) (f : ℕ → A → A) (from to : ℕ) (s : A) → from ≤ to
    → ((i : ℕ) (a : A) → from ≤ i → i < to → P i a → P (suc i) (f i a)) → P from s → P to (each from to f s)
each_keeps P f from to s h step p =
    subst (λ (n : ℕ). P n (each from to f s)) (let e : from + (to - from) ≡ to = omega arith in e)
    (steps_keep P f (to - from) from s (λ i a l m q. step i a l (omega arith) q) p)
