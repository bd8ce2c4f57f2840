-- Small laws that phases 1 to 3 share: a bound raised by one, a list changed at one place.
use mathlib.Core.Path.{◌≡◌, sym, ap, ◌∙◌, subst}
use mathlib.Core.Logic.{◌≢◌, ⊎_elim}
use mathlib.Core.List.{List}
use Prim.Native.Nat.{ℕ, suc, ◌+◌, ◌≤◌, ◌<◌}
use native.Mathlib.Nat.{eq-or-lt_of_le}
use native.Mathlib.Decide.{ℕ_discrete}
use native.Mathlib.Omega.{arith}
use lib.ListN.{length, get_or, set, length-set}
use lib.Seq.{get_or-set_same, get_or-set_other}
use Rattle.matching.specs.Sum.{sum_to, updated}
use Rattle.matching.proofs.Updated.{get_d_set}
use Rattle.matching.proofs.Sums.{sum_updated}
use Rattle.hungarian.specs.inner.Between.{at}

-- what holds below k and at k holds below k + 1
pub one_more : (P : ℕ → Type 0) (k : ℕ) → ((l : ℕ) → l < k → P l) → P k → (l : ℕ) → l < suc k → P l
one_more P k f p l h = ⊎_elim (λ e. subst P (sym e) p) (f l) (eq-or-lt_of_le (let q : l ≤ k = omega arith in q))

-- what holds of x at i and of a list elsewhere holds of the list with x stored at i
pub set_cases : {A : Type 0} (P : ℕ → A → Type 0) (l : List A) (i : ℕ) (x d : A) → i < length l → P i x → ((a : ℕ) → a ≢ i → P a (get_or l a d))
    → (a : ℕ) → P a (get_or (set l i x) a d)
set_cases P l i x d h p q a =
    elim (ℕ_discrete a i) [
      | yes e ↦ rw (e, get_or-set_same l i x d h) p
      | no o ↦ rw (get_or-set_other l i a x d o) (q a o)
    ]

-- the sum of a list with x stored at i
pub sum_store : (l : List ℕ) (n i x : ℕ) → length l ≡ n → i < n → sum_to n (at (set l i x)) + at l i ≡ sum_to n (at l) + x
sum_store l n i x e h = rw (get_d_set l i x 0 (omega arith)) (sum_updated n (at l) i x h)

-- a list changed at two places, as a function
pub set_twice : (l : List ℕ) (a x b y : ℕ) → a < length l → b < length l → at (set (set l a x) b y) ≡ updated (updated (at l) a x) b y
set_twice l a x b y h i = get_d_set (set l a x) b y 0 (omega (arith, length-set l a x)) ∙ ap (λ (f : ℕ → ℕ). updated f b y) (get_d_set l a x 0 h)
