-- A function changed at one place, by cases on the place; a list after a store is one.
use mathlib.Core.Path.{◌≡◌, refl, sym, fun_ext, ◌∙◌}
use mathlib.Core.Logic.{◌≢◌}
use mathlib.Core.Bool.{Bool, true, false, cond}
use mathlib.Core.List.{List}
use Prim.Native.Nat.{ℕ, ◌<◌}
use native.Mathlib.Decide.{ℕ_discrete}
use lib.Dec.{T, eqb, eqb→eq, eqb_refl}
use lib.ListN.{length, get_or, set}
use lib.Seq.{get_or-set_same, get_or-set_other}
use Rattle.matching.specs.Sum.{updated}

pub updated_same : {A : Type 0} (f : ℕ → A) (i : ℕ) (a : A) → updated f i a i ≡ a
unfolding updated
updated_same f i a = go (eqb i i) (eqb_refl i)
  where
    go : (b : Bool) → T b → cond b a (f i) ≡ a
    go true t = refl
    go false t = absurd t

pub updated_other : {A : Type 0} (f : ℕ → A) (i : ℕ) (a : A) (j : ℕ) → j ≢ i → updated f i a j ≡ f j
unfolding updated
updated_other f i a j h = go (eqb j i) (λ t. h (eqb→eq j i t))
  where
    go : (b : Bool) → (T b → ⊥) → cond b a (f j) ≡ f j
    go true n = absurd (n tt)
    go false n = refl

-- reading a list after a store at i is reading with i changed
pub get_d_set : {A : Type 0} (l : List A) (i : ℕ) (a z : A) → i < length l → (λ (j : ℕ). get_or (set l i a) j z) ≡ updated (λ (j : ℕ). get_or l j z) i a
get_d_set l i a z h = fun_ext at
  where
    at : (j : ℕ) → get_or (set l i a) j z ≡ updated (λ (j : ℕ). get_or l j z) i a j
    at j =
        elim (ℕ_discrete j i) [
          | yes e ↦ rw e (get_or-set_same l i a z h ∙ sym (updated_same (λ (j : ℕ). get_or l j z) i a))
          | no d ↦ get_or-set_other l i j a z d ∙ sym (updated_other (λ (j : ℕ). get_or l j z) i a j d)
        ]
