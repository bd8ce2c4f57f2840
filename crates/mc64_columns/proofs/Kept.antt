-- One more place of a column, or none (`keep`): what holds of all its places, that they rise, and that what agrees at them is alike.
use mathlib.Core.Path.{◌≡◌, refl, sym, ap, ◌∙◌, subst}
use mathlib.Core.Bool.{Bool, true, false}
use mathlib.Core.List.{List, [], ◌∷◌, ◌++◌, map, map-append, append-nil}
use mathlib.Core.Logic.{⊎_elim}
use Prim.Native.Nat.{ℕ, zero, suc, ◌<◌}
use native.Mathlib.Nat.{not-suc-le-zero}
use native.Mathlib.Omega.{arith}
use lib.ListN.{length, get_or, get_or-append}
use Rattle.slices.specs.Lists.{keep}
use Rattle.slices.proofs.Lists.{get_d_last, last_or}

pub map_at : {A : Type 0} (f : ℕ → A) (l : List ℕ) (i : ℕ) (d : A) → i < length l → get_or (map f l) i d ≡ f (get_or l i 0)
map_at f [] i d h = absurd (not-suc-le-zero h)
map_at f (x ∷ l) zero d h = refl
map_at f (x ∷ l) (suc i) d h = map_at f l i d (omega arith)

module _ (l : List ℕ) (k : ℕ) where
  pub keep_all : (P : ℕ → Type 0) (i : ℕ) (b : Bool) → (i < length l → P (get_or l i 0)) → (b ≡ true → P k) → i < length (l ++ keep b k)
      → P (get_or (l ++ keep b k) i 0)
  keep_all P i true old new h =
      ⊎_elim (λ s. rw (get_or-append l (k ∷ []) 0 i s) (old s))
      (λ s.
      let q : get_or (l ++ (k ∷ [])) i 0 ≡ k = ap (λ (x : ℕ). get_or (l ++ (k ∷ [])) x 0) s ∙ get_d_last l k 0 in
      subst P (sym q) (new refl))
      (last_or l k i h)
  keep_all P i false old new h = rw append-nil (old (rw append-nil at h))

  pub keep_rises : (i : ℕ) (b : Bool) → ((j : ℕ) → j < length l → get_or l j 0 < k) → (suc i < length l → get_or l i 0 < get_or l (suc i) 0)
      → suc i < length (l ++ keep b k) → get_or (l ++ keep b k) i 0 < get_or (l ++ keep b k) (suc i) 0
  keep_rises i true under old h =
      ⊎_elim (λ s. rw (get_or-append l (k ∷ []) 0 i (omega arith), get_or-append l (k ∷ []) 0 (suc i) s) (old s))
      (λ s. rw (get_or-append l (k ∷ []) 0 i (omega arith), s, get_d_last l k 0) (under i (omega arith))) (last_or l k (suc i) h)
  keep_rises i false under old h = rw append-nil (old (rw append-nil at h))

  pub keep_alike : {A : Type 0} (f g : ℕ → A) (b : Bool) → map f l ≡ map g l → (b ≡ true → f k ≡ g k) → map f (l ++ keep b k) ≡ map g (l ++ keep b k)
  keep_alike f g true old new = rw (map-append f l (k ∷ []), map-append g l (k ∷ []), old, new refl) refl
  keep_alike f g false old new = rw append-nil old
