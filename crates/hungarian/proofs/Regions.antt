-- Regions of a slice: a store inside one is a store in its list, a store elsewhere leaves it, and a word of it is the slice's word.
use mathlib.Core.Path.{◌≡◌, refl, sym, ap, ◌∙◌, subst}
use mathlib.Core.Logic.{◌⊎◌, inl, inr}
use mathlib.Core.List.{List, [], ◌∷◌, ◌++◌}
use Prim.Native.Nat.{ℕ, zero, suc, ◌+◌, ◌-◌, ◌*◌, ◌≤◌, ◌<◌}
use native.Mathlib.Nat.{mul-le-mul_right, suc-mul}
use native.Mathlib.Omega.{arith}
use lib.ListN.{length, get_or, take, drop, set, replicate, length-drop, length-replicate}
use lib.Seq.{length-take-le, take-take, get_or-take, get_or-drop, take-set-lt, take-set-le, drop-set-lt, drop-set-add}
use lib.Seq.{drop-append_seam, drop-append-add}
use Rattle.std.proofs.lemmas.List.{drop-append-le, drop-replicate, take-append-le, take-replicate, take_at}
use Rattle.hungarian.specs.inner.Layout.{region}

-- a region below another ends where the other begins, or before
pub region_ends : (r k n : ℕ) → r < k → r * n + n ≤ k * n
region_ends r k n h = let a = mul-le-mul_right n h in let b = suc-mul r n in omega arith

module _ {A : Type 0} (r n : ℕ) (w : List A) where
  pub region_length : r * n + n ≤ length w → length (region r n w) ≡ n
  unfolding region
  region_length h = length-take-le n (drop (r * n) w) (let e = length-drop (r * n) w in omega arith)

  pub region_at : (i : ℕ) (z : A) → i < n → get_or (region r n w) i z ≡ get_or w (r * n + i) z
  unfolding region
  region_at i z h = get_or-take n (drop (r * n) w) i z h ∙ get_or-drop (r * n) w i z

  pub region_set : (i : ℕ) (a : A) → i < n → region r n (set w (r * n + i) a) ≡ set (region r n w) i a
  unfolding region
  region_set i a h = ap (take n) (drop-set-add (r * n) w i a) ∙ take-set-lt n (drop (r * n) w) i a h

  pub region_other : (p : ℕ) (a : A) → (p < r * n) ⊎ (r * n + n ≤ p) → region r n (set w p a) ≡ region r n w
  unfolding region
  region_other p a (inl h) = ap (take n) (drop-set-lt (r * n) w p a h)
  region_other p a (inr h) =
      let e : r * n + (p - r * n) ≡ p = omega arith in
      subst (λ (q : ℕ). take n (drop (r * n) (set w q a)) ≡ take n (drop (r * n) w)) e
      (ap (take n) (drop-set-add (r * n) w (p - r * n) a) ∙ take-set-le n (drop (r * n) w) (p - r * n) a (omega arith))

  -- a store at place i of another region k
  pub region_apart : (k i : ℕ) (a : A) → i < n → (r < k) ⊎ (k < r) → region r n (set w (k * n + i) a) ≡ region r n w
  region_apart k i a h (inl l) = region_other (k * n + i) a (inr (let z = region_ends r k n l in omega arith))
  region_apart k i a h (inr l) = region_other (k * n + i) a (inl (let z = region_ends k r n l in omega arith))

-- a part that ends at or before b is a part of the first b
part_front : {A : Type 0} (m n b : ℕ) (w : List A) → m + n ≤ b → take n (drop m (take b w)) ≡ take n (drop m w)
part_front zero n b w h = take-take n b w (omega arith)
part_front (suc m) n zero w h = let z : ⊥ = omega arith in absurd z
part_front (suc m) n (suc b) [] h = refl
part_front (suc m) n (suc b) (x ∷ w) h = part_front m n b w (omega arith)

-- slices that agree up to b have the same regions below b
pub region_front : {A : Type 0} (r n b : ℕ) (w w' : List A) → r * n + n ≤ b → take b w' ≡ take b w → region r n w' ≡ region r n w
unfolding region
region_front {A} r n b w w' h e = sym (part_front (r * n) n b w' h) ∙ ap (λ (l : List A). take n (drop (r * n) l)) e ∙ part_front (r * n) n b w h

-- ---- a slice after a write to part of it: a region before the part, the part itself, one within it
module _ {A : Type 0} (r n : ℕ) where
  pub region_before : (a : ℕ) (w y : List A) → r * n + n ≤ a → a ≤ length w → region r n (take a w ++ y) ≡ region r n w
  region_before a w y h l = region_front r n a w (take a w ++ y) h (take_at (take a w) y a (length-take-le a w l))

  -- the part is the region
  pub region_written : (p x y : List A) → length p ≡ r * n → length x ≡ n → region r n (p ++ (x ++ y)) ≡ x
  unfolding region
  region_written p x y a b = rw (← a, drop-append_seam p (x ++ y)) (take_at x y n b)

  -- the part has one value, and the region is within it
  pub region_filled : (p y : List A) (m : ℕ) (v : A) → length p ≤ r * n → r * n + n ≤ length p + m → region r n (p ++ (replicate m v ++ y)) ≡ replicate n v
  unfolding region
  region_filled p y m v a b =
      let k : ℕ = r * n - length p in
      let e : length p + k ≡ r * n = omega arith in
      rw (
        ← e,
        drop-append-add p (replicate m v ++ y) k,
        drop-append-le k (replicate m v) y (rw length-replicate (omega arith)),
        drop-replicate k m v,
        take-append-le n (replicate (m - k) v) y (rw length-replicate (omega arith)),
      ) (take-replicate n (m - k) v (omega arith))
