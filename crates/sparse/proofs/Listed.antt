-- A fault is one of the numbers of its tests: what a test, a chain and a search for the first fault answer where each part is listed. By cases.
use mathlib.Core.Path.{◌≡◌, refl, subst}
use mathlib.Core.Bool.{Bool, true, false, ◌&&◌, ◌||◌, false≢true}
use mathlib.Core.List.{List, [], ◌∷◌}
use Prim.Native.Nat.{ℕ, zero, suc}
use lib.Dec.{eqb}
use borrow.Author.Tests.{eqb-true}
use Rattle.refusal.specs.Listed.{listed}
use Rattle.sparse.specs.Fault.{unless, or_else, first_of}
use Rattle.slices.proofs.Bools.{both}

-- the number is one of the list: a type from which both can be read
pub record Listed (numbers : List ℕ) (number : ℕ) : Type 0 where
  pub is : listed numbers number ≡ true

-- ---- faults
pub test : {l : List ℕ} (t : Bool) (number : ℕ) → listed l 0 ≡ true → listed l number ≡ true → Listed l (unless t number)
test true number z p = record { is = z }
test false number z p = record { is = p }

pub or_listed : {l : List ℕ} {a b : ℕ} → Listed l a → Listed l b → Listed l (or_else a b)
or_listed {l} {a} {b} p q = go a p
  where
    go : (x : ℕ) → Listed l x → Listed l (or_else x b)
    go zero h = q
    go (suc x) h = h

pub first_listed : {l : List ℕ} {f : ℕ → ℕ} (count k : ℕ) → listed l 0 ≡ true → ((i : ℕ) → Listed l (f i)) → Listed l (first_of count f k)
unfolding first_of
first_listed zero k z p = record { is = z }
first_listed (suc count) k z p = or_listed (p k) (first_listed count (suc k) z p)

-- ---- a list within another
unfoldable pub within : List ℕ → List ℕ → Bool
within [] l = true
within (number ∷ numbers) l = listed l number && within numbers l

pub wider : (k l : List ℕ) (x : ℕ) → within k l ≡ true → listed k x ≡ true → listed l x ≡ true
unfolding within listed
wider [] l x w p = absurd (false≢true p)
wider (y ∷ k) l x w p = let b = both (listed l y) (within k l) w in go (eqb y x) refl b.0 (wider k l x b.1) p
  where
    go : (t : Bool) → eqb y x ≡ t → listed l y ≡ true → (listed k x ≡ true → listed l x ≡ true) → (t || listed k x) ≡ true → listed l x ≡ true
    go true e first rest q = subst (λ (i : ℕ). listed l i ≡ true) (eqb-true y x e) first
    go false e first rest q = rest q

-- what is listed in k is listed in l
pub part : {l : List ℕ} (k : List ℕ) {x : ℕ} → Listed k x → within k l ≡ true → Listed l x
part {l} k {x} p w = record { is = wider k l x w p.is }
