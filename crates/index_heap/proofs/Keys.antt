-- Keys beside the places: one law for every move of a row (`keyed_set`), and what a lowered distance and a new row do to them. `Ready` stays through a
-- move, and an inverse heap has it.
use mathlib.Core.Path.{◌≡◌, sym, ap, ◌∙◌}
use mathlib.Core.Logic.{◌≢◌}
use mathlib.Core.List.{List, [], ◌∷◌}
use Prim.Native.Nat.{ℕ, zero, suc, ◌+◌, ◌-◌, ◌≤◌, ◌<◌, ◌^◌}
use native.Mathlib.Decide.{ℕ_discrete}
use native.Mathlib.Omega.{arith}
use lib.ListN.{length, get_or, set, length-set}
use lib.Seq.{get_or-set_same, get_or-set_other}
use lib.Ieee.{Float, nan}
use Rattle.index_heap.specs.IndexHeap.{Heap, row_at, place_of, key_of}
use Rattle.index_heap.specs.inner.Invariant.{Inverse}
use Rattle.index_heap.specs.inner.Slices.{Ready, Keyed}

-- ---- a row and its key are put at the hole: then any other place may be the hole
module _ (d : List Float) (len hole next : ℕ) (heap : List ℕ) (keys : List Float) (r : ℕ) (y : Float) where
  pub keyed_set : 1 ≤ hole → hole < length heap → hole ≤ length keys → key_of d r ≡ y → Keyed d len hole heap keys → Keyed d len next (set heap hole r)
      (set keys (hole - 1) y)
  keyed_set h1 hh hk e K = record { key = λ p a b o. go p a b (ℕ_discrete p hole) }
    where
      go : (p : ℕ) → 1 ≤ p → p ≤ len → Dec (p ≡ hole) → get_or (set keys (hole - 1) y) (p - 1) nan ≡ key_of d (get_or (set heap hole r) p 0)
      go p a b (yes z) = rw z (get_or-set_same keys (hole - 1) y nan (omega arith) ∙ sym e ∙ sym (ap (key_of d) (get_or-set_same heap hole r 0 hh)))
      go p a b (no z) = get_or-set_other keys (hole - 1) (p - 1) y nan (λ f. z (let q : p ≡ hole = omega arith in q)) ∙ K.key p a b z
          ∙ sym (ap (key_of d) (get_or-set_other heap hole p r 0 z))

-- fewer rows, and any hole
pub keyed_fewer : (d : List Float) (len m hole : ℕ) (heap : List ℕ) (keys : List Float) → m ≤ len → Keyed d len 0 heap keys → Keyed d m hole heap keys
keyed_fewer d len m hole heap keys h K = record { key = λ p a b o. K.key p a (omega arith) (λ e. omega arith) }

-- the place after the last may be the hole
pub keyed_enters : (d : List Float) (len : ℕ) (heap : List ℕ) (keys : List Float) → Keyed d len 0 heap keys → Keyed d (len + 1) (len + 1) heap keys
keyed_enters d len heap keys K = record { key = λ p a b o. K.key p a (below p b o) (λ e. omega arith) }
  where
    below : (p : ℕ) → p ≤ len + 1 → p ≢ len + 1 → p ≤ len
    below p b o = go (ℕ_discrete p (len + 1))
      where
        go : Dec (p ≡ len + 1) → p ≤ len
        go (yes e) = absurd (o e)
        go (no e) = omega arith

-- the distance of row i changes: its place, if it has one, is the hole
pub keyed_opens : (n : ℕ) (d : List Float) (i : ℕ) (x : Float) (h : Heap) (keys : List Float) → Inverse n h → Keyed d h.len 0 h.heap keys
    → Keyed (set d i x) h.len (place_of h i) h.heap keys
keyed_opens n d i x h keys inv K = record {
  key = λ p a b o. K.key p a b (λ e. omega arith) ∙ sym (get_or-set_other d i (row_at h p) x nan (λ e. o (sym (inv.placed p a b) ∙ ap (place_of h) e)));
}

-- no rows, no keys
pub keyed_none : (d : List Float) (hole : ℕ) (heap : List ℕ) (keys : List Float) → Keyed d 0 hole heap keys
keyed_none d hole heap keys = record { key = λ p a b o. (let z : ⊥ = omega arith in absurd z) }

-- ---- the ranges stay
pub set_either : {A : Type 0} (P : A → Type 0) (l : List A) (i j : ℕ) (a d : A) → P a → P (get_or l j d) → P (get_or (set l i a) j d)
set_either P [] i j a d x y = y
set_either P (b ∷ l) zero zero a d x y = x
set_either P (b ∷ l) zero (suc j) a d x y = y
set_either P (b ∷ l) (suc i) zero a d x y = y
set_either P (b ∷ l) (suc i) (suc j) a d x y = set_either P l i j a d x y

module _ (n : ℕ) (heap pos : List ℕ) (keys : List Float) (ready : Ready n heap pos keys) where
  pub ready_moved : (p r i x q : ℕ) (y : Float) → r < n → Ready n (set heap p r) (set pos i x) (set keys q y)
  ready_moved p r i x q y h = record {
    places = simp length-set ready.places;
    room = simp length-set ready.room;
    keyed = simp length-set ready.keyed;
    small = ready.small;
    rows = λ k a b. set_either (λ (z : ℕ). z < n) heap p k r 0 h (ready.rows k a b);
  }

-- an inverse heap is ready, whatever stands for the rows that are not in it
pub ready : (n : ℕ) (h : Heap) (pos : List ℕ) (keys : List Float) → Inverse n h → length pos ≡ n → length keys ≡ n → n < 2 ^ 32 → Ready n h.heap pos keys
ready n h pos keys inv e f small = record { places = inv.heap_length; room = e; keyed = f; small = small; rows = inv.rows }
