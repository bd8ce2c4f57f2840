-- The heap in memory: stores before it leave its rows, a mark stands for no place, and a heap that is inverse has room for a row that is not in it. A
-- part of a slice that is lent up to its end, and what comes back.
use mathlib.Core.Path.{◌≡◌, refl, ap, ◌∙◌, subst}
use mathlib.Core.Logic.{◌≢◌}
use mathlib.Core.Bool.{Bool, true, false, cond}
use mathlib.Core.List.{List, [], ◌++◌, map, append-nil}
use Prim.Native.Nat.{ℕ, ◌+◌, ◌-◌, ◌*◌, ◌≤◌, ◌<◌}
use native.Mathlib.Omega.{arith}
use borrow.Author.Tests.{ne_eqb}
use lib.Dec.{eqb}
use lib.ListN.{length, get_or, set, take, drop, length-drop}
use lib.Seq.{drop-set-lt, take_all, take_at, drop_at, drop-drop, drop-length, length-take-le, set-get_or}
use Rattle.limits.specs.Limits.{none}
use Rattle.index_heap.specs.IndexHeap.{place_of}
use Rattle.index_heap.proofs.Rows.{room_left}
use Rattle.index_heap.proofs.Marks.{get_d_map}
use Rattle.hungarian_path.specs.declared.Frontier.{Frontier}
use Rattle.hungarian_path.specs.inner.Views.{unmarked, heap_in}
use Rattle.hungarian_path.specs.inner.Steps.{TouchReady}

-- ---- stores before the heap
module _ (n : ℕ) (w pos : List ℕ) (p a : ℕ) (front : p < 11 * n) where
  pub rows_front_lem : drop (11 * n) (set w p a) ≡ drop (11 * n) w
  rows_front_lem = drop-set-lt (11 * n) w p a front

  pub heap_front : (len : ℕ) → heap_in n (set w p a) pos len ≡ heap_in n w pos len
  unfolding heap_in
  heap_front len = λ k. record { heap = rows_front_lem k; pos = map unmarked pos; len = len }

-- ---- marks
pub unmarked_zero : unmarked 0 ≡ 0
unfolding unmarked
unmarked_zero = refl

pub unmarked_none : unmarked none ≡ 0
unfolding unmarked
unmarked_none = refl

pub unmarked_open : (p : ℕ) → p ≢ none → unmarked p ≡ p
unfolding unmarked
unmarked_open p o = rw (ne_eqb p none o)

pub unmarked_small : (p : ℕ) → p ≤ 4096 → unmarked p ≡ p
unmarked_small p h = unmarked_open p (λ e. omega arith)

-- what has a place is not marked
pub placed_open : (p : ℕ) → 0 < unmarked p → eqb p none ≡ false
unfolding unmarked
placed_open p h = go (eqb p none) h
  where
    go : (b : Bool) → 0 < cond b 0 p → b ≡ false
    go true l = let z : ⊥ = omega arith in absurd z
    go false l = refl

pub place_in : (n : ℕ) (w pos : List ℕ) (len i : ℕ) → place_of (heap_in n w pos len) i ≡ unmarked (get_or pos i 0)
unfolding heap_in
place_in n w pos len i = get_d_map unmarked unmarked_zero pos i

-- a new row has room
pub spare : (n : ℕ) (w pos : List ℕ) (frontier : Frontier) (i : ℕ) → TouchReady n w pos frontier i → get_or pos i 0 ≡ 0 → (frontier.touched < n)
    × (frontier.len < n)
unfolding heap_in
spare n w pos frontier i r e =
    (r.room e, room_left n (heap_in n w pos frontier.len) i r.heap r.row (place_in n w pos frontier.len i ∙ ap unmarked e ∙ unmarked_zero))

-- ---- a list that keeps a value
pub set_own : (l : List ℕ) (i a : ℕ) → get_or l i 0 ≡ a → set l i a ≡ l
set_own l i a e = subst (λ (z : ℕ). set l i z ≡ l) e (set-get_or l i 0)

-- ---- a part that is lent up to the end, and what the slice is when it is back
module _ (w : List ℕ) (at e : ℕ) (end : e ≡ length w) (h : at ≤ e) where
  pub part_is : take (e - at) (drop at w) ≡ drop at w
  part_is = take_all (e - at) (drop at w) (let l = length-drop at w in omega arith)

  none_left : drop (e - at) (drop at w) ≡ []
  none_left = drop-drop (e - at) at w ∙ ap (λ (k : ℕ). drop k w) (let z : at + (e - at) ≡ length w = omega arith in z) ∙ drop-length w

  pub part_take : (ys : List ℕ) → take at (take at w ++ (ys ++ drop (e - at) (drop at w))) ≡ take at w
  part_take ys = take_at (take at w) (ys ++ drop (e - at) (drop at w)) at (length-take-le at w (omega arith))

  pub part_drop : (ys : List ℕ) → drop at (take at w ++ (ys ++ drop (e - at) (drop at w))) ≡ ys
  part_drop ys = drop_at (take at w) (ys ++ drop (e - at) (drop at w)) at (length-take-le at w (omega arith)) ∙ ap (λ (t : List ℕ). ys ++ t) none_left
      ∙ append-nil ys
