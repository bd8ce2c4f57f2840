-- The heap's steps keep what a search needs of them: index_heap's laws, as one record.
use mathlib.Core.Path.{◌≡◌, subst}
use mathlib.Core.List.{List}
use Prim.Native.Nat.{ℕ, ◌≤◌, ◌<◌}
use native.Mathlib.Nat.{lt_of_lt_of_le}
use lib.ListN.{length, set}
use lib.Seq.{get_or-set_same}
use lib.Ieee.{Float, nan}
use Rattle.float64.specs.inner.Keys.{Ordered}
use Rattle.index_heap.specs.IndexHeap.{Heap, place_of, insert}
use Rattle.index_heap.specs.inner.Invariant.{Inverse, HeapOrder, Comparable}
use Rattle.index_heap.proofs.Rows as Rows
use Rattle.index_heap.proofs.Order as Order
use Rattle.hungarian.proofs.Tree.{HeapLaws}

pub heap_laws : (n : ℕ) → HeapLaws n
heap_laws n = record {
  insert_inverse = λ d i h inv b o. Rows.insert_inverse n d i h inv b o;
  insert_rows = λ d i h inv b o. Rows.insert_rows n d i h inv b o;
  update_inverse = λ d i h inv w. Rows.update_inverse n d i h inv w;
  update_rows = λ d i h inv w. Rows.update_rows n d i h inv w;
  pop_inverse = λ d h inv l. Rows.pop_inverse n d h inv l;
  pop_rows = λ d h inv l. Rows.pop_rows n d h inv l;
  insert_order = insert_order;
  update_order = λ d x i h inv w l e c c' o. Order.update_order n d i x h inv w c o
      (subst Ordered (get_or-set_same d i x nan (lt_of_lt_of_le (Rows.row_below n h i inv w) l)) (c'.ordered i w)) e;
  pop_order = λ d h inv l c o. Order.pop_order n d h inv c o l;
  top_least = λ d h i inv c o w. Order.top_least n d h inv c o i w;
}
  where
    insert_order : (d : List Float) (x : Float) (i : ℕ) (h : Heap) → Inverse n h → i < n → place_of h i ≡ 0 → n ≤ length d → HeapOrder d h
        → Comparable (set d i x) (insert (set d i x) i h) → HeapOrder (set d i x) (insert (set d i x) i h)
    insert_order d x i h inv b o l order c =
        let w = Rows.insert_rows n (set d i x) i h inv b o in
        Order.insert_order n (set d i x) h inv (record { ordered = λ j m. c.ordered j (w.stays j m) }) (Order.outside_order n d i x h inv o order) i
        b o (c.ordered i w.enters)
