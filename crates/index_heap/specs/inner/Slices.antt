-- The heap of n rows as the code has it: two slices and a length, and a third slice with the key beside each place, so
-- that no step reads a row's distance.
use Rattle.std.specs.Prelude.{◌≡◌, ◌≢◌, List, ℕ, ◌+◌, ◌-◌, ◌≤◌, ◌<◌, ◌^◌, length, get_or, Float}
use Rattle.std.specs.Float.{nan}
use Rattle.index_heap.specs.IndexHeap.{Heap, key_of, sift_up, update, sift_down, pop}

abbrev pub heap_of : (heap pos : List ℕ) → ℕ → Heap
heap_of heap pos len = record { heap = heap; pos = pos; len = len }

-- What every step requires: places 0 to n, of which 0 is not used, a place for each row and a key for each place, and
-- rows at all places. The place of a row that is not in the heap may be anything.
pub record Ready (n : ℕ) (heap pos : List ℕ) (keys : List Float) : Type 0 where
  pub places : length heap ≡ n + 1
  pub room : length pos ≡ n
  pub keyed : length keys ≡ n
  pub small : n < 2 ^ 32
  pub rows : (p : ℕ) → 1 ≤ p → p ≤ n → get_or heap p 0 < n

-- the key of place p is that of its row, for the places of len rows except `hole`; 0 means no hole
pub record Keyed (d : List Float) (len hole : ℕ) (heap : List ℕ) (keys : List Float) : Type 0 where
  pub key : (p : ℕ) → 1 ≤ p → p ≤ len → p ≢ hole → get_or keys (p - 1) nan ≡ key_of d (get_or heap p 0)

-- the slices hold the heap h of len rows, with its keys
pub record Holds (d : List Float) (heap pos : List ℕ) (keys : List Float) (len : ℕ) (h : Heap) : Type 0 where
  pub same : heap_of heap pos len ≡ h
  pub keyed : Keyed d len 0 heap keys

-- ---- what each function promises, for all distances d whose keys are beside the places
abbrev pub Lifted : (i : ℕ) (x : Float) (place : ℕ) (heap heap' pos pos' : List ℕ) (keys keys' : List Float) → Type 0
Lifted i x place heap heap' pos pos' keys keys' =
    (d : List Float) (len : ℕ) → place ≤ len → key_of d i ≡ x → Keyed d len place heap keys
    → Holds d heap' pos' keys' len (sift_up place d i (heap_of heap pos len) place)

-- the key of row i is lowered to x
abbrev pub Updated : (i : ℕ) (x : Float) (heap heap' pos pos' : List ℕ) (keys keys' : List Float) → Type 0
Updated i x heap heap' pos pos' keys keys' =
    (d : List Float) (len : ℕ) → get_or pos i 0 ≤ len → key_of d i ≡ x → Keyed d len (get_or pos i 0) heap keys
    → Holds d heap' pos' keys' len (update d i (heap_of heap pos len))

abbrev pub Sunk : (len i : ℕ) (x : Float) (heap heap' pos pos' : List ℕ) (keys keys' : List Float) → Type 0
Sunk len i x heap heap' pos pos' keys keys' =
    (d : List Float) → key_of d i ≡ x → Keyed d len 1 heap keys
    → Holds d heap' pos' keys' len (sift_down (len + 1) d i (heap_of heap pos len) 1)

pub record Popped (len : ℕ) (heap heap' pos pos' : List ℕ) (keys keys' : List Float) (r : ℕ) : Type 0 where
  pub answer : r ≡ get_or heap 1 0
  pub left : (d : List Float) → Keyed d len 0 heap keys
      → Holds d heap' pos' keys' (len - 1) (pop d (heap_of heap pos len))
