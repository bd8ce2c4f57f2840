-- What holds of a heap: its two arrays are inverse to each other, whatever the keys are; and no parent has a larger
-- key than its child.
use Rattle.std.specs.Prelude.{◌≡◌, List, true, ℕ, ◌+◌, ◌/◌, ◌≤◌, ◌<◌, length, Float}
use Rattle.std.specs.Float.Ieee.{le}
use Rattle.float64.specs.inner.Keys.{Ordered}
use Rattle.index_heap.specs.IndexHeap.{Heap, row_at, place_of, key_of}

-- row i is in the heap
abbrev pub Within : Heap → ℕ → Type 0
Within h i = 0 < place_of h i

-- For n rows. Places past len hold old rows: they may be read, but have no meaning.
pub record Inverse (n : ℕ) (h : Heap) : Type 0 where
  pub heap_length : length h.heap ≡ n + 1
  pub pos_length : length h.pos ≡ n
  pub room : h.len ≤ n
  pub rows : (p : ℕ) → 1 ≤ p → p ≤ n → row_at h p < n
  pub placed : (p : ℕ) → 1 ≤ p → p ≤ h.len → place_of h (row_at h p) ≡ p
  pub held : (i : ℕ) → Within h i → (place_of h i ≤ h.len) × (row_at h (place_of h i) ≡ i)

-- the keys in the heap are doubles, and none is NaN
pub record Comparable (d : List Float) (h : Heap) : Type 0 where
  pub ordered : (i : ℕ) → Within h i → Ordered (key_of d i)

-- the key at each place is at least its parent's
pub record HeapOrder (d : List Float) (h : Heap) : Type 0 where
  pub parent : (p : ℕ) → 2 ≤ p → p ≤ h.len → le (key_of d (row_at h (p / 2))) (key_of d (row_at h p)) ≡ true

-- h' has the rows of h, and the same length
pub record SameRows (h h' : Heap) : Type 0 where
  pub len : h'.len ≡ h.len
  pub stays : (i : ℕ) → Within h i → Within h' i
  pub was : (i : ℕ) → Within h' i → Within h i

-- h' has the rows of h and row i
pub record WithRow (i : ℕ) (h h' : Heap) : Type 0 where
  pub len : h'.len ≡ h.len + 1
  pub enters : Within h' i
  pub stays : (j : ℕ) → Within h j → Within h' j
  pub was : (j : ℕ) → (j ≡ i → ⊥) → Within h' j → Within h j

-- h' has the rows of h but i
pub record WithoutRow (i : ℕ) (h h' : Heap) : Type 0 where
  pub len : h'.len + 1 ≡ h.len
  pub leaves : place_of h' i ≡ 0
  pub stays : (j : ℕ) → (j ≡ i → ⊥) → Within h j → Within h' j
  pub was : (j : ℕ) → Within h' j → Within h j
