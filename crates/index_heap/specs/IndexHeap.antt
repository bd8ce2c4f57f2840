-- SPECIFICATION 5.3: The Rust's IndexHeap: a one-based binary heap of rows by their distance d. Ties decide results, so
-- the arrays themselves are the definition. `heap` has the row at each place from 1 to len, `pos` the place of each
-- row, 0 for a row that is not in the heap.
use Rattle.std.specs.Prelude.{List, cond, ◌&&◌, ℕ, zero, suc, ◌+◌, ◌-◌, ◌*◌, ◌/◌, leb, ltb, eqb, get_or, set, Float}
use Rattle.std.specs.Float.{nan}
use Rattle.std.specs.Float.Ieee.{lt, le}

pub record Heap : Type 0 where
  pub heap : List ℕ
  pub pos : List ℕ
  pub len : ℕ

-- the row at a place, the place of a row, the key of a row
abbrev pub row_at : Heap → ℕ → ℕ
row_at h p = get_or h.heap p 0

abbrev pub place_of : Heap → ℕ → ℕ
place_of h i = get_or h.pos i 0

abbrev pub key_of : List Float → ℕ → Float
key_of d i = get_or d i nan

-- row i at place p
unfoldable pub set_row : Heap → ℕ → ℕ → Heap
set_row h p i = record { heap = set h.heap p i; pos = set h.pos i p; len = h.len }

-- x as the place of row i, in a heap of len rows
unfoldable pub set_place : Heap → ℕ → ℕ → ℕ → Heap
set_place h i x len = record { heap = h.heap; pos = set h.pos i x; len = len }

-- Row i moves up from place p: parents with a larger key move down; it stops below a parent that is smaller or equal.
-- The first argument bounds the steps; p of them are enough.
unfoldable pub sift_up : ℕ → List Float → ℕ → Heap → ℕ → Heap
unfolding set_row
sift_up zero d i h p = set_row h p i
sift_up (suc k) d i h p =
    let parent = row_at h (p / 2) in
    let rest = sift_up k d i (set_row h p parent) (p / 2) in
    cond (leb p 1) (set_row h p i) (cond (le (key_of d parent) (key_of d i)) (set_row h p i) rest)

-- the key of i was lowered
unfoldable pub update : List Float → ℕ → Heap → Heap
unfolding sift_up
update d i h = sift_up (place_of h i) d i h (place_of h i)

-- i is new: it enters at the last place
unfoldable pub insert : List Float → ℕ → Heap → Heap
unfolding set_place update
insert d i h = update d i (set_place h i (h.len + 1) (h.len + 1))

-- the left of two neighbours, with keys x and y, unless the right one is in the heap and has a smaller key
unfoldable pub chosen : (left len : ℕ) → (x y : Float) → ℕ
chosen left len x y = cond (ltb left len && lt y x) (left + 1) left

-- the child of place p that is to move up
unfoldable pub child_of : List Float → Heap → ℕ → ℕ
unfolding chosen
child_of d h p = chosen (2 * p) h.len (key_of d (row_at h (2 * p))) (key_of d (row_at h (2 * p + 1)))

-- Row i moves down from place p: the child moves up until i's key is at most the child's. len of steps are enough.
unfoldable pub sift_down : ℕ → List Float → ℕ → Heap → ℕ → Heap
unfolding set_row child_of
sift_down zero d i h p = set_row h p i
sift_down (suc k) d i h p =
    let child = child_of d h p in
    let rest = sift_down k d i (set_row h p (row_at h child)) child in
    cond (ltb h.len (2 * p)) (set_row h p i) (cond (le (key_of d i) (key_of d (row_at h child))) (set_row h p i) rest)

-- the top leaves: the last row takes its place and moves down
unfoldable pub pop : List Float → Heap → Heap
unfolding set_place sift_down
pop d h =
    let left = set_place h (row_at h 1) 0 (h.len - 1) in
    let moved = sift_down h.len d (row_at h h.len) left 1 in
    cond (eqb h.len 1) left moved
