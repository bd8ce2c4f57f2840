-- SPECIFICATION 5.11: The seven counts of every match, the Rust's five in its order and two of ours, and the steps that
-- raise them: each takes the counts and returns them.
use Rattle.std.specs.Prelude.{cond, List, [], ◌∷◌, ℕ, ◌+◌, ltb}
use Rattle.hungarian.specs.declared.HungarianStats.{HungarianStats}

abbrev pub counts : ℕ → ℕ → ℕ → ℕ → ℕ → ℕ → ℕ → HungarianStats
counts slots searches touched inner scans pops peak = record {
  heap_init_slots = slots;
  augment_searches = searches;
  touched_total = touched;
  phase3_inner_iters = inner;
  main_loop_edge_scans = scans;
  popped_total = pops;
  largest_heap = peak;
}

-- the same as a list, in the order in which they are answered and printed
abbrev pub count_list : HungarianStats → List ℕ
count_list c =
    c.heap_init_slots ∷ c.augment_searches ∷ c.touched_total ∷ c.phase3_inner_iters
    ∷ c.main_loop_edge_scans ∷ c.popped_total ∷ c.largest_heap ∷ []

abbrev pub no_counts : HungarianStats
no_counts = counts 0 0 0 0 0 0 0

-- heap slots set: n when the heap is made
unfoldable pub heap_made : ℕ → HungarianStats → HungarianStats
heap_made n c =
    counts (c.heap_init_slots + n) c.augment_searches c.touched_total c.phase3_inner_iters
    c.main_loop_edge_scans c.popped_total c.largest_heap

-- a search begins
unfoldable pub search_begun : HungarianStats → HungarianStats
search_begun c =
    counts c.heap_init_slots (c.augment_searches + 1) c.touched_total c.phase3_inner_iters
    c.main_loop_edge_scans c.popped_total c.largest_heap

-- a search that touched t rows ends: each row gives its heap slot back
unfoldable pub search_ended : ℕ → HungarianStats → HungarianStats
search_ended t c =
    counts (c.heap_init_slots + t) c.augment_searches (c.touched_total + t) c.phase3_inner_iters
    c.main_loop_edge_scans c.popped_total c.largest_heap

-- one inner step of phase 3
unfoldable pub inner_step : HungarianStats → HungarianStats
inner_step c =
    counts c.heap_init_slots c.augment_searches c.touched_total (c.phase3_inner_iters + 1)
    c.main_loop_edge_scans c.popped_total c.largest_heap

-- a column of m entries is scanned in a search
unfoldable pub column_scanned : ℕ → HungarianStats → HungarianStats
column_scanned m c =
    counts c.heap_init_slots c.augment_searches c.touched_total c.phase3_inner_iters
    (c.main_loop_edge_scans + m) c.popped_total c.largest_heap

-- a search popped p rows
unfoldable pub rows_popped : ℕ → HungarianStats → HungarianStats
rows_popped p c =
    counts c.heap_init_slots c.augment_searches c.touched_total c.phase3_inner_iters
    c.main_loop_edge_scans (c.popped_total + p) c.largest_heap

-- the larger of two sizes
unfoldable pub larger : ℕ → ℕ → ℕ
larger a b = cond (ltb a b) b a

-- a search's heap held up to h rows
unfoldable pub heap_seen : ℕ → HungarianStats → HungarianStats
unfolding larger
heap_seen h c =
    counts c.heap_init_slots c.augment_searches c.touched_total c.phase3_inner_iters
    c.main_loop_edge_scans c.popped_total (larger c.largest_heap h)
