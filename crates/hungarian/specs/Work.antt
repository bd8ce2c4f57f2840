-- SPECIFICATION 5.11: Bounds on the counts of a match.
use Rattle.std.specs.Prelude.{◌≡◌, ◌⊎◌, ◌+◌, ◌*◌, ◌≤◌}
use Rattle.hungarian.specs.declared.HungarianStats.{HungarianStats}
use Rattle.sparse.specs.Pattern.{entries}
use Rattle.hungarian.specs.Graph.{CostGraph}

-- phase 3 steps are at most the entries, searches at most n; a search touches a row at most once and scans an entry at
-- most once; heap slots are 0, or n plus one for each touch; a search pops only rows that it touched, each once, and
-- its heap holds at most n rows; without a search no row is popped and the largest heap is 0
pub record Work (g : CostGraph) (c : HungarianStats) : Type 0 where
  pub inner : c.phase3_inner_iters ≤ entries g.pattern
  pub searches : c.augment_searches ≤ g.pattern.n
  pub touched : c.touched_total ≤ c.augment_searches * g.pattern.n
  pub scans : c.main_loop_edge_scans ≤ c.augment_searches * entries g.pattern
  pub slots : (c.heap_init_slots ≡ 0) ⊎ (c.heap_init_slots ≡ g.pattern.n + c.touched_total)
  pub pops : c.popped_total ≤ c.augment_searches * g.pattern.n
  pub pops_touched : c.popped_total ≤ c.touched_total
  pub heap : c.largest_heap ≤ g.pattern.n
  pub idle : c.augment_searches ≡ 0 → (c.popped_total ≡ 0) × (c.largest_heap ≡ 0)
