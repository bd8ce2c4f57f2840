-- What holds from search to search: the state in which each column has its turn.
use Rattle.std.specs.Prelude.{◌≡◌, Bool, ℕ, ◌+◌, ◌*◌, ◌≤◌, ◌<◌, T, length, Float}
use Rattle.limits.specs.Limits.{none}
use Rattle.float64.specs.Constants.{rinf}
use Rattle.index_heap.specs.inner.Invariant.{Inverse, Within}
use Rattle.matching.specs.Pairing.{ClosedColumns}
use Rattle.hungarian.specs.declared.HungarianStats.{HungarianStats}
use Rattle.sparse.specs.Pattern.{bipartite, entries}
use Rattle.hungarian.specs.Graph.{CostGraph}
use Rattle.hungarian.specs.Counts.{counts}
use Rattle.hungarian.specs.Init.{Pairs}
use Rattle.hungarian.specs.Match.{Running}
use Rattle.hungarian.specs.inner.Between.{at, dual, Matched, Bounded, Tight}

-- the arrays of a search are as before the first
pub record Clean (g : CostGraph) (x : Running) : Type 0 where
  pub d_count : length x.d ≡ g.pattern.n
  pub far : (i : ℕ) → i < g.pattern.n → dual x.d i ≡ rinf
  pub heap : Inverse g.pattern.n x.heap
  pub none_within : (i : ℕ) → Within x.heap i → ⊥
  pub empty : x.heap.len ≡ 0
  pub pr_count : length x.pr ≡ g.pattern.n
  pub out_count : length x.out ≡ g.pattern.n

-- the counts of a run: its searches, how often a row was touched, the entries scanned, the rows popped and the largest
-- heap; the heap's slots are n and one for each touch
pub record Counted (g : CostGraph) (inner : ℕ) (c : HungarianStats) : Type 0 where
  pub searches : ℕ
  pub touches : ℕ
  pub scans : ℕ
  pub pops : ℕ
  pub peak : ℕ
  pub form : c ≡ counts (g.pattern.n + touches) searches touches inner scans pops peak
  pub touches_most : touches ≤ searches * g.pattern.n
  pub scans_most : scans ≤ searches * entries g.pattern
  pub pops_most : pops ≤ touches
  pub peak_most : peak ≤ g.pattern.n
  pub peak_none : searches ≡ 0 → peak ≡ 0

-- no free row is reached from the free columns below `done`
pub record Hopeless (g : CostGraph) (s : Pairs) (done : ℕ) : Type 0 where
  pub set : ℕ → Bool
  pub closed : ClosedColumns (bipartite g.pattern) none (at s.iperm) set
  pub holds : (j : ℕ) → j < done → at s.jperm j ≡ none → T (set j)

-- the columns below `done` have had their turn
pub record Runs (Good : Float → Type 0) (err C : ℕ) (g : CostGraph) (inner done : ℕ) (x : Running) : Type 0 where
  pub matched : Matched g x.pairs
  pub bounded : Bounded Good C g x.pairs x.u
  pub clean : Clean g x
  pub tight : err ≡ 0 → Tight g x.pairs x.u
  pub hopeless : Hopeless g x.pairs done
  pub counted : Counted g inner x.stats
  pub searches_most : counted.searches ≤ done
