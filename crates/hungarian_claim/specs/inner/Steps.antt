-- What each function leaves: the definition's step of the states that its slices hold.
use Rattle.std.specs.Prelude.{◌≡◌, List, ℕ, suc, ◌+◌, ◌≤◌, ◌<◌, length, get_or, replicate, Float}
use Rattle.limits.specs.Limits.{none}
use Rattle.float64.specs.Constants.{rinf}
use Rattle.hungarian.specs.Loop.{each}
use Rattle.sparse.specs.Pattern.{start, end}
use Rattle.hungarian.specs.Graph.{CostGraph, graph_of}
use Rattle.hungarian.specs.Init.{lower, claim, phase1}
use Rattle.hungarian.specs.inner.Layout.{Workspace, region, iperm_at, jperm_at, least_at}
use Rattle.hungarian_claim.specs.inner.Memory.{minima_of, pairs_counted, Columned}

-- no row has been examined, no column has an entry
pub record Cleared (n : ℕ) (u : List Float) (w : List ℕ) : Type 0 where
  pub minima : minima_of n u w ≡ record { u = replicate n rinf; iperm = replicate n none; least = replicate n none }
  pub entries : region jperm_at n w ≡ replicate n none

-- column j has been examined
pub record Lowered (g : CostGraph) (j : ℕ) (u : List Float) (w : List ℕ) (u' : List Float) (w' : List ℕ) : Type 0 where
  pub minima : minima_of g.pattern.n u' w' ≡ each (start g.pattern j) (end g.pattern j) (lower g j)
      (minima_of g.pattern.n u w)
  pub entries : region jperm_at g.pattern.n w' ≡ region jperm_at g.pattern.n w

pub record Minimal (g : CostGraph) (u : List Float) (w : List ℕ) : Type 0 where
  pub minima : minima_of g.pattern.n u w ≡ phase1 g
  pub entries : region jperm_at g.pattern.n w ≡ replicate g.pattern.n none

-- what a claim requires: pointers that rise, and columns in range
pub record Claimable (n : ℕ) (col_ptr w : List ℕ) : Type 0 where
  pub workspace : Workspace n w
  pub pointer_count : length col_ptr ≡ suc n
  pub rises : (j : ℕ) → j < n → get_or col_ptr j 0 ≤ get_or col_ptr (suc j) 0
  pub columned : Columned n (region iperm_at n w)

-- row i has claimed its column, whatever entries the columns have
pub record ClaimedRow (n : ℕ) (col_ptr w : List ℕ) (i num : ℕ) (w' : List ℕ) (r : ℕ) : Type 0 where
  pub pairs : (rows : List ℕ) (cost : List Float) → pairs_counted n w' r
      ≡ claim (graph_of n col_ptr rows cost) (region least_at n w) i (pairs_counted n w num)
  pub least : region least_at n w' ≡ region least_at n w
  pub columned : Columned n (region iperm_at n w')
  pub few : r ≤ num + 1

pub record ClaimedRows (n : ℕ) (col_ptr w w' : List ℕ) (r : ℕ) : Type 0 where
  pub pairs : (rows : List ℕ) (cost : List Float) → pairs_counted n w' r
      ≡ each 0 n (claim (graph_of n col_ptr rows cost) (region least_at n w)) (pairs_counted n w 0)
  pub columned : Columned n (region iperm_at n w')
  pub few : r ≤ n
