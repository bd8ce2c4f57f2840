-- What the functions that prepare the arrays of a search require and promise: after a search, and before the first.
use Rattle.std.specs.Prelude.{◌≡◌, List, ℕ, ◌+◌, ◌*◌, ◌≤◌, ◌<◌, length, get_or, take, drop, replicate, Float}
use Rattle.limits.specs.Limits.{none}
use Rattle.float64.specs.Constants.{rinf}
use Rattle.hungarian.specs.inner.Layout.{Workspace, region, iperm_at, jperm_at, pr_at, out_at, touched_at, heap_at}
use Rattle.hungarian.specs.Search.{restore}

-- ---- after a search
pub record ResetReady (n : ℕ) (w pos : List ℕ) (d : List Float) (touched : ℕ) : Type 0 where
  pub workspace : Workspace n w
  pub places : length pos ≡ n
  pub d_count : length d ≡ n
  pub room : touched ≤ n
  pub rows : (p : ℕ) → p < touched → get_or w (touched_at * n + p) 0 < n

pub record Resets (n : ℕ) (w pos pos' : List ℕ) (d d' : List Float) (touched : ℕ) : Type 0 where
  pub distances : d' ≡ restore rinf (take touched (region touched_at n w)) d
  pub places : pos' ≡ restore 0 (take touched (region touched_at n w)) pos

-- ---- before the first search
pub record Prepared (n : ℕ) (w w' pos' : List ℕ) (d' : List Float) : Type 0 where
  pub distances : d' ≡ replicate n rinf
  pub places : pos' ≡ replicate n 0
  pub heap : drop (heap_at * n) w' ≡ replicate (n + 1) 0
  pub pr : region pr_at n w' ≡ replicate n none
  pub out : region out_at n w' ≡ replicate n none
  pub iperm : region iperm_at n w' ≡ region iperm_at n w
  pub jperm : region jperm_at n w' ≡ region jperm_at n w
