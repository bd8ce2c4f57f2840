-- What the functions that flip the pairs along the path of a search require and promise.
use Rattle.std.specs.Prelude.{◌≡◌, ◌⊎◌, List, ℕ, ◌+◌, ◌*◌, ◌≤◌, ◌<◌, length, get_or, drop}
use Rattle.limits.specs.Limits.{none, max_general}
use Rattle.hungarian.specs.Graph.{CostGraph}
use Rattle.hungarian.specs.Init.{Pairs}
use Rattle.hungarian.specs.inner.Layout.{Workspace, region, iperm_at, jperm_at, pr_at, out_at}
use Rattle.hungarian.specs.Search.{Tree, walk, flip}
use Rattle.hungarian.specs.inner.SearchTree.{Scanned}

abbrev pub pairs_at : ℕ → List ℕ → ℕ → Pairs
pairs_at n w num = record { iperm = region iperm_at n w; jperm = region jperm_at n w; num = num }

-- from column j back to the root r there are only columns that were scanned
pub record WalkReady (n : ℕ) (rows w : List ℕ) (j : ℕ) : Type 0 where
  pub workspace : Workspace n w
  pub few_entries : length rows ≤ max_general
  pub inside : (k : ℕ) → k < length rows → get_or rows k 0 < n
  pub s : Pairs
  pub r : ℕ
  pub popped : List ℕ
  pub on : Scanned s r popped j
  pub column : (c : ℕ) → Scanned s r popped c → c < n
  pub next : (c : ℕ) → Scanned s r popped c → (get_or w (pr_at * n + c) 0 ≡ none)
      ⊎ (Scanned s r popped (get_or w (pr_at * n + c) 0) × (get_or w (out_at * n + c) 0 < length rows))

pub record Walks (n : ℕ) (rows w w' : List ℕ) (j most : ℕ) : Type 0 where
  pub pairs : (g : CostGraph) (t : Tree) (num : ℕ) → g.pattern.row_idx ≡ rows → t.pr ≡ region pr_at n w → t.out
      ≡ region out_at n w → pairs_at n w' num ≡ walk g t most j (pairs_at n w num)
  pub rest : drop (2 * n) w' ≡ drop (2 * n) w

pub record Flips (n : ℕ) (rows w w' : List ℕ) (k j num : ℕ) : Type 0 where
  pub pairs : (g : CostGraph) (t : Tree) → g.pattern.row_idx ≡ rows → t.pr ≡ region pr_at n w
      → t.out ≡ region out_at n w
      → pairs_at n w' (num + 1) ≡ flip g t k j (pairs_at n w num)
  pub rest : drop (2 * n) w' ≡ drop (2 * n) w
