-- Laws that every phase uses: one more turn of a counting loop and none left, words of the regions by their place in the slice.
use mathlib.Core.Path.{◌≡◌, refl}
use mathlib.Core.Logic.{◌⊎◌}
use mathlib.Core.List.{List}
use Prim.Native.Nat.{ℕ, suc, ◌+◌, ◌-◌, ◌*◌, ◌≤◌, ◌<◌}
use native.Mathlib.Nat.{le_refl}
use native.Mathlib.Numerals.{add-one}
use native.Mathlib.Omega.{arith}
use lib.ListN.{get_or, set}
use Rattle.hungarian.specs.Loop.{steps, each}
use Rattle.sparse.specs.Pattern.{row_of, end, entries}
use Rattle.hungarian.specs.Graph.{CostGraph}
use Rattle.hungarian.specs.inner.Layout.{region}
use Rattle.sparse.proofs.Columns.{pointers_rise}
use Rattle.hungarian.proofs.Regions.{region_at, region_set, region_apart}
use Rattle.hungarian_claim.specs.inner.Memory.{Sound}

-- ---- counting loops
pub each_more : {A : Type 0} (f : ℕ → A → A) (k to : ℕ) (s : A) → k < to → each k to f s ≡ each (k + 1) to f (f k s)
unfolding steps
each_more f k to s h =
    let e : to - k ≡ suc (to - (k + 1)) = omega arith in
    rw (e, add-one k) refl

pub each_none : {A : Type 0} (f : ℕ → A → A) (k to : ℕ) (s : A) → to ≤ k → each k to f s ≡ s
unfolding steps
each_none f k to s h = let e : to - k ≡ 0 = omega arith in rw e refl

-- where a column ends, as the code reads it
abbrev pub stop : CostGraph → ℕ → ℕ
stop g j = get_or g.pattern.col_ptr (j + 1) 0

pub stop_is : (g : CostGraph) (j : ℕ) → stop g j ≡ end g.pattern j
stop_is g j = rw (add-one j) refl

-- an entry of a column is one of the graph's, and its row one of the n
pub entry_in : (g : CostGraph) (j k : ℕ) → Sound g → j < g.pattern.n → k < stop g j → (k < entries g.pattern) × (row_of g.pattern k < g.pattern.n)
entry_in g j k s h b =
    let o = s.columns in
    let t : k < entries g.pattern = omega (
      arith,
      stop_is g j,
      pointers_rise g.pattern o (suc j) g.pattern.n h
          (le_refl g.pattern.n),
      o.pointers.last,
    ) in
    (t, o.inside k t)

-- ---- place p of a slice is place i of its region r
module _ {A : Type 0} (r n : ℕ) (w : List A) (p i : ℕ) (e : p ≡ r * n + i) (h : i < n) where
  pub word : (z : A) → get_or (region r n w) i z ≡ get_or w p z
  word z = rw e (region_at r n w i z h)

  pub store : (a : A) → region r n (set w p a) ≡ set (region r n w) i a
  store a = rw e (region_set r n w i a h)

  pub apart : (k : ℕ) (a : A) → (k < r) ⊎ (r < k) → region k n (set w p a) ≡ region k n w
  apart k a o = rw e (region_apart k n w r i a h o)
