-- Duals of popped rows are raised, in the order in which the rows were popped: each turn is a step of the definition's `raise`.
use mathlib.Core.Path.{◌≡◌}
use mathlib.Core.List.{List}
use Prim.Native.Nat.{ℕ, ◌+◌, ◌≤◌, ◌<◌}
use native.Mathlib.Numerals.{add-one}
use lib.ListN.{length, get_or, set, drop}
use lib.Seq.{drop-cons}
use lib.Ieee.{Float, nan, binary64, add, sub}
use Rattle.std.proofs.lemmas.List.{drop_all}
use Rattle.hungarian.specs.Search.{raise}

-- before place p of the list `rows`
pub record RaiseAt (d : List Float) (csp : Float) (rows : List ℕ) (u₀ u : List Float) (p : ℕ) : Type 0 where
  pub run : raise d csp (drop p rows) u ≡ raise d csp rows u₀

module _ {d : List Float} {csp : Float} {rows : List ℕ} {u₀ u : List Float} {p : ℕ} (I : RaiseAt d csp rows u₀ u p) where
  pub raise_turn : p < length rows → RaiseAt d csp rows u₀
      (set u (get_or rows p 0) (add binary64 (get_or u (get_or rows p 0) nan) (sub binary64 (get_or d (get_or rows p 0) nan) csp))) (p + 1)
  unfolding raise
  raise_turn h = record { run = rw add-one (rw (drop-cons rows p 0 h) at I.run) }

  pub raise_end : length rows ≤ p → u ≡ raise d csp rows u₀
  unfolding raise
  raise_end h = rw (drop_all p rows h) at I.run
