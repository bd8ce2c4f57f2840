-- The loops over a column: the largest log so far, and the costs below k.
use mathlib.Core.Path.{◌≡◌, refl, sym, ap, ◌∙◌}
use mathlib.Core.Bool.{Bool, cond}
use mathlib.Core.List.{List, [], ◌∷◌, ◌++◌, append-nil}
use Prim.Native.Nat.{ℕ, zero, suc, ◌+◌, ◌-◌, ◌≤◌, ◌<◌}
use native.Mathlib.Numerals.{add-one}
use native.Mathlib.Omega.{arith}
use lib.ListN.{length, get_or, take, drop, set, drop_of_length-le}
use lib.Seq.{drop-cons, take_all}
use lib.Ieee.{Float, nan, binary64, sub, lt}
use Rattle.mc64_columns.specs.Columns.{largest, largest_from, below}

-- ---- the largest log of a list is `all`: `top` is that of the first k
pub largest_begins : (l : List Float) → 0 < length l
    → largest_from (get_or l 0 nan) (take (length l - 1) (drop 1 l)) ≡ largest l
unfolding largest
largest_begins [] h = absurd (omega arith)
largest_begins (c ∷ l) h = ap (largest_from c) (take_all _ l (omega arith))

pub largest_goes_on : (l : List Float) (top all : Float) (k : ℕ) → k < length l → largest_from top (drop k l) ≡ all
    → (t : Bool) → lt top (get_or l k nan) ≡ t → largest_from (cond t (get_or l k nan) top) (drop (k + 1) l) ≡ all
unfolding largest_from
largest_goes_on l top all k h e t f =
    rw (add-one k) (rw (← f) (sym (ap (largest_from top) (drop-cons l k nan h)) ∙ e))

pub largest_ends : (l : List Float) (top all : Float) (k : ℕ) → length l ≤ k → largest_from top (drop k l) ≡ all
    → top ≡ all
unfolding largest_from
largest_ends l top all k h e = sym (ap (largest_from top) (drop_of_length-le l {i = k} h)) ∙ e

-- ---- the costs below k, the logs from k on
abbrev pub partly : Float → List Float → ℕ → List Float
partly top l k = below top (take k l) ++ drop k l

pub costs_go_on : (top : Float) (l : List Float) (k : ℕ) → k < length l → set (partly top l k) k (sub binary64 top (get_or (partly top l k) k nan))
    ≡ partly top l (k + 1)
costs_go_on top l k h = rw (add-one k) (go l k h)
  where
    go : (l : List Float) (k : ℕ) → k < length l → set (partly top l k) k (sub binary64 top (get_or (partly top l k) k nan)) ≡ partly top l (suc k)
    go [] k h = absurd (omega arith)
    go (c ∷ l) zero h = refl
    go (c ∷ l) (suc k) h = ap (λ (r : List Float). sub binary64 top c ∷ r) (go l k (omega arith))
