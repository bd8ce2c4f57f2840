-- Phase 3 is prepared by two writes; the duals are zeroed place by place.
use mathlib.Core.Bool.{true, false}
use mathlib.Core.List.{List, [], ◌∷◌, ◌++◌}
use mathlib.Core.Path.{◌≡◌, refl, ap, ◌∙◌}
use Prim.Native.Nat.{ℕ, zero, suc, ◌+◌, ◌-◌, ◌*◌, ◌≤◌, ◌<◌}
use native.Mathlib.Numerals.{add-one}
use native.Mathlib.Omega.{arith}
use lib.Ieee.{Float, nan, le}
use lib.ListN.{length, get_or, take, drop, set, replicate, length-drop}
use lib.Seq.{length-take-le, take-nil, drop-nil}
use Rattle.float64.specs.Constants.{zero as fzero, rinf}
use Rattle.hungarian.specs.Match.{empty_rows_zeroed}
use Rattle.hungarian.proofs.Regions.{region_before, region_written, region_filled}
use Rattle.hungarian_init.specs.inner.Steps.{Prepared}

-- ---- a region of the words is the pointers, one of the doubles is zero
pub prepared : (n : ℕ) (col_ptr w x p : List ℕ) (fw y q : List Float) → length w ≡ 12 * n + 1 → length col_ptr ≡ n + 1 → length fw ≡ 2 * n
    → x ≡ take n col_ptr → y ≡ replicate (length (take (length fw - n) (drop n fw))) fzero
    → Prepared n col_ptr w (take (3 * n) w ++ (x ++ p)) (take n fw ++ (y ++ q))
prepared n col_ptr w x p fw y q a b c e f = record {
  pairs = λ num. rw (region_before 0 n (3 * n) w (x ++ p) (omega arith) (omega arith), region_before 1 n (3 * n) w (x ++ p) (omega arith) (omega arith)) refl;
  from = region_written 3 n (take (3 * n) w) x p (length-take-le (3 * n) w (omega arith)) (rw e (length-take-le n col_ptr (omega arith))) ∙ e;
  least = rw (f, count) (region_filled 1 n (take n fw) q n fzero (omega (arith, front)) (omega (arith, front)));
}
  where
    front : length (take n fw) ≡ n
    front = length-take-le n fw (omega arith)

    count : length (take (length fw - n) (drop n fw)) ≡ n
    count = length-take-le (length fw - n) (drop n fw) (rw length-drop (omega arith)) ∙ omega arith

-- ---- the duals below i are zeroed
abbrev pub zeroed_to : ℕ → List Float → List Float
zeroed_to i u = take i u ++ empty_rows_zeroed (drop i u)

pub zeroed_low : (i : ℕ) (u : List Float) → i < length u → le rinf (get_or u i nan) ≡ false → zeroed_to (i + 1) u ≡ zeroed_to i u
unfolding empty_rows_zeroed
zeroed_low i u h t = rw (add-one i) (go i u h t)
  where
    go : (i : ℕ) (u : List Float) → i < length u → le rinf (get_or u i nan) ≡ false → zeroed_to (suc i) u ≡ zeroed_to i u
    go i [] h t = absurd (omega arith)
    go zero (x ∷ u) h t = rw t refl
    go (suc i) (x ∷ u) h t = ap (λ (l : List Float). x ∷ l) (go i u (omega arith) t)

pub zeroed_high : (i : ℕ) (u : List Float) → i < length u → le rinf (get_or u i nan) ≡ true → zeroed_to (i + 1) (set u i fzero) ≡ zeroed_to i u
unfolding empty_rows_zeroed
zeroed_high i u h t = rw (add-one i) (go i u h t)
  where
    go : (i : ℕ) (u : List Float) → i < length u → le rinf (get_or u i nan) ≡ true → zeroed_to (suc i) (set u i fzero) ≡ zeroed_to i u
    go i [] h t = absurd (omega arith)
    go zero (x ∷ u) h t = rw t refl
    go (suc i) (x ∷ u) h t = ap (λ (l : List Float). x ∷ l) (go i u (omega arith) t)

pub zeroed_done : (i : ℕ) (u : List Float) → length u ≤ i → zeroed_to i u ≡ u
unfolding empty_rows_zeroed
zeroed_done i [] h = rw (take-nil i, drop-nil i) refl
zeroed_done zero (x ∷ u) h = absurd (omega arith)
zeroed_done (suc i) (x ∷ u) h = ap (λ (l : List Float). x ∷ l) (zeroed_done i u (omega arith))
