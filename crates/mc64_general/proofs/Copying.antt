-- The kept entries of a column, written one after the other, and the largest of their logs: one more place is one more element, or none.
use mathlib.Core.Path.{◌≡◌, refl, sym, ap, ◌∙◌}
use mathlib.Core.Bool.{Bool, true, false, cond, ◌||◌}
use mathlib.Core.List.{List, [], ◌∷◌, ◌++◌, append-nil, append_assoc, map-append}
use Prim.Native.Nat.{ℕ, zero, suc, ◌+◌, ◌-◌, ◌≤◌, ◌<◌}
use native.Mathlib.Nat.{add-zero}
use native.Mathlib.Omega.{arith}
use borrow.Author.Tests.{eq-eqb, ne_eqb}
use lib.Dec.{eqb}
use lib.Ieee.{Float, nan, lt}
use lib.ListN.{length, get_or, take, drop, set, length-append, length-map, take-append-drop}
use lib.Seq.{drop-cons, set_at, append_snoc, length-take-le}
use Rattle.slices.specs.Lists.{keep}
use Rattle.mc64_columns.specs.Columns.{largest_from, largest, below, normalised}
use Rattle.mc64_columns.specs.Graphs.{logs_at}
use Rattle.mc64_general.specs.Graph.{is_kept, kept_places, largest_log}
use Rattle.mc64_general.specs.inner.Steps.{rows_at, written, Copied}
use Rattle.float64.specs.Constants as Constants

-- ---- lists written to
module _ {A : Type 0} (l : List A) (at : ℕ) where
  write_none : written l at [] ≡ l
  write_none = rw add-zero (take-append-drop at l)

  write_more : (xs : List A) (x d : A) → at + length xs < length l → set (written l at xs) (at + length xs) x ≡ written l at (xs ++ (x ∷ []))
  write_more xs x d h =
      let rest = drop (suc (at + length xs)) l in
      let front : length (take at l ++ xs) ≡ at + length xs =
      length-append (take at l) xs ∙ ap (λ (i : ℕ). i + length xs) (length-take-le at l (omega arith)) in
      let e : at + length (xs ++ (x ∷ [])) ≡ suc (at + length xs) = omega (arith, length-append xs (x ∷ [])) in
      ap (λ (r : List A). set (take at l ++ (xs ++ r)) (at + length xs) x) (drop-cons l (at + length xs) d h)
      ∙ ap (λ (r : List A). set r (at + length xs) x) (sym (append_assoc (take at l) xs (get_or l (at + length xs) d ∷ rest)))
      ∙ set_at (take at l ++ xs) (get_or l (at + length xs) d) rest x (at + length xs) front
      ∙ append_assoc (take at l) xs (x ∷ rest)
      ∙ ap (λ (r : List A). take at l ++ r) (sym (append_snoc xs x rest))
      ∙ ap (λ (i : ℕ). take at l ++ (xs ++ (x ∷ []) ++ drop i l)) (sym e)

-- ---- kept places
module _ (values : List Float) (from : ℕ) where
  pub kept_few : (count : ℕ) → length (kept_places values from count) ≤ count
  unfolding kept_places
  kept_few zero = omega arith
  kept_few (suc count) =
      let k = from + count in
      omega (arith, kept_few count, length-append (kept_places values from count) (keep (is_kept (get_or values k nan)) k), one (is_kept (get_or values k nan)) k)
    where
      one : (b : Bool) (k : ℕ) → length (keep b k) ≤ 1
      one true k = omega arith
      one false k = omega arith

  places_next : (k : ℕ) → from ≤ k → kept_places values from (k + 1 - from) ≡ kept_places values from (k - from) ++ keep (is_kept (get_or values k nan)) k
  unfolding kept_places
  places_next k h =
      let e : k + 1 - from ≡ suc (k - from) = omega arith in
      let f : from + (k - from) ≡ k = omega arith in
      ap (kept_places values from) e ∙ step (k - from) ∙ ap (λ (i : ℕ). kept_places values from (k - from) ++ keep (is_kept (get_or values i nan)) i) f
    where
      step : (d : ℕ) → kept_places values from (suc d) ≡ kept_places values from d ++ keep (is_kept (get_or values (from + d) nan)) (from + d)
      step d = refl

  none_kept : kept_places values from (from - from) ≡ []
  unfolding kept_places
  none_kept = let e : from - from ≡ 0 = omega arith in ap (kept_places values from) e

-- ---- the largest log
-- with one log more
from_more : (top : Float) (l : List Float) (x : Float) → largest_from top (l ++ (x ∷ []))
    ≡ cond (lt (largest_from top l) x) x (largest_from top l)
unfolding largest_from
from_more top [] x = refl
from_more top (c ∷ l) x = from_more (cond (lt top c) c top) l x

-- the same of a column, whose first log counts whatever it is
largest_more : (at next : ℕ) (l : List Float) (x : Float) → next ≡ at + length l
    → cond (eqb next at || lt (largest_log l) x) x (largest_log l) ≡ largest_log (l ++ (x ∷ []))
unfolding largest_log largest largest_from
largest_more at next [] x e = let f : next ≡ at = omega arith in rw (f, eq-eqb at at refl) refl
largest_more at next (c ∷ l) x e = rw (ne_eqb next at (λ f. omega arith)) (sym (from_more c l x))

-- each log subtracted from it is the column's costs
pub below_largest : (l : List Float) → below (largest_log l) l ≡ normalised l
unfolding largest_log normalised
below_largest [] = refl
below_largest (c ∷ l) = refl

-- ---- a column copied
module _ (values : List Float) (from : ℕ) (rows : List ℕ) (logs : List Float) (at : ℕ) (graph_idx₀ : List ℕ) (cost₀ : List Float) where
  abbrev pub CopiedTo : ℕ → List ℕ → List Float → ℕ → Float → Type 0
  CopiedTo k graph_idx cost next top = Copied (kept_places values from (k - from)) rows logs at graph_idx₀ cost₀ graph_idx cost next top

  pub copied_none : CopiedTo from graph_idx₀ cost₀ at Constants.zero
  unfolding largest_log
  copied_none =
      rw (none_kept values from)
      record { count = omega arith; rows_there = sym (write_none graph_idx₀ at); logs_there = sym (write_none cost₀ at); largest = refl }

  module _ (k : ℕ) (h : from ≤ k) {graph_idx : List ℕ} {cost : List Float} {next : ℕ} {top : Float}
      (s : CopiedTo k graph_idx cost next top) where
    pub copied_dropped : is_kept (get_or values k nan) ≡ false → CopiedTo (k + 1) graph_idx cost next top
    copied_dropped e = rw (places_next values from k h, e, append-nil) s

    pub copied_kept : {log top' : Float} → log ≡ get_or logs k nan → top' ≡ cond (eqb next at || lt top log) log top → next < length graph_idx₀
        → next < length cost₀ → is_kept (get_or values k nan) ≡ true
        → CopiedTo (k + 1) (set graph_idx next (get_or rows k 0)) (set cost next log) (next + 1) top'
    copied_kept is larger r c e =
        let places = kept_places values from (k - from) in
        let er : next ≡ at + length (rows_at rows places) = s.count ∙ ap (λ (i : ℕ). at + i) (sym (length-map places (λ i. get_or rows i 0))) in
        let el : next ≡ at + length (logs_at logs places) = s.count ∙ ap (λ (i : ℕ). at + i) (sym (length-map places (λ i. get_or logs i nan))) in
        rw (places_next values from k h, e, is)
        record {
          count = omega (arith, s.count, length-append places (k ∷ []));
          rows_there =
              rw (s.rows_there, map-append (λ i. get_or rows i 0) places (k ∷ []))
              (ap (λ (i : ℕ). set (written graph_idx₀ at (rows_at rows places)) i (get_or rows k 0)) er ∙ write_more graph_idx₀ at (rows_at rows places)
              (get_or rows k 0) 0 (omega (arith, er)));
          logs_there =
              rw (s.logs_there, map-append (λ i. get_or logs i nan) places (k ∷ []))
              (ap (λ (i : ℕ). set (written cost₀ at (logs_at logs places)) i (get_or logs k nan)) el ∙ write_more cost₀ at (logs_at logs places)
              (get_or logs k nan) nan (omega (arith, el)));
          largest =
              rw (larger, is, s.largest, map-append (λ i. get_or logs i nan) places (k ∷ []))
              (largest_more at next (logs_at logs places) (get_or logs k nan) el);
        }
