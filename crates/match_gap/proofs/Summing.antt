-- The sum over the columns: what is summed before column j. Start, step and end.
use mathlib.Core.Path.{◌≡◌, refl, sym, ap, ap₂, ◌∙◌, subst}
use mathlib.Core.List.{List}
use Prim.Native.Nat.{ℕ, ◌+◌, ◌-◌, ◌*◌, ◌^◌, ◌≤◌, ◌<◌}
use native.Mathlib.Numerals.{add-one}
use native.Mathlib.Omega.{arith}
use lib.ListN.{get_or}
use lib.Ieee.{Float, nan}
use Rattle.matching.specs.Sum.{sum_to}
use Rattle.hungarian.specs.Graph.{graph_of}
use Rattle.match_check.specs.Check.{Claim, claim}
use Rattle.match_check.proofs.Columns.{stretch}
use Rattle.match_gap.specs.Gap.{most_of, excess_at, lack_at, column_excess, column_lack, gap_of}
use Rattle.match_gap.specs.inner.Scans.{Scannable, Scanned, Measurable}
use Rattle.match_gap.specs.declared.Column.{Column}

-- the most that a column adds
abbrev pub most_added : ℕ
most_added = 2 ^ 51 + 3 * 2 ^ 49

pub record Summing (unit n : ℕ) (col_ptr row_idx : List ℕ) (cost : List Float) (c : Claim) (gap j : ℕ) : Type 0 where
  pub below : j ≤ n
  pub so_far : gap ≡ sum_to j (λ i. column_excess (2 ^ unit) (graph_of n col_ptr row_idx cost) c i + column_lack (2 ^ unit) (graph_of n col_ptr row_idx cost) c i)
  pub few : gap ≤ j * most_added

module _ (unit n : ℕ) (col_ptr row_idx : List ℕ) (cost : List Float) (perm : List ℕ) (u v : List Float) where
  pub sum_begins : Summing unit n col_ptr row_idx cost (claim perm u v) 0 0
  unfolding sum_to
  sum_begins = record { below = omega arith; so_far = refl; few = omega arith }

  pub sum_goes_on : {gap j : ℕ} {r : Column} → Summing unit n col_ptr row_idx cost (claim perm u v) gap j → j < n
      → Scanned unit (get_or perm j 0) row_idx cost u (get_or v j nan) (get_or col_ptr j 0) (get_or col_ptr (j + 1) 0) r
      → Summing unit n col_ptr row_idx cost (claim perm u v) (gap + (r.excess + r.lack)) (j + 1)
  unfolding sum_to
  sum_goes_on {gap} {j} {r} s h e =
      let g = graph_of n col_ptr row_idx cost in
      let c = claim perm u v in
      let a : r.excess ≡ column_excess (2 ^ unit) g c j =
      subst (λ (i : ℕ). r.excess ≡ most_of (get_or col_ptr i 0 - get_or col_ptr j 0) (excess_at (2 ^ unit) g c j) (get_or col_ptr j 0) 0) (add-one j) e.excess in
      let b : r.lack ≡ column_lack (2 ^ unit) g c j =
      subst (λ (i : ℕ). r.lack ≡ most_of (get_or col_ptr i 0 - get_or col_ptr j 0) (lack_at (2 ^ unit) g c j) (get_or col_ptr j 0) 0) (add-one j) e.lack in
      record {
        below = omega arith;
        so_far = ap₂ ◌+◌ s.so_far (ap₂ ◌+◌ a b) ∙ ap (λ (i : ℕ). sum_to i (λ i. column_excess (2 ^ unit) g c i + column_lack (2 ^ unit) g c i))
            (sym (add-one j));
        few = omega (arith, s.few, e.few);
      }

  pub sum_ends : {gap j : ℕ} → n ≤ j → Summing unit n col_ptr row_idx cost (claim perm u v) gap j → gap ≡ gap_of (2 ^ unit) (graph_of n col_ptr row_idx cost)
      (claim perm u v)
  unfolding gap_of
  sum_ends {gap} {j} h s =
      s.so_far ∙ ap (λ (i : ℕ). sum_to i
      (λ i. column_excess (2 ^ unit) (graph_of n col_ptr row_idx cost) (claim perm u v) i + column_lack (2 ^ unit) (graph_of n col_ptr row_idx cost)
      (claim perm u v) i)) (let e : j ≡ n = omega (arith, s.below) in e)

  -- a column can be scanned
  pub scannable : Measurable unit n col_ptr row_idx cost (claim perm u v) → (j : ℕ) → j < n → Scannable unit (get_or col_ptr j 0)
      (get_or col_ptr (j + 1) 0) row_idx cost u
  scannable m j h = record { stretch = stretch m.lists j h; units = m.units; costs = m.costs; duals = m.rows }
