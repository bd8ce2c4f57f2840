-- The scan of a column, entry by entry: both are the largest of those before k. Start, step and end.
use mathlib.Core.Path.{◌≡◌, sym, ap, ◌∙◌, subst}
use mathlib.Core.Bool.{cond}
use mathlib.Core.List.{List}
use Prim.Native.Nat.{ℕ, ◌+◌, ◌-◌, ◌*◌, ◌^◌, ◌≤◌, ◌<◌, max}
use native.Mathlib.Omega.{arith}
use lib.Dec.{eqb}
use lib.ListN.{length, get_or}
use lib.Ieee.{Float, nan}
use Rattle.hungarian.specs.Counts.{larger}
use Rattle.hungarian.proofs.Larger.{larger_max}
use Rattle.match_gap.specs.Rounding.{zero_step, lower, upper}
use Rattle.match_gap.specs.inner.Scans.{InSteps, Scannable, Scanned}
use Rattle.match_gap.proofs.Most.{Most, most_begins, most_goes_on, most_ends}

abbrev excess_in : ℕ → List ℕ → List Float → List Float → Float → ℕ → ℕ
excess_in unit row_idx cost u dual k = upper (2 ^ unit) (get_or u (get_or row_idx k 0) nan) + upper (2 ^ unit) dual - (lower (2 ^ unit) (get_or cost k nan) + zero_step)

abbrev lack_in : ℕ → ℕ → List ℕ → List Float → List Float → Float → ℕ → ℕ
lack_in unit row row_idx cost u dual k =
    cond (eqb (get_or row_idx k 0) row)
    (upper (2 ^ unit) (get_or cost k nan) + zero_step - (lower (2 ^ unit) (get_or u (get_or row_idx k 0) nan) + lower (2 ^ unit) dual)) 0

pub record Scanning (unit row : ℕ) (row_idx : List ℕ) (cost u : List Float) (dual : Float) (from to excess lack k : ℕ) : Type 0 where
  pub above : from ≤ k
  pub below : k ≤ to
  pub few : (excess ≤ 2 ^ 51) × (lack ≤ 3 * 2 ^ 49)
  pub most : Most (excess_in unit row_idx cost u dual) from to excess k
  pub lacks : Most (lack_in unit row row_idx cost u dual) from to lack k

module _ (unit row : ℕ) (row_idx : List ℕ) (cost u : List Float) (dual : Float) (from to : ℕ) where
  pub scan_begins : from ≤ to → Scanning unit row row_idx cost u dual from to 0 0 from
  scan_begins h = record {
    above = omega arith;
    below = h;
    few = (omega arith, omega arith);
    most =
        most_begins (excess_in unit row_idx cost u dual) from to;
    lacks = most_begins (lack_in unit row row_idx cost u dual) from to;
  }

  pub scan_goes_on : {excess lack k high low x y : ℕ} → Scanning unit row row_idx cost u dual from to excess lack k → k < to
      → high ≡ upper (2 ^ unit) dual → low ≡ lower (2 ^ unit) dual
      → (x ≡ upper (2 ^ unit) (get_or u (get_or row_idx k 0) nan) + high - (lower (2 ^ unit) (get_or cost k nan) + zero_step)) × (x ≤ 2 ^ 51)
      → (y ≡ cond (eqb (get_or row_idx k 0) row) (upper (2 ^ unit) (get_or cost k nan) + zero_step - (lower (2 ^ unit) (get_or u (get_or row_idx k 0) nan) + low))
      0) × (y ≤ 3 * 2 ^ 49)
      → {excess' lack' : ℕ} → excess' ≡ max excess x → lack' ≡ max lack y
      → Scanning unit row row_idx cost u dual from to excess' lack' (k + 1)
  scan_goes_on {excess} {lack} {k} {high} {low} {x} {y} s h hi lo p q {excess'} {lack'} e l =
      let a : x ≡ excess_in unit row_idx cost u dual k =
      p.0 ∙ ap (λ (z : ℕ). upper (2 ^ unit) (get_or u (get_or row_idx k 0) nan) + z - (lower (2 ^ unit) (get_or cost k nan) + zero_step)) hi in
      let b : y ≡ lack_in unit row row_idx cost u dual k =
      q.0 ∙ ap (λ (z : ℕ). cond (eqb (get_or row_idx k 0) row)
      (upper (2 ^ unit) (get_or cost k nan) + zero_step - (lower (2 ^ unit) (get_or u (get_or row_idx k 0) nan) + z)) 0) lo in
      record {
        above = omega (arith, s.above);
        below = omega arith;
        few = (omega (arith, e, s.few.0, p.1), omega (arith, l, s.few.1, q.1));
        most = subst (λ (m : ℕ). Most (excess_in unit row_idx cost u dual) from to m (k + 1)) (sym (e ∙ sym (larger_max excess x) ∙ ap (larger excess) a))
            (most_goes_on (excess_in unit row_idx cost u dual) from to excess k h s.most);
        lacks = subst (λ (m : ℕ). Most (lack_in unit row row_idx cost u dual) from to m (k + 1)) (sym (l ∙ sym (larger_max lack y) ∙ ap (larger lack) b))
            (most_goes_on (lack_in unit row row_idx cost u dual) from to lack k h s.lacks);
      }

  pub scan_ends : {excess lack k : ℕ} → to ≤ k → Scanning unit row row_idx cost u dual from to excess lack k
      → Scanned unit row row_idx cost u dual from to (record { excess = excess; lack = lack })
  scan_ends {excess} {lack} {k} h s =
      record {
        excess = most_ends (excess_in unit row_idx cost u dual) from to excess k h s.most;
        lack =
            most_ends (lack_in unit row row_idx cost u dual) from to lack k h s.lacks;
        few = s.few;
      }

-- the dual of an entry's row, and its cost
module _ {unit from to : ℕ} {row_idx : List ℕ} {cost u : List Float} (s : Scannable unit from to row_idx cost u) (k : ℕ) (h : k < to) where
  pub row_in : get_or row_idx k 0 < length u
  row_in = s.stretch.rows k (omega (arith, s.stretch.within))

  pub dual_in : InSteps unit (get_or u (get_or row_idx k 0) nan)
  dual_in = s.duals (get_or row_idx k 0) row_in

  pub cost_in : InSteps unit (get_or cost k nan)
  cost_in = s.costs k (omega (arith, s.stretch.within, s.stretch.costs))
