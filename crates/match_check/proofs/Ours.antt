-- Our own complete matches of whole costs are certified: by the match's theorems, `match_optimal` and the bound of its duals. An accepted call
-- leaves the definition's match (`left_certified`).
use mathlib.Core.Path.{◌≡◌, refl, sym, ap, ◌∙◌, subst}
use mathlib.Core.Bool.{Bool, true, false, cond}
use Prim.Native.Nat.{ℕ, zero, suc}
use native.Mathlib.Nat.{le_refl}
use native.Mathlib.Omega.{arith}
use lib.Dec.{eqb}
use lib.ListN.{length, get_or}
use Rattle.std.proofs.Common.{Err}
use Rattle.refusal.specs.Number.{fault_of}
use Rattle.slices.specs.Outcome.{refusing}
use Rattle.float64.specs.Number.{Number, units_per_one}
use Rattle.cost_limit.specs.Range.{cost_limit}
use Rattle.hungarian.specs.Graph.{CostGraph}
use Rattle.hungarian.specs.Accepted.{Accepted, Doubles}
use Rattle.hungarian.specs.Match.{Matching, hungarian_match, finish, initial, searched}
use Rattle.hungarian.specs.Optimal.{WholeCosts, matched_entries}
use Rattle.hungarian.specs.inner.Setting.{Setting}
use Rattle.hungarian.proofs.InitRows.{first_duals}
use Rattle.hungarian.proofs.Initial.{initial_bounded}
use Rattle.hungarian.proofs.Accepts.{near_setting}
use Rattle.hungarian.proofs.Theorems.{turns, exact_start, match_optimal, match_small}
use Rattle.hungarian_match.specs.inner.Last.{last_pairs, last_duals}
use Rattle.hungarian_match.proofs.Calls.{accepted_lengths, last_matched, last_finishes}
use Rattle.hungarian_match.proofs.Finishing.{duals_length, rows_length}
use Rattle.hungarian_match.specs.Call.{match_fault, counts_left, finished, match_outcome}
use Rattle.match_check.specs.Check.{Claim, claim}
use Rattle.match_check.specs.Call.{Certified, Ours, claim_left}

-- the match has n duals of rows and of columns
module _ (g : CostGraph) (a : Accepted g) (w : WholeCosts g) where
  doubles : Doubles g
  doubles k h = (w k h).1.double

  last_length : length (last_duals g) ≡ g.pattern.n
  unfolding last_duals searched
  last_length = go (eqb (initial g).pairs.num g.pattern.n)
    where
      S : Setting Number units_per_one (cost_limit g.pattern.n) g
      S = near_setting g a doubles

      go : (b : Bool) → length (cond b (first_duals g) (searched g (first_duals g) (initial g)).u) ≡ g.pattern.n
      go true = (initial_bounded S).dual_count
      go false = (turns S (exact_start S) g.pattern.n (le_refl g.pattern.n)).bounded.dual_count

  row_duals_lem : length (hungarian_match g).u ≡ g.pattern.n
  unfolding finish
  row_duals_lem = ap (λ (m : Matching). length m.u) (last_finishes g) ∙ rows_length (last_pairs g).iperm (last_duals g) ∙ last_length

  column_duals_lem : length (hungarian_match g).v ≡ g.pattern.n
  unfolding finish
  column_duals_lem = ap (λ (m : Matching). length m.v) (last_finishes g) ∙ duals_length g (last_duals g) (last_pairs g).jperm
      ∙ (last_matched g a doubles).column_count

-- the definition's match of an accepted graph of whole costs, which matches every column
pub record Found (g : CostGraph) (s : Claim) : Type 0 where
  pub graph : Accepted g
  pub costs : WholeCosts g
  pub left : s ≡ claim (hungarian_match g).perm (hungarian_match g).u (hungarian_match g).v
  pub full : (hungarian_match g).matched ≡ g.pattern.n

pub ours_certified : (g : CostGraph) (s : Claim) → Found g s → Certified g s
unfolding matched_entries
ours_certified g s o =
    let best = match_optimal g o.graph o.costs in
    let small = match_small g o.graph o.costs in
    subst (Certified g) (sym o.left)
    (record {
      graph = o.graph;
      costs = o.costs;
      row_count = best.ranged.places;
      row_duals = row_duals_lem g o.graph o.costs;
      column_duals = column_duals_lem g o.graph o.costs;
      complete = record { matching = best.ranged.matching; full = best.ranged.pair_count ∙ o.full };
      rows = λ i h. record { is_whole = best.rows_whole i h; size = small.rows i h };
      columns = λ j h. record { is_whole = best.columns_whole j h; size = small.columns j h };
      feasible = best.feasible;
      tight = best.tight;
    })

-- what a call left that answered 0 and matched all columns
pub left_certified : (g : CostGraph) (s : Claim) → Ours g s → Certified g s
unfolding match_outcome finished
left_certified g s o = go (match_fault g o.before) refl o.number o.matched o.left
  where
    go : (fault : ℕ) → match_fault g o.before ≡ fault → fault_of (refusing Err fault (finished g o.before) o.before).answer ≡ 0
        → get_or (counts_left (refusing Err fault (finished g o.before) o.before).answer o.counts) 0 0 ≡ g.pattern.n
        → s ≡ claim_left (refusing Err fault (finished g o.before) o.before).after → Certified g s
    go zero e z full left = ours_certified g s (record { graph = (accepted_lengths g o.before e).accepted; costs = o.costs; left = left; full = full })
    go (suc fault) e z full left = let w : ⊥ = omega arith in absurd w
