-- From the parts to the whole call: an accepted graph has slices of the right lengths, the last pairs are a matching with entries in range, and what
-- is finished from them is the match.
use mathlib.Core.Path.{◌≡◌, refl, sym, ap, ◌∙◌}
use mathlib.Core.Logic.{◌≢◌, ◌⊎◌, inl, inr}
use mathlib.Core.Bool.{Bool, true, false, cond}
use mathlib.Core.List.{List}
use Prim.Native.Nat.{ℕ, ◌+◌, ◌*◌, ◌<◌}
use native.Mathlib.Nat.{le_refl}
use borrow.Author.Tests.{eqb-true, eqb-false, eq-eqb, ne_eqb}
use lib.Dec.{eqb}
use lib.ListN.{length, replicate}
use lib.Ieee.{Float}
use Rattle.limits.specs.Limits.{max_general, none}
use Rattle.float64.specs.Number.{Number, units_per_one}
use Rattle.float64.specs.Constants.{zero as fzero}
use Rattle.sparse.specs.Validate.{size_fault}
use Rattle.sparse.proofs.First.{or-zero}
use Rattle.slices.proofs.Bools.{both}
use Rattle.sparse.proofs.Accepted.{sizes_accepted}
use Rattle.sparse.specs.Pattern.{entries}
use Rattle.hungarian.specs.Graph.{CostGraph}
use Rattle.hungarian.specs.Test.{graph_fault, graph_lengths}
use Rattle.hungarian.specs.Accepted.{Accepted, Doubles}
use Rattle.hungarian.specs.Init.{Pairs}
use Rattle.hungarian.specs.Match.{Matching, hungarian_match, finish, perm_of, row_duals, initial, searched}
use Rattle.hungarian.specs.inner.Layout.{region, iperm_at, jperm_at}
use Rattle.cost_limit.specs.Range.{cost_limit}
use Rattle.hungarian.specs.inner.Setting.{Setting}
use Rattle.hungarian.specs.inner.Between.{Matched, at}
use Rattle.hungarian.proofs.InitRows.{first_duals}
use Rattle.hungarian.proofs.Initial.{initial_matched}
use Rattle.hungarian.proofs.Accepts.{near_setting}
use Rattle.hungarian.proofs.Theorems.{turns, exact_start}
use Rattle.hungarian_init.specs.inner.Steps.{Begun}
use Rattle.hungarian_search.specs.inner.Steps.{Searched}
use Rattle.hungarian_match.specs.inner.Steps.{PairedUp, Solvable, Solved}
use Rattle.hungarian_match.specs.Call.{Slices, match_lengths}
use Rattle.hungarian_match.specs.inner.StepsFinish.{Finishable, Columned}
use Rattle.hungarian.specs.declared.Counts.{Counts}
use Rattle.hungarian_match.specs.inner.Last.{last_pairs, last_duals, last_counts}

-- ---- the lengths of an accepted call
pub accepted_lengths : (g : CostGraph) (s : Slices) → graph_fault g (match_lengths g s) ≡ 0 → Solvable g s
unfolding match_lengths graph_fault
accepted_lengths g s e =
    let z = or-zero (size_fault g.pattern.n max_general (length g.pattern.row_idx) (match_lengths g s)) _ e in
    let t = ((sizes_accepted g.pattern.n max_general (length g.pattern.row_idx) (match_lengths g s)).0 z.0).2 in
    let a = both (graph_lengths g) _ t in
    let p = both (eqb (length s.perm) g.pattern.n) _ a.1 in
    let u = both (eqb (length s.u) g.pattern.n) _ p.1 in
    let v = both (eqb (length s.v) g.pattern.n) _ u.1 in
    let w = both (eqb (length s.work) (12 * g.pattern.n + 1)) (eqb (length s.fwork) (2 * g.pattern.n)) v.1 in
    record {
      accepted = rw a.0 (rw t at e);
      perms = eqb-true _ _ p.0;
      row_duals = eqb-true _ _ u.0;
      column_duals = eqb-true _ _ v.0;
      words = eqb-true _ _ w.0;
      values = eqb-true _ _ w.1;
    }

-- ---- the last pairs
pub last_matched : (g : CostGraph) → Accepted g → Doubles g → Matched g (last_pairs g)
unfolding last_pairs searched
last_matched g a f = go (eqb (initial g).pairs.num g.pattern.n)
  where
    S : Setting Number units_per_one (cost_limit g.pattern.n) g
    S = near_setting g a f

    go : (b : Bool) → Matched g (cond b (initial g).pairs (searched g (first_duals g) (initial g)).pairs)
    go true = initial_matched S
    go false = (turns S (exact_start S) g.pattern.n (le_refl g.pattern.n)).matched

-- which of the two ends the match has
pub last_early : (g : CostGraph) → (initial g).pairs.num ≡ g.pattern.n → (last_pairs g ≡ (initial g).pairs) × (last_duals g ≡ first_duals g)
    × (last_counts g ≡ (initial g).stats)
unfolding last_pairs last_duals last_counts
last_early g e = let t = eq-eqb (initial g).pairs.num g.pattern.n e in (rw t refl, rw t refl, rw t refl)

pub last_late : (g : CostGraph) → (initial g).pairs.num ≢ g.pattern.n → (last_pairs g ≡ (searched g (first_duals g) (initial g)).pairs)
    × (last_duals g ≡ (searched g (first_duals g) (initial g)).u) × (last_counts g ≡ (searched g (first_duals g) (initial g)).stats)
unfolding last_pairs last_duals last_counts
last_late g e = let t = ne_eqb (initial g).pairs.num g.pattern.n e in (rw t refl, rw t refl, rw t refl)

-- both ends leave the last pairs
pub paired_early : {g : CostGraph} {u : List Float} {w : List ℕ} {r : Counts} → Begun g u w r → r.matched ≡ g.pattern.n → PairedUp g u w r
paired_early {g} b e =
    let t = last_early g (sym b.num ∙ e) in
    record {
      iperm = b.iperm ∙ sym (ap (λ (p : Pairs). p.iperm) t.0);
      jperm = b.jperm ∙ sym (ap (λ (p : Pairs). p.jperm) t.0);
      duals =
          b.duals ∙ sym t.1;
      matched = b.num ∙ sym (ap (λ (p : Pairs). p.num) t.0);
      stats = b.stats ∙ sym t.2;
    }

pub paired_late : {g : CostGraph} {u : List Float} {w : List ℕ} {r : Counts} → (initial g).pairs.num ≢ g.pattern.n → Searched g u w r → PairedUp g u w r
paired_late {g} e b =
    let t = last_late g e in
    record {
      iperm = b.iperm ∙ sym (ap (λ (p : Pairs). p.iperm) t.0);
      jperm = b.jperm ∙ sym (ap (λ (p : Pairs). p.jperm) t.0);
      duals =
          b.duals ∙ sym t.1;
      matched = b.number ∙ sym (ap (λ (p : Pairs). p.num) t.0);
      stats = b.counts ∙ sym t.2;
    }

pub last_finishes : (g : CostGraph) → hungarian_match g ≡ finish g (last_pairs g) (last_duals g) (last_counts g)
unfolding hungarian_match last_pairs last_duals last_counts
last_finishes g = go (eqb (initial g).pairs.num g.pattern.n)
  where
    go : (b : Bool) → cond b (finish g (initial g).pairs (first_duals g) (initial g).stats)
        (finish g (searched g (first_duals g) (initial g)).pairs (searched g (first_duals g) (initial g)).u (searched g (first_duals g) (initial g)).stats)
        ≡ finish g (cond b (initial g).pairs (searched g (first_duals g) (initial g)).pairs)
        (cond b (first_duals g) (searched g (first_duals g) (initial g)).u) (cond b (initial g).stats (searched g (first_duals g) (initial g)).stats)
    go true = refl
    go false = refl

-- every column of the last pairs has an entry in range or none
pub last_finishable : (g : CostGraph) → Accepted g → Doubles g → (u : List Float) (w : List ℕ) → length u ≡ g.pattern.n → length w ≡ 12 * g.pattern.n + 1
    → region jperm_at g.pattern.n w ≡ (last_pairs g).jperm → Finishable g.pattern.n g.pattern.row_idx g.cost u w
last_finishable g a f u w h l e = record {
  workspace = record { words = l; small = S.few_columns };
  duals = h;
  costs = S.cost_count;
  entries = λ j b. rw e (entry j b (eqb (at (last_pairs g).jperm j) none) refl);
  inside = S.columns.inside;
}
  where
    S : Setting Number units_per_one (cost_limit g.pattern.n) g
    S = near_setting g a f

    entry : (j : ℕ) → j < g.pattern.n → (b : Bool) → eqb (at (last_pairs g).jperm j) none ≡ b → (at (last_pairs g).jperm j ≡ none)
        ⊎ (at (last_pairs g).jperm j < entries g.pattern)
    entry j b true e = inl (eqb-true _ _ e)
    entry j b false e = inr ((last_matched g a f).paired.columns j b (eqb-false _ _ e)).entry

-- what is finished from the last pairs is the match
pub solved : {g : CostGraph} {before after : Slices} {u : List Float} {w : List ℕ} {m : Counts} → PairedUp g u w m
    → Columned g.pattern.n g.pattern.row_idx
    g.cost u (region jperm_at g.pattern.n w) after.perm after.v
    → after.u ≡ row_duals (region iperm_at g.pattern.n w) u → after.work ≡ replicate (length before.work) 0 → after.fwork ≡ replicate
    (length before.fwork) fzero → Solved g before after m
unfolding finish
solved {g} {u = u} P C e cw cf =
    let h = last_finishes g in
    record {
      perm = C.rows_of g.pattern.col_ptr ∙ ap (perm_of g) P.jperm ∙ sym (ap (λ (m : Matching). m.perm) h);
      u = e ∙ rw (P.iperm, P.duals) refl ∙ sym (ap (λ (m : Matching). m.u) h);
      v = C.duals g.pattern.col_ptr ∙ rw (P.jperm, P.duals) refl ∙ sym (ap (λ (m : Matching). m.v) h);
      matched = P.matched ∙ sym (ap (λ (m : Matching). m.matched) h);
      stats = P.stats ∙ sym (ap (λ (m : Matching). m.stats) h);
      work = cw;
      fwork = cf;
    }
