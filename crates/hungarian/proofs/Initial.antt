-- Phases 1 to 3 together, and with phase 3 left out: the searches start from a matching, bounded duals, least entries where sums are exact, and at
-- most as many inner steps as there are entries.
use mathlib.Core.Path.{◌≡◌, refl, sym, ap, ◌∙◌}
use mathlib.Core.Logic.{◌≢◌}
use mathlib.Core.Bool.{Bool, true, false, cond}
use mathlib.Core.List.{[]}
use Prim.Native.Nat.{ℕ, zero, suc, ◌+◌, ◌≤◌, ◌<◌}
use native.Mathlib.Nat.{le_of_eq}
use native.Mathlib.Omega.{arith}
use lib.Dec.{eqb}
use lib.ListN.{replicate, take, length-replicate, get_or-replicate}
use lib.Seq.{length-take-le, get_or-take}
use lib.Ieee.{Float, nan}
use Rattle.limits.specs.Limits.{none}
use Rattle.float64.specs.Number.{origin}
use Rattle.float64.specs.inner.Keys.{position}
use Rattle.float64.specs.Constants.{zero as fzero}
use Rattle.matching.specs.Sum.{sum_to}
use Rattle.matching.specs.Pairing.{OfColumn}
use Rattle.matching.proofs.Sums.{sum_le}
use Rattle.sparse.specs.Pattern.{bipartite, row_of, start, end, entries, InColumn}
use Rattle.hungarian.specs.Graph.{CostGraph, cost_of}
use Rattle.hungarian.specs.Counts.{counts, no_counts}
use Rattle.hungarian.specs.Init.{Pairs, Improving, reduced, improve, phase1, phase2, phase3}
use Rattle.hungarian.specs.Match.{initial}
use Rattle.hungarian.specs.inner.Setting.{Setting}
use Rattle.hungarian.specs.inner.Between.{at, dual, Matched, Bounded, Tight}
use Rattle.hungarian.proofs.Loops.{each_keeps}
use Rattle.sparse.proofs.Columns.{in_entries, in_column_lem}
use Rattle.hungarian.proofs.InitCosts.{zero_key, zero_cost, cost_ordered, cost_dual}
use Rattle.hungarian.proofs.InitRows.{row_costs, first_duals, first_count, first_cost, first-kept, dual_below, dual_cost}
use Rattle.hungarian.proofs.InitClaims.{phase2_matched, phase2_cost}
use Rattle.hungarian.proofs.InitSwaps.{Least}
use Rattle.hungarian.proofs.InitSeeks.{value}
use Rattle.hungarian.proofs.InitImproved.{Improved, improve_keeps}

-- the pairs of phase 2
abbrev pub claims : CostGraph → Pairs
claims g = phase2 g (phase1 g)

-- where phase 3 starts
abbrev pub before : CostGraph → Improving
before g = record { pairs = claims g; least = replicate g.pattern.n fzero; from = take g.pattern.n g.pattern.col_ptr; stats = no_counts }

module _ {Good : Float → Type 0} {err C : ℕ} {g : CostGraph} (S : Setting Good err C g) where
  -- a matched column's entry stands in it
  pub held_entry : {s : Pairs} → Matched g s → (j : ℕ) → j < g.pattern.n → at s.jperm j ≢ none → InColumn g.pattern j (at s.jperm j)
  held_entry {s} m j h e =
      let c : OfColumn (bipartite g.pattern) (at s.iperm) (at s.jperm) j = m.paired.columns j h e in
      rw c.column at (in_column_lem g.pattern S.columns (at s.jperm j) c.entry)

  -- where sums are exact, so is cost minus (row_costs g)
  exactly : err ≡ 0 → (j k : ℕ) → InColumn g.pattern j k → position (reduced g (row_costs g) k) + position
      (dual (row_costs g) (row_of g.pattern k)) ≡ position
      (cost_of g k) + origin
  exactly e j k c =
      let v = value S (row_costs g) (dual_cost S) c in
      omega (arith, v.near.above, v.near.under)

  claims_least : err ≡ 0 → Least g (row_costs g) (claims g).jperm (replicate g.pattern.n fzero)
  claims_least e = record {
    chosen = λ j k c f.
        let m : ℕ = at (claims g).jperm j in
        omega (arith, exactly e j m (held_entry (phase2_matched S) j c.column f), ap position (phase2_cost S j c.column f), positive j k c);
    stored = λ j k c f. omega (arith, ap position (get_or-replicate g.pattern.n j fzero nan c.column), zero_key, positive j k c);
  }
    where
      positive : (j k : ℕ) → InColumn g.pattern j k → origin ≤ position (reduced g (row_costs g) k)
      positive j k c = omega (arith, exactly e j k c, dual_below S k (in_entries g.pattern S.columns j k c))

  pub phase3_start : Improved err g (row_costs g) (before g)
  phase3_start = record {
    matched = phase2_matched S;
    searched = record {
      column_count = (phase2_matched S).column_count;
      from_count = length-take-le g.pattern.n g.pattern.col_ptr (omega (arith, S.pointer_count));
      above = λ j h. le_of_eq (sym (from j h));
      below = λ j h. rw (from j h) (S.columns.pointers.rises j h);
      fresh = λ j h e. from j h;
    };
    least_count = length-replicate g.pattern.n fzero;
    known = λ j h. rw (get_or-replicate g.pattern.n j fzero nan h) (cost_ordered S fzero (zero_cost S));
    steps = 0;
    counted = refl;
    paid = omega (arith, sum_le g.pattern.n (start g.pattern) (at (take g.pattern.n g.pattern.col_ptr)) (λ j h. le_of_eq (sym (from j h))));
    exact = claims_least;
  }
    where
      from : (j : ℕ) → j < g.pattern.n → at (take g.pattern.n g.pattern.col_ptr) j ≡ start g.pattern j
      from j h = get_or-take g.pattern.n g.pattern.col_ptr j 0 h

  pub phase3_improved : Improved err g (row_costs g) (phase3 g (row_costs g) (claims g) no_counts)
  unfolding phase3
  phase3_improved = each_keeps (λ j. Improved err g (row_costs g)) (improve g (row_costs g)) 0 g.pattern.n (before g) (omega arith)
      (λ j s a h i. improve_keeps S (row_costs g) (dual_cost S) j s h i) phase3_start

  -- either way there is a state of phase 3 with the pairs and the counts of the start
  initial_improved : (s : Improving) × Improved err g (row_costs g) s × ((initial g).pairs ≡ s.pairs) × ((initial g).stats ≡ s.stats)
  unfolding initial
  initial_improved = go (eqb (claims g).num g.pattern.n)
    where
      after : Improving
      after = phase3 g (row_costs g) (claims g) no_counts

      early : Improving
      early = record { pairs = claims g; least = []; from = []; stats = no_counts }

      go : (b : Bool) → (s : Improving) × Improved err g (row_costs g) s × ((cond b early after).pairs ≡ s.pairs) × ((cond b early after).stats ≡ s.stats)
      go true = (before g, phase3_start, refl, refl)
      go false = (after, phase3_improved, refl, refl)

  -- the ends of the first m columns add up to their starts and the start of the next
  ends : (m : ℕ) → m ≤ g.pattern.n → sum_to m (end g.pattern) ≡ sum_to m (start g.pattern) + start g.pattern m
  unfolding sum_to
  ends zero h = omega (arith, S.columns.pointers.first)
  ends (suc m) h = omega (arith, ends m (omega arith))

  -- ---- what the searches start from

  pub initial_matched : Matched g (initial g).pairs
  initial_matched =
      let (s, i, p, c) = initial_improved in
      rw p i.matched

  pub initial_bounded : Bounded Good C g (initial g).pairs (first_duals g)
  initial_bounded = record {
    dual_count = first_count S;
    small = λ i h. cost_dual S (dual (first_duals g) i) (first_cost S i h);
    free = λ i h e. first_cost S i h;
  }

  -- phase 3 searches no place of a column twice
  pub initial_counts : (x : ℕ) × ((initial g).stats ≡ counts 0 0 0 x 0 0 0) × (x ≤ entries g.pattern)
  initial_counts =
      let (s, i, p, c) = initial_improved in (
        i.steps,
        c ∙ i.counted,
        omega (
          arith,
          i.paid,
          sum_le g.pattern.n (at s.from) (end g.pattern) i.searched.below,
          ends g.pattern.n
              (omega arith),
          S.columns.pointers.last,
        ),
      )

  initial_least : err ≡ 0 → (j k : ℕ) → InColumn g.pattern j k → at (initial g).pairs.jperm j ≢ none
      → position (reduced g (row_costs g) (at (initial g).pairs.jperm j)) ≤ position (reduced g (row_costs g) k)
  initial_least e =
      let (s, i, p, c) = initial_improved in
      rw p (i.exact e).chosen

  exact_tight : err ≡ 0 → Tight g (initial g).pairs (first_duals g)
  exact_tight e = record {
    below = λ k h. rw (first-kept S k h) (dual_below S k h);
    least = λ j k c f.
        let m : ℕ = at (initial g).pairs.jperm j in
        let d : InColumn g.pattern j m = held_entry initial_matched j c.column f in
        let t = in_entries g.pattern S.columns j in
        rw (first-kept S k (t k c), first-kept S m (t m d)) (omega (arith, exactly e j k c, exactly e j m d, initial_least e j k c f));
  }

pub initial_tight : {Good : Float → Type 0} {C : ℕ} {g : CostGraph} → Setting Good 0 C g → Tight g (initial g).pairs (first_duals g)
initial_tight S = exact_tight S refl
