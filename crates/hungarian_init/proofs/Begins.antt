-- The phases together: an accepted graph of doubles is sound, what each phase leaves is what the next asks, and the ends are the definition's `initial`.
use mathlib.Core.Path.{◌≡◌, refl, sym, ap, ◌∙◌}
use mathlib.Core.Logic.{◌≢◌, ◌⊎◌, inl, inr}
use mathlib.Core.List.{List}
use Prim.Native.Nat.{ℕ, ◌*◌, ◌+◌, ◌<◌}
use borrow.Author.Tests.{eq-eqb, ne_eqb}
use lib.ListN.{length}
use lib.Ieee.{Float}
use Rattle.limits.specs.Limits.{none}
use Rattle.float64.specs.Number.{units_per_one, Number}
use Rattle.hungarian.specs.declared.HungarianStats.{HungarianStats}
use Rattle.sparse.specs.Pattern.{entries}
use Rattle.hungarian.specs.Graph.{CostGraph}
use Rattle.hungarian.specs.Accepted.{Accepted, Doubles}
use Rattle.hungarian.specs.Counts.{no_counts}
use Rattle.hungarian.specs.Init.{RowMinima, Pairs, Improving, phase1, phase2}
use Rattle.hungarian.specs.Match.{empty_rows_zeroed, initial}
use Rattle.cost_limit.specs.Range.{cost_limit}
use Rattle.hungarian.specs.inner.Setting.{Setting}
use Rattle.hungarian.proofs.Accepts.{near_setting}
use Rattle.hungarian.proofs.InitRows.{Row, phase1_minima}
use Rattle.hungarian.specs.declared.Counts.{Counts}
use Rattle.hungarian_claim.specs.inner.Memory.{pairs_counted, Sound, Columned}
use Rattle.hungarian_init.specs.inner.Steps.{improving_of, Prepared, Improvable, improved, Begun}
use Rattle.hungarian_claim.specs.inner.Steps.{Minimal, Claimable, ClaimedRows}

module _ (g : CostGraph) (accepted : Accepted g) (doubles : Doubles g) where
  setting : Setting Number units_per_one (cost_limit g.pattern.n) g
  setting = near_setting g accepted doubles

  pub sound : Sound g
  sound =
      let s = setting in
      record { columns = s.columns; pointer_count = s.pointer_count; cost_count = s.cost_count; few_columns = s.few_columns; few_entries = s.few_entries }

  -- the columns that phase 1 leaves are columns
  minima_columned : Columned g.pattern.n (phase1 g).iperm
  minima_columned i h = go ((phase1_minima setting).rows i h)
    where
      go : {x : Float} {j k : ℕ} → Row g (entries g.pattern) i x j k → (j ≡ none) ⊎ (j < g.pattern.n)
      go (inl r) = inl r.column
      go (inr r) = inr r.column.column

  pub claimable : {u : List Float} {w : List ℕ} → Minimal g u w → length w ≡ 12 * g.pattern.n + 1 → Claimable g.pattern.n g.pattern.col_ptr w
  claimable m l = record {
    workspace = record { words = l; small = sound.few_columns };
    pointer_count = sound.pointer_count;
    rises = sound.columns.pointers.rises;
    columned = rw (ap (λ (s : RowMinima). s.iperm) m.minima) minima_columned;
  }

module _ {g : CostGraph} {u : List Float} {w w' : List ℕ} {num : ℕ} (m : Minimal g u w) (c : ClaimedRows g.pattern.n g.pattern.col_ptr w w' num) where
  minimal_duals : u ≡ (phase1 g).u
  minimal_duals = ap (λ (s : RowMinima). s.u) m.minima

  -- the pairs of phase 2
  claimed : pairs_counted g.pattern.n w' num ≡ phase2 g (phase1 g)
  unfolding phase2
  claimed = c.pairs g.pattern.row_idx g.cost ∙ rw (
    ap (λ (s : RowMinima). s.iperm) m.minima,
    ap (λ (s : RowMinima). s.least)
        m.minima,
    m.entries,
  ) refl

  claimed_num : (phase2 g (phase1 g)).num ≡ num
  claimed_num = sym (ap (λ (s : Pairs). s.num) claimed)

  -- every column is matched
  pub begun_early : {u' : List Float} {stats : HungarianStats} → num ≡ g.pattern.n → u' ≡ empty_rows_zeroed u → stats ≡ no_counts
      → Begun g u' w' (record { matched = num; stats = stats })
  unfolding initial
  begun_early {u'} {stats} e q s =
      record {
        iperm = rw (claimed_num, eq-eqb num g.pattern.n e) (ap (λ (p : Pairs). p.iperm) claimed);
        jperm = rw (claimed_num, eq-eqb num g.pattern.n e) (ap (λ (p : Pairs). p.jperm) claimed);
        duals = q ∙ ap empty_rows_zeroed minimal_duals;
        num = rw (claimed_num, eq-eqb num g.pattern.n e) (sym claimed_num);
        stats = rw (claimed_num, eq-eqb num g.pattern.n e) s;
      }

  pub improvable : {w'' : List ℕ} {fw : List Float} {stats : HungarianStats} → Sound g → length u ≡ g.pattern.n → length w'' ≡ 12 * g.pattern.n + 1
      → length fw ≡ 2 * g.pattern.n → stats ≡ no_counts → Prepared g.pattern.n g.pattern.col_ptr w' w'' fw → Improvable g u w'' fw num stats
  improvable {w''} {fw} {stats} s a b d z p = record {
    sound = s;
    words = b;
    values = d;
    dual_count = a;
    duals = minimal_duals;
    columned = rw (ap (λ (q : Pairs). q.iperm) (p.pairs num)) c.columned;
    few = c.few;
    state = rw (p.pairs num ∙ claimed, p.from, p.least, z) refl;
  }

  pub begun_late : {u' : List Float} {w'' : List ℕ} (fw : List Float) {r : Counts} → num ≢ g.pattern.n → u' ≡ empty_rows_zeroed u
      → improving_of g.pattern.n w'' fw
      r.matched r.stats ≡ improved g → Begun g u' w'' r
  unfolding initial
  begun_late fw {r = r} d q i = record {
    iperm = rw (claimed_num, ne_eqb num g.pattern.n d) (ap (λ (s : Improving). s.pairs.iperm) i);
    jperm = rw (claimed_num, ne_eqb num g.pattern.n d) (ap (λ (s : Improving). s.pairs.jperm) i);
    duals = q ∙ ap empty_rows_zeroed minimal_duals;
    num = rw (claimed_num, ne_eqb num g.pattern.n d) (ap (λ (s : Improving). s.pairs.num) i);
    stats = rw (claimed_num, ne_eqb num g.pattern.n d) (ap (λ (s : Improving). s.stats) i);
  }
