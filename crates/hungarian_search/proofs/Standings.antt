-- From column to column: a matched column is passed over, a free one is augmented, and the state in memory is the theory's `state_at`.
use mathlib.Core.Path.{◌≡◌, refl, sym, ap, ◌∙◌, subst}
use mathlib.Core.Logic.{◌≢◌}
use mathlib.Core.List.{List}
use Prim.Native.Nat.{ℕ, ◌+◌, ◌<◌}
use native.Mathlib.Omega.{arith}
use borrow.Author.Tests.{eq-eqb, ne_eqb}
use lib.ListN.{length, get_or}
use lib.Ieee.{Float}
use Rattle.limits.specs.Limits.{none}
use Rattle.float64.specs.Number.{Number, units_per_one}
use Rattle.hungarian.specs.Graph.{CostGraph}
use Rattle.hungarian.specs.inner.Layout.{region, jperm_at}
use Rattle.hungarian.specs.Match.{Running, augment, run_to, state_at}
use Rattle.cost_limit.specs.Range.{cost_limit}
use Rattle.hungarian.specs.inner.Between.{at}
use Rattle.hungarian.specs.inner.Runs.{Runs}
use Rattle.hungarian.proofs.Initial.{initial_counts}
use Rattle.hungarian.proofs.Theorems.{turns}
use Rattle.hungarian_path.specs.inner.StepsSearch.{running_of, SearchReady}
use Rattle.hungarian_path.proofs.Scans.{each_more}
use Rattle.hungarian_path.proofs.Growths.{jperm_at_lem}
use Rattle.hungarian_path.proofs.Roots.{inexact}
use Rattle.hungarian.specs.declared.Counts.{Counts}
use Rattle.hungarian_search.specs.inner.Steps.{Augments, Standing}

module _ (g : CostGraph) (u : List Float) (w pos : List ℕ) (keys d : List Float) (r : Counts) (j : ℕ) (A : Standing g u w pos keys d r j)
    (below : j < g.pattern.n) where
  abbrev x : Running
  x = running_of g.pattern.n u w pos d r.stats

  free_word : at (region jperm_at g.pattern.n w) j ≡ get_or w (g.pattern.n + j) 0
  free_word = jperm_at_lem g.pattern.n w j below

  runs : Runs Number units_per_one (cost_limit g.pattern.n) g (initial_counts A.setting).0 j (running_of g.pattern.n u w pos d r.stats)
  runs = subst (Runs Number units_per_one (cost_limit g.pattern.n) g (initial_counts A.setting).0 j) (sym A.state)
      (turns A.setting (λ e. absurd (inexact e)) j (omega arith))

  pub search_asks : get_or w (g.pattern.n + j) 0 ≡ none → SearchReady g u w pos keys d r.stats j
  search_asks e = record {
    setting = A.setting;
    size = A.size;
    places = A.places;
    key_count = A.key_count;
    flagged = A.flagged;
    inner =
        (initial_counts A.setting).0;
    runs = runs;
    below = below;
    free = free_word ∙ e;
  }

  next_turn : state_at g (j + 1) ≡ augment g j (running_of g.pattern.n u w pos d r.stats)
  unfolding run_to
  next_turn = each_more 0 j (augment g) _ (omega arith) ∙ ap (augment g j) (sym A.state)

  pub column_passes : get_or w (g.pattern.n + j) 0 ≢ none → Standing g u w pos keys d r (j + 1)
  unfolding augment
  column_passes o = record {
    setting = A.setting;
    size = A.size;
    places = A.places;
    key_count = A.key_count;
    state =
        sym (next_turn ∙ rw (ne_eqb (at (region jperm_at g.pattern.n w) j) none (λ e. o (sym free_word ∙ e))) refl);
    number = A.number;
    flagged = A.flagged;
  }

  pub column_searched : get_or w (g.pattern.n + j) 0 ≡ none → (u' : List Float) (w' pos' : List ℕ) (keys' d' : List Float) (r' : Counts) → length w' ≡ length w
      → length pos' ≡ length pos → length keys' ≡ length keys → Augments g u u' w w' pos pos' d d' j r.stats r' → Standing g u' w' pos' keys' d' r' (j + 1)
  unfolding augment
  column_searched e u' w' pos' keys' d' r' long places key_count B = record {
    setting = A.setting;
    size = long ∙ A.size;
    places = places ∙ A.places;
    key_count = key_count ∙ A.key_count;
    state = B.state ∙ sym (next_turn ∙ rw (eq-eqb (at (region jperm_at g.pattern.n w) j) none (free_word ∙ e)) refl);
    number = B.number;
    flagged = B.flagged;
  }
