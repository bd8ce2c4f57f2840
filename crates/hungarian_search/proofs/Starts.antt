-- Before the first search and after the last: the prepared arrays and the pairs of phases 1 to 3 are the theory's first state, and its last state is
-- what is searched.
use mathlib.Core.Path.{◌≡◌, refl, sym, ap, ◌∙◌, subst}
use mathlib.Core.Bool.{false}
use mathlib.Core.List.{List, [], ◌∷◌, map}
use Prim.Native.Nat.{ℕ, zero, suc, ◌+◌, ◌≤◌}
use lib.Dec.{eqb}
use lib.ListN.{length, get_or, replicate, length-replicate, get_or-replicate}
use lib.Ieee.{Float}
use Rattle.limits.specs.Limits.{none}
use Rattle.float64.specs.Number.{Number, units_per_one}
use Rattle.matching.specs.Pairing.{matched_count}
use Rattle.hungarian.specs.declared.HungarianStats.{HungarianStats}
use Rattle.hungarian.specs.Graph.{CostGraph}
use Rattle.hungarian.specs.Accepted.{Doubles}
use Rattle.hungarian.specs.Counts.{heap_made}
use Rattle.hungarian.specs.Init.{Pairs}
use Rattle.hungarian.specs.Match.{Running, augment, run_to, searched, initial}
use Rattle.cost_limit.specs.Range.{cost_limit}
use Rattle.hungarian.specs.inner.Setting.{Setting}
use Rattle.hungarian.specs.inner.Between.{at}
use Rattle.hungarian.proofs.Initial.{initial_matched, initial_counts}
use Rattle.hungarian.proofs.Accepts.{near_setting}
use Rattle.hungarian.specs.Search.{among}
use Rattle.hungarian_path.specs.inner.Views.{unmarked, heap_in, pairs_of, Flagged}
use Rattle.hungarian_path.specs.inner.StepsArrays.{Prepared}
use Rattle.hungarian_path.proofs.Memory.{unmarked_zero}
use Rattle.hungarian_path.proofs.Scans.{each_none}
use Rattle.hungarian.specs.declared.Counts.{Counts}
use Rattle.hungarian_search.specs.inner.Steps.{Standing, Started, Searched}

unmarked_zeros : (n : ℕ) → map unmarked (replicate n 0) ≡ replicate n 0
unmarked_zeros zero = refl
unmarked_zeros (suc n) = (λ z. unmarked_zero z ∷ unmarked_zeros n z)

module _ (g : CostGraph) (u : List Float) (w : List ℕ) (num : ℕ) (stats : HungarianStats) (A : Started g u w num stats) (D : Doubles g) where
  S : Setting Number units_per_one (cost_limit g.pattern.n) g
  S = near_setting g A.accepted D

  pub few : g.pattern.n ≤ 4096
  few = S.few_columns

  -- no heap was made yet
  pub slots : stats.heap_init_slots ≡ 0
  slots = ap (λ (c : HungarianStats). c.heap_init_slots) (A.counts ∙ (initial_counts S).1)

  module _ (w' pos' : List ℕ) (keys d' : List Float) (P : Prepared g.pattern.n w w' pos' d') (long : length w' ≡ length w)
      (key_count : length keys ≡ g.pattern.n) where
    pairs_now : pairs_of g.pattern.n w' ≡ (initial g).pairs
    pairs_now =
        let c : matched_count none g.pattern.n (λ j. get_or (pairs_of g.pattern.n w').jperm j 0) ≡ (initial g).pairs.num =
        ap (λ (l : List ℕ). matched_count none g.pattern.n (at l)) (P.jperm ∙ A.jperm) ∙ sym (initial_matched S).counted in
        λ z. record { iperm = (P.iperm ∙ A.iperm) z; jperm = (P.jperm ∙ A.jperm) z; num = c z }

    heap_now : heap_in g.pattern.n w' pos' 0 ≡ record { heap = replicate (g.pattern.n + 1) 0; pos = replicate g.pattern.n 0; len = 0 }
    unfolding heap_in
    heap_now = let e : map unmarked pos' ≡ replicate g.pattern.n 0 = ap (map unmarked) P.places ∙ unmarked_zeros g.pattern.n in
        λ z. record { heap = P.heap z; pos = e z; len = 0 }

    pub start_stands : (made : HungarianStats) → made ≡ heap_made g.pattern.n stats → Standing g u w' pos' keys d' (record { matched = num; stats = made }) 0
    unfolding run_to
    start_stands made e = record {
      setting = S;
      size = long ∙ A.size;
      places = ap length P.places ∙ length-replicate g.pattern.n 0;
      key_count = key_count;
      state =
          let counts : made ≡ heap_made g.pattern.n (initial g).stats = e ∙ ap (heap_made g.pattern.n) A.counts in
          (λ z. record { pairs = pairs_now z; u = A.duals z; d = P.distances z; heap = heap_now z; pr = P.pr z; out = P.out z; stats = counts z })
          ∙ sym (each_none 0 (augment g) _);
      number = A.number ∙ sym (ap (λ (p : Pairs). p.num) pairs_now);
      flagged = none_marked;
    }
      where
        none_marked : Flagged g.pattern.n pos' []
        none_marked i h = unfold among in
            subst (λ (l : List ℕ). eqb (get_or l i 0) none ≡ false) (sym P.places)
            (subst (λ (p : ℕ). eqb p none ≡ false) (sym (get_or-replicate g.pattern.n i 0 0 h)) refl)

pub end_searched : (g : CostGraph) (u : List Float) (w pos : List ℕ) (keys d : List Float) (r : Counts) → Standing g u w pos keys d r g.pattern.n
    → Searched g u w r
unfolding searched
end_searched g u w pos keys d r A = record {
  iperm = ap (λ (x : Running). x.pairs.iperm) A.state;
  jperm = ap (λ (x : Running). x.pairs.jperm) A.state;
  duals = ap (λ (x : Running). x.u) A.state;
  number = A.number ∙ ap (λ (x : Running). x.pairs.num) A.state;
  counts = ap (λ (x : Running). x.stats) A.state;
}
