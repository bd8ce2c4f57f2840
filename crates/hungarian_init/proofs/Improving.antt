-- Phase 3: an invariant for each of its three loops, in which the rest of the definition from the loop's position is the whole. The laws take the
-- loops from one to the other, by the definition's steps and the regions that the stores change. Inner steps stay countable: at most M in a search,
-- M searches in a column.
use mathlib.Core.Path.{◌≡◌, refl, sym, ap, ◌∙◌}
use mathlib.Core.Logic.{◌≢◌, ◌⊎◌, inl, inr}
use mathlib.Core.Bool.{true, false, not, ◌&&◌, ◌||◌}
use mathlib.Core.List.{List}
use Prim.Native.Nat.{ℕ, suc, ◌+◌, ◌-◌, ◌*◌, ◌≤◌, ◌<◌}
use native.Mathlib.Nat.{le_refl, le_of_eq}
use native.Mathlib.Omega.{arith}
use borrow.Author.Tests.{eq-eqb, ne_eqb, le-leb, lt-leb}
use lib.Dec.{eqb, leb}
use lib.ListN.{length, get_or, set, length-set}
use lib.Ieee.{Float, nan, lt, le}
use Rattle.limits.specs.Limits.{none}
use Rattle.hungarian.specs.declared.HungarianStats.{HungarianStats}
use Rattle.hungarian.specs.Loop.{each}
use Rattle.sparse.specs.Pattern.{row_of, start, end, entries}
use Rattle.hungarian.specs.Graph.{CostGraph}
use Rattle.hungarian.specs.Counts.{inner_step}
use Rattle.hungarian.specs.Init.{Improving, reduced, pair, swap, seek, attempt, improve, phase3}
use Rattle.hungarian.specs.inner.Layout.{region, iperm_at, jperm_at, from_at, value_at}
use Rattle.sparse.proofs.Columns.{pointers_rise}
use Rattle.hungarian.proofs.Regions.{region_length}
use Rattle.hungarian_best.specs.declared.Best.{Best}
use Rattle.hungarian_best.specs.inner.Steps.{Linked, BestEntry, best_view}
use Rattle.hungarian_claim.specs.inner.Memory.{Sound, Columned}
use Rattle.hungarian_init.specs.inner.Steps.{improving_of, Improvable, improved}
use Rattle.hungarian_claim.proofs.Words.{each_more, each_none, stop, stop_is, entry_in, word, store, apart}
use Rattle.hungarian_claim.proofs.Claims.{columned_set}
use Rattle.hungarian_init.proofs.Steps.{settled, seek_more, seek_hit, seek_none, attempt_skip, attempt_seek, attempt_none, improve_skip}
use Rattle.hungarian_init.proofs.Steps.{improve_take, improve_try}

pub record Memory (g : CostGraph) (w : List ℕ) (fw : List Float) : Type 0 where
  pub words : length w ≡ 12 * g.pattern.n + 1
  pub values : length fw ≡ 2 * g.pattern.n
  pub columned : Columned g.pattern.n (region iperm_at g.pattern.n w)

-- what may be read at entry k
pub record Readable (g : CostGraph) (u : List Float) (k : ℕ) : Type 0 where
  pub entry : k < entries g.pattern
  pub small : k < 262144
  pub cost_there : k < length g.cost
  pub row : row_of g.pattern k < g.pattern.n
  pub dual : row_of g.pattern k < length u
  pub few : g.pattern.n ≤ 4096

pub readable : (g : CostGraph) (u : List Float) (j k : ℕ) → Sound g → length u ≡ g.pattern.n → j < g.pattern.n → k < stop g j → Readable g u k
readable g u j k s e h l =
    let i = entry_in g j k s h l in
    record { entry = i.0; small = omega (arith, s.few_entries); cost_there = omega (arith, s.cost_count); row = i.1; dual = omega arith; few = s.few_columns }

-- the columns from j on; R is the end of phase 3
pub record Outer (g : CostGraph) (u : List Float) (R : Improving) (j : ℕ) (w : List ℕ) (fw : List Float) (num : ℕ) (stats : HungarianStats) : Type 0 where
  pub within : j ≤ g.pattern.n
  pub memory : Memory g w fw
  pub few : num ≤ g.pattern.n + j
  pub steps : stats.phase3_inner_iters ≤ j * 137438953472
  pub run : each j g.pattern.n (improve g u) (improving_of g.pattern.n w fw num stats) ≡ R

-- the free column j, of least value v, from place k on
pub record Middle (g : CostGraph) (u : List Float) (R : Improving) (j : ℕ) (v : Float) (k : ℕ) (w : List ℕ) (fw : List Float) (num : ℕ)
    (stats : HungarianStats) : Type 0 where
  pub column : j < g.pattern.n
  pub within : k ≤ stop g j
  pub memory : Memory g w fw
  pub few : num ≤ g.pattern.n + j
  pub steps : stats.phase3_inner_iters ≤ j * 137438953472 + k * 262144
  pub run : each (j + 1) g.pattern.n (improve g u) (attempt g u j v (end g.pattern j - k) k (improving_of g.pattern.n w fw num stats)) ≡ R

-- column jj, which has the row of entry k, from place kk on; `before` are the counts when the search of jj began
pub record Inner (g : CostGraph) (u : List Float) (R : Improving) (j : ℕ) (v : Float) (k jj kk : ℕ) (w : List ℕ) (fw : List Float) (num : ℕ)
    (stats : HungarianStats) : Type 0 where
  pub column : j < g.pattern.n
  pub place : k < stop g j
  pub other : jj < g.pattern.n
  pub memory : Memory g w fw
  pub few : num ≤ g.pattern.n + j
  pub steps : stats.phase3_inner_iters + (stop g jj - kk) ≤ j * 137438953472 + (k + 1) * 262144
  pub before : HungarianStats
  pub run : each (j + 1) g.pattern.n (improve g u)
      (settled g u j v k jj (improving_of g.pattern.n w fw num before)
      (seek g u (improving_of g.pattern.n w fw num before) stats jj (end g.pattern jj - kk) kk)) ≡ R

-- a link keeps the memory
linked_memory : {g : CostGraph} {w w' : List ℕ} {fw : List Float} {i j k : ℕ} → i < g.pattern.n → j < g.pattern.n → length w' ≡ length w
    → Linked g.pattern.n w i j k w'
    → Memory g w fw → Memory g w' fw
linked_memory {g} {w} h l e s m = record {
  words = e ∙ m.words;
  values = m.values;
  columned = rw s.rows (columned_set (region iperm_at g.pattern.n w) (region_length iperm_at g.pattern.n w (omega (arith, m.words))) h (inr l)
      m.columned);
}

module _ {g : CostGraph} (sound : Sound g) where
  -- no entry has the number that stands for none
  entry_some : (k : ℕ) → k < entries g.pattern → k ≢ none
  entry_some k h e = omega (arith, sound.few_entries)

  -- a column ends within the entries
  pub small_stop : {j : ℕ} → j < g.pattern.n → stop g j ≤ 262144
  small_stop {j} h = omega (
    arith,
    stop_is g j,
    pointers_rise g.pattern sound.columns (suc j) g.pattern.n h (le_refl g.pattern.n),
    sound.columns.pointers.last,
    sound.few_entries,
  )

  ended : (j k : ℕ) → k < stop g j → k < end g.pattern j
  ended j k h = rw (stop_is g j) at h

  module _ {u : List Float} {R : Improving} {j : ℕ} {w : List ℕ} {fw : List Float} {num : ℕ} {stats : HungarianStats}
      (o : Outer g u R j w fw num stats) (h : j < g.pattern.n) where
    -- ---- a column that is matched or empty
    pub outer_skip : (get_or w (g.pattern.n + j) 0 ≢ none) ⊎ ((get_or w (g.pattern.n + j) 0 ≡ none) × (stop g j ≤ start g.pattern j))
        → Outer g u R (j + 1) w fw num stats
    outer_skip t = record {
      within = omega arith;
      memory = o.memory;
      few = omega (arith, o.few);
      steps = omega (arith, o.steps);
      run = rw (improve_skip g u j (improving_of g.pattern.n w fw num stats) (test t)) at
          (sym (each_more (improve g u) j g.pattern.n (improving_of g.pattern.n w fw num stats) h) ∙ o.run);
    }
      where
        test : (get_or w (g.pattern.n + j) 0 ≢ none) ⊎ ((get_or w (g.pattern.n + j) 0 ≡ none) × (stop g j ≤ start g.pattern j))
            → (not (eqb (get_or (region jperm_at g.pattern.n w) j 0) none) || leb (end g.pattern j) (start g.pattern j)) ≡ true
        test (inl d) = rw (word jperm_at g.pattern.n w (g.pattern.n + j) j (omega arith) h 0, ne_eqb (get_or w (g.pattern.n + j) 0) none d) refl
        test (inr (e, l)) = rw (
          word jperm_at g.pattern.n w (g.pattern.n + j) j (omega arith) h 0,
          eq-eqb (get_or w (g.pattern.n + j) 0) none e,
          le-leb (end g.pattern j) (start g.pattern j)
              (rw (stop_is g j) at l),
        ) refl

    module _ {b : Best} (best : BestEntry g u (region iperm_at g.pattern.n w) j b) (bare : get_or w (g.pattern.n + j) 0 ≡ none)
        (some : start g.pattern j < stop g j) where
      goes : (not (eqb (get_or (region jperm_at g.pattern.n w) j 0) none) || leb (end g.pattern j) (start g.pattern j)) ≡ false
      goes = rw (
        word jperm_at g.pattern.n w (g.pattern.n + j) j (omega arith) h 0,
        eq-eqb (get_or w (g.pattern.n + j) 0) none bare,
        lt-leb (end g.pattern j) (start g.pattern j)
            (ended j (start g.pattern j) some),
      ) refl

      stored : region value_at g.pattern.n (set fw (g.pattern.n + j) b.value) ≡ set (region value_at g.pattern.n fw) j b.value
      stored = store value_at g.pattern.n fw (g.pattern.n + j) j (omega arith) h b.value

      -- ---- the row of the best entry is free
      pub outer_takes : {w' : List ℕ} → get_or w b.row 0 ≡ none → length w' ≡ length w → Linked g.pattern.n w b.row j b.place w'
          → Outer g u R (j + 1) w' (set fw (g.pattern.n + j) b.value) (num + 1) stats
      unfolding pair
      outer_takes {w'} f l s =
          let n = g.pattern.n in
          let before = improving_of n w fw num stats in
          let t : eqb (get_or (region iperm_at n w) b.row 0) none ≡ true =
          rw (word iperm_at n w b.row b.row (omega arith) best.row 0) (eq-eqb (get_or w b.row 0) none f) in
          let step : improve g u j before ≡ improving_of n w' (set fw (n + j) b.value) (num + 1) stats =
          improve_take g u j before (best_view b) best.tie goes t ∙ rw (s.rows, s.columns, s.from, stored) refl in
          let m : Memory g w' fw = linked_memory best.row h l s o.memory in
          record {
            within = omega arith;
            memory = record { words = m.words; values = simp length-set m.values; columned = m.columned };
            few = omega (arith, o.few);
            steps = omega (arith, o.steps);
            run = rw step at (sym (each_more (improve g u) j n before h) ∙ o.run);
          }

      -- ---- it is not: a swap is tried
      pub outer_tries : get_or w b.row 0 ≢ none → Middle g u R j b.value b.place w (set fw (g.pattern.n + j) b.value) num stats
      outer_tries f =
          let n = g.pattern.n in
          let before = improving_of n w fw num stats in
          let t : eqb (get_or (region iperm_at n w) b.row 0) none ≡ false =
          rw (word iperm_at n w b.row b.row (omega arith) best.row 0) (ne_eqb (get_or w b.row 0) none f) in
          let step : improve g u j before ≡ attempt g u j b.value (end g.pattern j - b.place) b.place
          (improving_of n w (set fw (n + j) b.value) num stats) = improve_try g u j before (best_view b) best.tie goes t ∙ rw stored refl in
          record {
            column = h;
            within = omega (arith, best.below, stop_is g j);
            memory = record { words = o.memory.words; values = simp length-set o.memory.values; columned = o.memory.columned };
            few = o.few;
            steps = omega (arith, o.steps);
            run = rw step at (sym (each_more (improve g u) j n before h) ∙ o.run);
          }

  module _ {u : List Float} {R : Improving} {j : ℕ} {v : Float} {k : ℕ} {w : List ℕ} {fw : List Float} {num : ℕ} {stats : HungarianStats}
      (m : Middle g u R j v k w fw num stats) where
    -- ---- the scan of column j is over
    pub middle_end : stop g j ≤ k → Outer g u R (j + 1) w fw num stats
    middle_end h =
        let state = improving_of g.pattern.n w fw num stats in
        record {
          within = omega (arith, m.column);
          memory = m.memory;
          few = omega (arith, m.few);
          steps = omega (arith, m.steps, m.within, small);
          run = rw (attempt_none g u j v k state (rw (stop_is g j) at h)) at m.run;
        }
      where
        small : stop g j ≤ 262144
        small = small_stop m.column

    module _ (h : k < stop g j) where
      abbrev i : ℕ
      i = row_of g.pattern k

      inside : i < g.pattern.n
      inside = (entry_in g j k sound m.column h).1

      -- ---- the entry is too dear, or its row is free
      pub middle_skip : (lt v (reduced g u k) ≡ true) ⊎ ((lt v (reduced g u k) ≡ false) × (get_or w (row_of g.pattern k) 0 ≡ none))
          → Middle g u R j v (k + 1) w fw num stats
      middle_skip t = record {
        column = m.column;
        within = omega arith;
        memory = m.memory;
        few = m.few;
        steps = omega (arith, m.steps);
        run = rw (attempt_skip g u j v k (improving_of g.pattern.n w fw num stats) (ended j k h) (test t)) at m.run;
      }
        where
          test : (lt v (reduced g u k) ≡ true) ⊎ ((lt v (reduced g u k) ≡ false) × (get_or w i 0 ≡ none))
              → (lt v (reduced g u k) || eqb (get_or (region iperm_at g.pattern.n w) i 0) none) ≡ true
          test (inl e) = rw e refl
          test (inr (e, f)) = rw (e, word iperm_at g.pattern.n w i i (omega arith) inside 0, eq-eqb (get_or w i 0) none f) refl

      module _ (cheap : lt v (reduced g u k) ≡ false) (held : get_or w (row_of g.pattern k) 0 ≢ none) where
        pub other_range : get_or w (row_of g.pattern k) 0 < g.pattern.n
        other_range = go (m.memory.columned i inside)
          where
            go : (get_or (region iperm_at g.pattern.n w) i 0 ≡ none) ⊎ (get_or (region iperm_at g.pattern.n w) i 0 < g.pattern.n)
                → get_or w i 0 < g.pattern.n
            go (inl e) = absurd (held (sym (word iperm_at g.pattern.n w i i (omega arith) inside 0) ∙ e))
            go (inr l) = rw (word iperm_at g.pattern.n w i i (omega arith) inside 0) at l

        -- ---- the column of its row is searched
        pub middle_seeks : Inner g u R j v k (get_or w (row_of g.pattern k) 0) (get_or w (3 * g.pattern.n + get_or w (row_of g.pattern k) 0) 0) w fw num stats
        middle_seeks =
            let n = g.pattern.n in
            let jj : ℕ = get_or w i 0 in
            let f : ℕ = get_or w (3 * n + jj) 0 in
            let state = improving_of n w fw num stats in
            let t : (lt v (reduced g u k) || eqb (get_or (region iperm_at n w) i 0) none) ≡ false =
            rw (cheap, word iperm_at n w i i (omega arith) inside 0, ne_eqb jj none held) refl in
            let step = attempt_seek g u j v k state jj f (word iperm_at n w i i (omega arith) inside 0)
            (word from_at n w (3 * n + jj) jj (omega arith) other_range 0) (ended j k h) t in
            record {
              column = m.column;
              place = h;
              other = other_range;
              memory = m.memory;
              few = m.few;
              steps = omega (arith, m.steps, small_stop other_range);
              before = stats;
              run = rw step at m.run;
            }

  module _ {u : List Float} {R : Improving} {j : ℕ} {v : Float} {k jj kk : ℕ} {w : List ℕ} {fw : List Float} {num : ℕ} {stats : HungarianStats}
      (s : Inner g u R j v k jj kk w fw num stats) where
    -- ---- column jj was searched in vain
    pub inner_misses : stop g jj ≤ kk → Middle g u R j v (k + 1) (set w (3 * g.pattern.n + jj) (stop g jj)) fw num stats
    inner_misses h =
        let n = g.pattern.n in
        let before = improving_of n w fw num s.before in
        let rows = apart from_at n w (3 * n + jj) jj (omega arith) s.other iperm_at (stop g jj) (inl (omega arith)) in
        let columns = apart from_at n w (3 * n + jj) jj (omega arith) s.other jperm_at (stop g jj) (inl (omega arith)) in
        let from : region from_at n (set w (3 * n + jj) (stop g jj)) ≡ set (region from_at n w) jj (end g.pattern jj) =
        store from_at n w (3 * n + jj) jj (omega arith) s.other (stop g jj) ∙ rw (stop_is g jj) refl in
        record {
          column = s.column;
          within = omega (arith, s.place);
          memory = record { words = simp length-set s.memory.words; values = s.memory.values; columned = rw rows s.memory.columned };
          few = s.few;
          steps = omega (arith, s.steps);
          run = rw (rows, columns, from) (rw (seek_none g u before stats jj kk (rw (stop_is g jj) at h)) at s.run);
        }

    module _ (h : kk < stop g jj) where
      abbrev ii : ℕ
      ii = row_of g.pattern kk

      inside_other : (kk < entries g.pattern) × (ii < g.pattern.n)
      inside_other = entry_in g jj kk sound s.other h

      -- ---- the row is taken, or the entry too dear
      pub inner_more : (get_or w (row_of g.pattern kk) 0 ≢ none) ⊎
          ((get_or w (row_of g.pattern kk) 0 ≡ none) × (le (reduced g u kk) (get_or fw (g.pattern.n + jj) nan) ≡ false))
          → Inner g u R j v k jj (kk + 1) w fw num (inner_step stats)
      unfolding inner_step
      inner_more t = record {
        column = s.column;
        place = s.place;
        other = s.other;
        memory = s.memory;
        few = s.few;
        steps = omega (arith, s.steps);
        before = s.before;
        run = rw (seek_more g u (improving_of g.pattern.n w fw num s.before) stats jj kk (ended jj kk h) (test t)) at s.run;
      }
        where
          test : (get_or w ii 0 ≢ none) ⊎ ((get_or w ii 0 ≡ none) × (le (reduced g u kk) (get_or fw (g.pattern.n + jj) nan) ≡ false))
              → (eqb (get_or (region iperm_at g.pattern.n w) ii 0) none && le (reduced g u kk) (get_or (region value_at g.pattern.n fw) jj nan)) ≡ false
          test (inl d) = rw (word iperm_at g.pattern.n w ii ii (omega arith) inside_other.1 0, ne_eqb (get_or w ii 0) none d) refl
          test (inr (e, f)) = rw (
            word iperm_at g.pattern.n w ii ii (omega arith) inside_other.1 0,
            word value_at g.pattern.n fw (g.pattern.n + jj) jj (omega arith)
                s.other nan,
            eq-eqb (get_or w ii 0) none e,
            f,
          ) refl

      -- ---- a free row: the swap, and on with the next column
      pub inner_swaps : {w' w'' : List ℕ} → get_or w (row_of g.pattern kk) 0 ≡ none → le (reduced g u kk) (get_or fw (g.pattern.n + jj) nan) ≡ true
          → length w' ≡ length w → Linked g.pattern.n w (row_of g.pattern kk) jj kk w' → length w'' ≡ length w'
          → Linked g.pattern.n w' (row_of g.pattern k) j k w''
          → Outer g u R (j + 1) w'' fw (num + 1) (inner_step stats)
      unfolding inner_step swap pair
      inner_swaps {w'} {w''} e f l a l' b =
          let n = g.pattern.n in
          let before = improving_of n w fw num s.before in
          let t : (eqb (get_or (region iperm_at n w) ii 0) none && le (reduced g u kk) (get_or (region value_at n fw) jj nan)) ≡ true =
          rw (
            word iperm_at n w ii ii (omega arith) inside_other.1 0,
            word value_at n fw (n + jj) jj (omega arith) s.other nan,
            eq-eqb (get_or w ii 0) none e,
            f,
          ) refl in
          let hit = seek_hit g u before stats jj kk (ended jj kk h) t in
          let some : eqb kk none ≡ false = ne_eqb kk none (entry_some kk inside_other.0) in
          record {
            within = omega (arith, s.column);
            memory = linked_memory (entry_in g j k sound s.column s.place).1 s.column l' b
                (linked_memory inside_other.1 s.other l a s.memory);
            few = omega (arith, s.few);
            steps = omega (arith, s.steps, s.place, small_stop s.column);
            run = rw (b.rows, b.columns, b.from, a.rows, a.columns, a.from) (rw (hit, some) at s.run);
          }

-- ---- the first column, and the last
pub outer_start : {g : CostGraph} {u : List Float} {w : List ℕ} {fw : List Float} {num : ℕ} {stats : HungarianStats} → Improvable g u w fw num stats
    → Outer g u (improved g) 0 w fw num stats
unfolding phase3
outer_start {g} {u} {w} {fw} {num} {stats} p = record {
  within = omega arith;
  memory = record { words = p.words; values = p.values; columned = p.columned };
  few = omega (arith, p.few);
  steps = le_of_eq (ap (λ (s : Improving). s.stats.phase3_inner_iters) p.state);
  run = rw (p.state, p.duals) refl;
}

pub outer_end : {g : CostGraph} {u : List Float} {R : Improving} {j : ℕ} {w : List ℕ} {fw : List Float} {num : ℕ} {stats : HungarianStats}
    → Outer g u R j w fw num stats → g.pattern.n ≤ j → improving_of g.pattern.n w fw num stats ≡ R
outer_end {g} {u} {R} {j} {w} {fw} {num} {stats} o h = sym (each_none (improve g u) j g.pattern.n (improving_of g.pattern.n w fw num stats) h) ∙ o.run
