-- Phase 3, column by column: the pairs stay a matching, the inner steps are at most what the places from which columns are searched have risen by, and
-- where sums are exact, matched columns hold their least entries.
-- It changes no dual, so cost minus u of an entry is one number throughout: what is stored for a matched column stays the least.
use mathlib.Core.Path.{◌≡◌, refl, sym, ap, ◌∙◌}
use mathlib.Core.Logic.{◌≢◌, ◌⊎◌, inl, inr}
use mathlib.Core.Bool.{Bool, true, false, not, cond, ◌||◌}
use mathlib.Core.List.{List}
use Prim.Native.Nat.{ℕ, zero, suc, ◌+◌, ◌-◌, ◌≤◌, ◌<◌}
use native.Mathlib.Nat.{le_refl, le_of_eq}
use native.Mathlib.Omega.{arith}
use borrow.Author.Tests.{ltb-false, leb-true, leb-false, eqb-true, eqb-false, not-false}
use lib.Dec.{eqb, leb}
use lib.ListN.{length, set, length-set}
use lib.Seq.{get_or-set_same, get_or-set_other}
use lib.Ieee.{Float, nan, lt}
use Rattle.limits.specs.Limits.{none}
use Rattle.float64.specs.inner.Keys.{Ordered, position}
use Rattle.float64.proofs.Order.{lt_key, le_key}
use Rattle.matching.specs.Sum.{sum_to}
use Rattle.matching.specs.Pairing.{OfRow}
use Rattle.sparse.specs.Pattern.{bipartite, row_of, start, end, entries, InColumn}
use Rattle.hungarian.specs.Graph.{CostGraph}
use Rattle.hungarian.specs.Init.{Improving, Best, Sought, pair, swap, reduced, free, best_of, seek, attempt, improve}
use Rattle.hungarian.specs.inner.Setting.{Setting}
use Rattle.hungarian.specs.inner.Bounds.{Cost}
use Rattle.hungarian.specs.inner.Between.{at, dual, Matched}
use Rattle.sparse.proofs.Columns.{pointers_rise, row_below}
use Rattle.slices.proofs.Bools.{neither}
use Rattle.hungarian.proofs.InitLaws.{set_cases, sum_store}
use Rattle.hungarian.proofs.InitSwaps.{Searched, Least, matched_pair_lem, matched_swap, placed, exhausted, least_stored, least_placed}
use Rattle.hungarian.proofs.InitSeeks.{BestBefore, Missed, Hit, inner, seek_ends, value_ordered, best}

pub record Improved (err : ℕ) (g : CostGraph) (u : List Float) (s : Improving) : Type 0 where
  pub matched : Matched g s.pairs
  pub searched : Searched g s.pairs.jperm s.from
  pub least_count : length s.least ≡ g.pattern.n
  pub known : (j : ℕ) → j < g.pattern.n → Ordered (dual s.least j)
  pub steps : ℕ
  pub counted : s.stats ≡ inner steps
  pub paid : steps + sum_to g.pattern.n (start g.pattern) ≤ sum_to g.pattern.n (at s.from)
  pub exact : err ≡ 0 → Least g u s.pairs.jperm s.least

-- the free column j, for which its least value v is stored, looks for a row
pub record Trying (err : ℕ) (g : CostGraph) (u : List Float) (j : ℕ) (v : Float) (s : Improving) : Type 0 where
  pub improved : Improved err g u s
  pub column : j < g.pattern.n
  pub free : at s.pairs.jperm j ≡ none
  pub value : dual s.least j ≡ v
  pub least : (l : ℕ) → InColumn g.pattern j l → position v ≤ position (reduced g u l)

module _ {Good : Float → Type 0} {err C : ℕ} {g : CostGraph} (S : Setting Good err C g) (u : List Float)
    (duals : (k : ℕ) → k < entries g.pattern → Cost Good C (dual u (row_of g.pattern k))) where
  -- column j takes the free row r of its entry k
  takes : {r j k : ℕ} {v : Float} {s : Improving} → Trying err g u j v s → InColumn g.pattern j k → r ≡ row_of g.pattern k → at s.pairs.iperm r ≡ none
      → position (reduced g u k) ≤ position v
      → Improved err g u (record { pairs = pair r j k s.pairs; least = s.least; from = set s.from j (k + 1); stats = s.stats })
  unfolding pair
  takes {r} {j} {k} {v} {s} t c q row low =
      let i = t.improved in
      record {
        matched = rw q (matched_pair_lem S i.matched c (rw q at row) t.free);
        searched = placed S c i.searched;
        least_count = i.least_count;
        known = i.known;
        steps = i.steps;
        counted = i.counted;
        paid = omega (
          arith,
          i.paid,
          sum_store s.from g.pattern.n j (k + 1) i.searched.from_count t.column,
          i.searched.fresh j t.column
              t.free,
          c.above,
        );
        exact = λ e. least_placed k (omega (arith, t.column, i.matched.column_count)) (rw t.value low) (rw t.value t.least) (i.exact e);
      }

  -- column jj was searched to its end in vain
  pub misses : {j jj : ℕ} {v : Float} {s : Improving} (t : Trying err g u j v s) → jj < g.pattern.n → at s.pairs.jperm jj ≢ none → (r : Sought)
      → Missed t.improved.steps (end g.pattern jj - at s.from jj) r
      → Trying err g u j v (record { pairs = s.pairs; least = s.least; from = set s.from jj (end g.pattern jj); stats = r.stats })
  misses {j} {jj} {v} {s} t h had r missed =
      let i = t.improved in
      record {
        improved = record {
          matched = i.matched;
          searched = exhausted h (S.columns.pointers.rises jj h) had i.searched;
          least_count = i.least_count;
          known = i.known;
          steps = i.steps + (end g.pattern jj - at s.from jj);
          counted = missed.stats;
          paid = omega (arith, i.paid, sum_store s.from g.pattern.n jj (end g.pattern jj) i.searched.from_count h, i.searched.below jj h);
          exact = i.exact;
        };
        column = t.column;
        free = t.free;
        value = t.value;
        least = t.least;
      }

  -- column j takes the row of its entry k from column jj, which takes the free row that was found for it
  swaps : {j jj k : ℕ} {v : Float} {s : Improving} (t : Trying err g u j v s) → InColumn g.pattern j k → position (reduced g u k) ≤ position v
      → jj < g.pattern.n
      → at s.pairs.jperm jj ≢ none → at s.pairs.iperm (row_of g.pattern k) ≡ jj
      → (r : Sought) → Hit g u s jj t.improved.steps (at s.from jj) (at s.from jj + (end g.pattern jj - at s.from jj)) r
      → Improved err g u (record {
        pairs = swap g j k jj r.entry s.pairs;
        least = s.least;
        from =
            set (set s.from jj (r.entry + 1)) j (k + 1);
        stats = r.stats;
      })
  unfolding swap pair
  swaps {j} {jj} {k} {v} {s} t c low h had middle r hit =
      let i = t.improved in
      let kk = r.entry in
      let d : InColumn g.pattern jj kk =
      record { column = h; above = omega (arith, hit.above, i.searched.above jj h); below = omega (arith, hit.below, i.searched.below jj h) } in
      let apart : j ≢ jj = λ e. had (ap (at s.pairs.jperm) (sym e) ∙ t.free) in
      let fits : position (reduced g u kk) ≤ position (dual s.least jj) =
      leb-true (position (reduced g u kk)) (position (dual s.least jj))
      (sym (le_key (reduced g u kk) (dual s.least jj) (value_ordered S u duals d) (i.known jj h)) ∙ hit.fits) in
      record {
        matched = matched_swap S i.matched c d hit.row middle t.free;
        searched = placed S c (placed S d i.searched);
        least_count = i.least_count;
        known = i.known;
        steps = i.steps + (kk + 1 - at s.from jj);
        counted = hit.stats;
        paid = omega (
          arith,
          i.paid,
          hit.above,
          c.above,
          i.searched.fresh j t.column t.free,
          get_or-set_other s.from jj j (kk + 1) 0 apart,
          sum_store s.from g.pattern.n jj (kk + 1) i.searched.from_count h,
          sum_store (set s.from jj (kk + 1)) g.pattern.n j (k + 1) (length-set s.from jj (kk + 1) ∙ i.searched.from_count) t.column,
        );
        exact = λ e.
            least_placed k (omega (arith, t.column, i.matched.column_count, length-set s.pairs.jperm jj kk)) (rw t.value low)
            (rw t.value t.least)
            (least_placed kk (omega (arith, h, i.matched.column_count)) fits (λ l b. (i.exact e).stored jj l b had) (i.exact e));
      }

  attempt_keeps : (j : ℕ) (v : Float) (m k : ℕ) (s : Improving) → start g.pattern j ≤ k → k + m ≤ end g.pattern j → Trying err g u j v s
      → Improved err g u (attempt g u j v m k s)
  unfolding attempt
  attempt_keeps j v zero k s a b t = t.improved
  attempt_keeps j v (suc m) k s a b t =
      scan (λ r q. attempt_keeps j v m (suc k) r (omega arith) (omega arith) q) (lt v (reduced g u k) || free s.pairs.iperm (row_of g.pattern k)) refl
    where
      jj : ℕ
      jj = at s.pairs.iperm (row_of g.pattern k)

      sought : Sought
      sought = seek g u s s.stats jj (end g.pattern jj - at s.from jj) (at s.from jj)

      swapped : Improving
      swapped = record {
        pairs = swap g j k jj sought.entry s.pairs;
        least = s.least;
        from =
            set (set s.from jj (sought.entry + 1)) j (k + 1);
        stats = sought.stats;
      }

      missed : Improving
      missed = record { pairs = s.pairs; least = s.least; from = set s.from jj (end g.pattern jj); stats = sought.stats }

      c : InColumn g.pattern j k
      c = record { column = t.column; above = a; below = omega arith }

      Rest : Type 0
      Rest = (r : Improving) → Trying err g u j v r → Improved err g u (attempt g u j v m (suc k) r)

      next : Rest → position (reduced g u k) ≤ position v → OfRow (bipartite g.pattern) none (at s.pairs.iperm) (at s.pairs.jperm)
          (row_of g.pattern k)
          → Missed t.improved.steps (end g.pattern jj - at s.from jj) sought ⊎ Hit g u s jj t.improved.steps (at s.from jj)
          (at s.from jj + (end g.pattern jj - at s.from jj)) sought
          → (x : Bool) → eqb sought.entry none ≡ x → Improved err g u (cond x (attempt g u j v m (suc k) missed) swapped)
      next rest low row (inl r) true e = rest missed (misses t row.range row.taken sought r)
      next rest low row (inl r) false e = absurd (eqb-false sought.entry none e r.entry)
      next rest low row (inr r) true e =
          let q = pointers_rise g.pattern S.columns (suc jj) g.pattern.n row.range (le_refl g.pattern.n) in
          let z : ⊥ = omega (
            arith,
            eqb-true sought.entry none e,
            r.below,
            t.improved.searched.below jj row.range,
            q,
            S.columns.pointers.last,
            S.few_entries,
          ) in
          absurd z
      next rest low row (inr r) false e = swaps t c low row.range row.taken refl sought r

      scan : Rest → (x : Bool) → (lt v (reduced g u k) || free s.pairs.iperm (row_of g.pattern k)) ≡ x
          → Improved err g u (cond x (attempt g u j v m (suc k) s) (cond (eqb sought.entry none) (attempt g u j v m (suc k) missed) swapped))
      scan rest true e = rest s t
      scan rest false e =
          let i = t.improved in
          let n = neither (lt v (reduced g u k)) (free s.pairs.iperm (row_of g.pattern k)) e in
          let ov : Ordered v = rw t.value at (i.known j t.column) in
          let low = ltb-false (position v) (position (reduced g u k)) (sym (lt_key v (reduced g u k) ov (value_ordered S u duals c)) ∙ n.0) in
          next rest low (i.matched.paired.rows (row_of g.pattern k) (row_below g.pattern S.columns j k c) (eqb-false jj none n.1))
          (seek_ends g u s s.stats jj (end g.pattern jj - at s.from jj) (at s.from jj) i.steps i.counted) (eqb sought.entry none) refl

  -- one column
  pub improve_keeps : (j : ℕ) (s : Improving) → j < g.pattern.n → Improved err g u s → Improved err g u (improve g u j s)
  unfolding improve
  improve_keeps j s h i = skip (not (eqb (at s.pairs.jperm j) none) || leb (end g.pattern j) (start g.pattern j)) refl
    where
      b : Best
      b = best_of g u s.pairs.iperm j

      valued : Improving
      valued = record { pairs = s.pairs; least = set s.least j b.value; from = s.from; stats = s.stats }

      taken : Improving
      taken = record { pairs = pair b.row j b.place s.pairs; least = valued.least; from = set s.from j (b.place + 1); stats = s.stats }

      tried : Improving
      tried = attempt g u j b.value (end g.pattern j - b.place) b.place valued

      trying : at s.pairs.jperm j ≡ none → BestBefore g u j (end g.pattern j) b → Trying err g u j b.value valued
      trying e m = record {
        improved = record {
          matched = i.matched;
          searched = i.searched;
          least_count = length-set s.least j b.value ∙ i.least_count;
          known = set_cases (λ a x. a < g.pattern.n → Ordered x) s.least j b.value nan (omega (arith, h, i.least_count))
              (λ q. rw m.value (value_ordered S u duals m.place)) (λ a d. i.known a);
          steps = i.steps;
          counted = i.counted;
          paid = i.paid;
          exact = λ q. least_stored b.value (omega (arith, h, i.least_count)) e (i.exact q);
        };
        column = h;
        free = e;
        value = get_or-set_same s.least j b.value nan (omega (arith, h, i.least_count));
        least = λ l c. m.least l c.below c.above;
      }

      choose : Trying err g u j b.value valued → BestBefore g u j (end g.pattern j) b → (x : Bool) → free s.pairs.iperm b.row ≡ x
          → Improved err g u (cond x taken tried)
      choose t m true e = takes t m.place m.row (eqb-true (at s.pairs.iperm b.row) none e) (le_of_eq (ap position (sym m.value)))
      choose t m false e = attempt_keeps j b.value (end g.pattern j - b.place) b.place valued m.place.above (omega (arith, m.place.below)) t

      skip : (x : Bool) → (not (eqb (at s.pairs.jperm j) none) || leb (end g.pattern j) (start g.pattern j)) ≡ x
          → Improved err g u (cond x s (cond (free s.pairs.iperm b.row) taken tried))
      skip true e = i
      skip false e =
          let n = neither (not (eqb (at s.pairs.jperm j) none)) (leb (end g.pattern j) (start g.pattern j)) e in
          let q : at s.pairs.jperm j ≡ none = eqb-true (at s.pairs.jperm j) none (not-false (eqb (at s.pairs.jperm j) none) n.0) in
          let m : BestBefore g u j (end g.pattern j) b = best S u duals s.pairs.iperm j h
          (leb-false (end g.pattern j) (start g.pattern j) n.1) in
          choose (trying q m) m (free s.pairs.iperm b.row) refl
