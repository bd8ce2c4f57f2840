-- A column's turn: the search's tree, its answer followed and the arrays made clean are the definition's `settle`. What the three require comes from
-- what the theory says of the tree.
use mathlib.Core.Path.{◌≡◌, refl, sym, ap, ◌∙◌, subst}
use mathlib.Core.Logic.{◌⊎◌, inl, inr}
use mathlib.Core.Bool.{Bool, true, false, cond, not, true≢false}
use mathlib.Core.List.{List, [], ◌∷◌, map}
use Prim.Native.Nat.{ℕ, zero, suc, ◌+◌, ◌*◌, ◌≤◌, ◌<◌, ◌^◌}
use native.Mathlib.Nat.{mul-le-mul, le_trans, le_of_eq, mul-one}
use native.Mathlib.Omega.{arith}
use borrow.Author.Tests.{eq-eqb}
use lib.Dec.{T, eqb, eqb_refl, lit≤}
use lib.ListN.{length, get_or, take}
use lib.Seq.{length-take-le, get_or-take}
use lib.Ieee.{Float, lt}
use Rattle.limits.specs.Limits.{none}
use Rattle.float64.specs.Number.{Number, units_per_one}
use Rattle.float64.specs.Constants.{rinf}
use Rattle.index_heap.specs.IndexHeap.{Heap}
use Rattle.matching.specs.Sum.{or_zero}
use Rattle.matching.specs.Pairing.{matched_count}
use Rattle.matching.proofs.Sums.{sum_le, sum_const}
use Rattle.hungarian.specs.declared.HungarianStats.{HungarianStats}
use Rattle.sparse.specs.Pattern.{entries}
use Rattle.hungarian.specs.Graph.{CostGraph}
use Rattle.hungarian.specs.Counts.{counts, column_scanned, search_begun, search_ended, rows_popped, heap_seen}
use Rattle.hungarian.specs.inner.Layout.{region, iperm_at, jperm_at, pr_at, out_at, touched_at, popped_at}
use Rattle.hungarian.specs.Search.{Tree, Found, path, no_path, found, among, restore}
use Rattle.hungarian.specs.Match.{Running, tree_from, settle, augment, pairs_after, duals_after}
use Rattle.cost_limit.specs.Range.{cost_limit}
use Rattle.hungarian.specs.inner.Between.{at, Matched}
use Rattle.hungarian.specs.inner.SearchTree.{Among, Grown, PathEnd, Scanned}
use Rattle.sparse.proofs.Columns.{in_entries}
use Rattle.hungarian.proofs.Regions.{region_length, region_at}
use Rattle.hungarian.proofs.Rows.{or_l, or_r}
use Rattle.hungarian.proofs.HeapSteps.{heap_laws}
use Rattle.hungarian.proofs.Tree as Tree
use Rattle.hungarian.proofs.TreeGrow.{Searched, search_tree, scanned_by}
use Rattle.hungarian.proofs.Run.{augment_keeps}
use Rattle.hungarian_path.specs.declared.Ending.{Ending}
use Rattle.hungarian_path.specs.inner.Views.{unmarked, heap_in, tree_of, pairs_of, Flagged}
use Rattle.hungarian_path.specs.inner.StepsSearch.{running_of, found_of, left_of, SearchReady, Finds}
use Rattle.hungarian_path.specs.inner.StepsFlip.{pairs_at, WalkReady}
use Rattle.hungarian_path.specs.inner.StepsArrays.{ResetReady, Resets}
use Rattle.hungarian_path.proofs.Growths.{grown_in}
use Rattle.hungarian_path.proofs.Resets.{unmarked_restored, restored_open}
use Rattle.hungarian_search.specs.inner.Steps.{ApplyReady, Applies, Augments}
use Rattle.hungarian_search.proofs.Applies.{back_word, back_region, back_heap}

-- the counts at a search's end
abbrev pub ended : Ending → HungarianStats
ended o = heap_seen o.peak (rows_popped o.popped (search_ended o.touched o.stats))

-- no more pairs than columns
count_most : (n : ℕ) (f : ℕ → ℕ) → matched_count none n f ≤ n
unfolding matched_count
count_most n f = le_trans (sum_le n (λ j. or_zero (not (eqb (f j) none)) 1) (λ j. 1) (λ j h. bit (not (eqb (f j) none)))) (le_of_eq (sum_const n 1 ∙ mul-one n))
  where
    bit : (b : Bool) → or_zero b 1 ≤ 1
    bit true = omega arith
    bit false = omega arith

-- ---- rows of a list and their places
at_among : (l : List ℕ) (p : ℕ) → p < length l → Among (get_or l p 0) l
unfolding among
at_among [] p h = let z : ⊥ = omega arith in absurd z
at_among (x ∷ l) zero h = or_l (eqb x x) (among x l) (eqb_refl x)
at_among (x ∷ l) (suc p) h = or_r (eqb x (get_or l p 0)) (among (get_or l p 0) l) (at_among l p (omega arith))

module _ (g : CostGraph) (u : List Float) (w pos : List ℕ) (keys d : List Float) (stats : HungarianStats) (j : ℕ)
    (T' : SearchReady g u w pos keys d stats j) (w₁ pos₁ : List ℕ) (d₁ : List Float) (o : Ending) (F : Finds g u w w₁ pos pos₁ d d₁ j stats o) where
  abbrev n : ℕ
  n = g.pattern.n

  abbrev x : Running
  x = running_of g.pattern.n u w pos d stats

  abbrev t : Tree
  t = left_of g.pattern.n w₁ pos₁ d₁ o (tree_from g j (running_of g.pattern.n u w pos d stats))

  searched : Searched Number units_per_one (cost_limit g.pattern.n) g (pairs_of g.pattern.n w) u j (search_begun stats)
      (tree_from g j (running_of g.pattern.n u w pos d stats))
  searched = search_tree T'.setting (heap_laws g.pattern.n) (running_of g.pattern.n u w pos d stats) j T'.runs.matched T'.runs.bounded
      T'.runs.clean T'.below T'.free

  grown : Grown Number units_per_one (cost_limit g.pattern.n) g (pairs_of g.pattern.n w) u j searched.rank t
  grown = grown_in refl F.tree searched.scanning.grown

  flagged : Flagged g.pattern.n pos₁ t.popped
  flagged = subst (λ (y : Tree). Flagged g.pattern.n pos₁ y.popped) (sym F.tree) F.flagged

  touched_length : length (take o.touched (region touched_at g.pattern.n w₁)) ≡ o.touched
  touched_length = length-take-le o.touched (region touched_at g.pattern.n w₁)
      (rw (region_length touched_at g.pattern.n w₁ (omega (arith, F.size))) F.touched)

  popped_length : length (take o.popped (region popped_at g.pattern.n w₁)) ≡ o.popped
  popped_length = length-take-le o.popped (region popped_at g.pattern.n w₁)
      (rw (region_length popped_at g.pattern.n w₁ (omega (arith, F.size))) F.popped)

  touched_word : (p : ℕ) → p < o.touched → get_or (take o.touched (region touched_at g.pattern.n w₁)) p 0 ≡ get_or w₁ (touched_at * g.pattern.n + p) 0
  touched_word p h = get_or-take o.touched (region touched_at g.pattern.n w₁) p 0 h ∙ region_at touched_at g.pattern.n w₁ p 0 (omega (arith, F.touched))

  popped_word : (p : ℕ) → p < o.popped → get_or (take o.popped (region popped_at g.pattern.n w₁)) p 0 ≡ get_or w₁ (popped_at * g.pattern.n + p) 0
  popped_word p h = get_or-take o.popped (region popped_at g.pattern.n w₁) p 0 h ∙ region_at popped_at g.pattern.n w₁ p 0 (omega (arith, F.popped))

  touched_row : (p : ℕ) → p < o.touched → get_or w₁ (touched_at * g.pattern.n + p) 0 < g.pattern.n
  unfolding tree_of
  touched_row p h = subst (λ (i : ℕ). i < g.pattern.n) (touched_word p h)
      (grown.reached (get_or (take o.touched (region touched_at g.pattern.n w₁)) p 0)
      (at_among (take o.touched (region touched_at g.pattern.n w₁)) p (rw touched_length h))).row

  popped_row : (p : ℕ) → p < o.popped → get_or w₁ (popped_at * g.pattern.n + p) 0 < g.pattern.n
  unfolding tree_of
  popped_row p h = subst (λ (i : ℕ). i < g.pattern.n) (popped_word p h)
      (grown.reached (get_or (take o.popped (region popped_at g.pattern.n w₁)) p 0)
      (grown.popped_touched (get_or (take o.popped (region popped_at g.pattern.n w₁)) p 0)
      (at_among (take o.popped (region popped_at g.pattern.n w₁)) p (rw popped_length h)))).row

  -- ---- the way back from a path's end
  column_below_lem : (c : ℕ) → Scanned (pairs_of g.pattern.n w) j t.popped c → c < g.pattern.n
  column_below_lem c (inl e) = rw e T'.below
  column_below_lem c (inr (q, m, e)) =
      let r = grown.reached q (grown.popped_touched q m) in
      subst (λ (i : ℕ). i < g.pattern.n) e (T'.runs.matched.paired.rows q r.row r.matched).range

  next : (c : ℕ) → Scanned (pairs_of g.pattern.n w) j t.popped c → (get_or t.pr c 0 ≡ none)
      ⊎ (Scanned (pairs_of g.pattern.n w) j t.popped (get_or t.pr c 0) × (get_or t.out c 0 < entries g.pattern))
  next c (inl e) = inl (rw e grown.root_alone)
  next c (inr (q, m, e)) =
      let r = grown.reached q (grown.popped_touched q m) in
      inr (
        subst (λ (i : ℕ). Scanned (pairs_of g.pattern.n w) j t.popped (get_or t.pr i 0)) e r.from,
        subst (λ (i : ℕ). get_or t.out i 0 < entries g.pattern) e
            (in_entries g.pattern T'.setting.columns (at t.pr (at (region iperm_at g.pattern.n w) q))
            (at t.out (at (region iperm_at g.pattern.n w) q)) r.entry),
      )

  walk_asks : (c : ℕ) → Scanned (pairs_of g.pattern.n w) j t.popped c → WalkReady g.pattern.n g.pattern.row_idx w₁ c
  unfolding tree_of
  walk_asks c z = record {
    workspace = record { words = F.size; small = T'.setting.few_columns };
    few_entries = T'.setting.few_entries;
    inside = T'.setting.columns.inside;
    s = pairs_of g.pattern.n w;
    r = j;
    popped = t.popped;
    on = z;
    column = column_below_lem;
    next = λ c z. rw (← region_at pr_at g.pattern.n w₁ c 0 (column_below_lem c z), ← region_at out_at g.pattern.n w₁ c 0 (column_below_lem c z)) (next c z);
  }

  way : (b : Bool) → lt t.csp rinf ≡ b → (c : Float) (k i : ℕ) → cond b (path t.csp t.isp t.jsp) no_path ≡ path c k i
      → WalkReady g.pattern.n g.pattern.row_idx w₁ i × (k < entries g.pattern)
  way true q c k i e = go grown.best
    where
      go : (t.csp ≡ rinf) ⊎ PathEnd Number units_per_one (cost_limit g.pattern.n) g (pairs_of g.pattern.n w) u j t.popped t.csp t.isp t.jsp
          → WalkReady g.pattern.n g.pattern.row_idx w₁ i × (k < entries g.pattern)
      go (inl f) = absurd (true≢false (sym q ∙ ap (λ (y : Float). lt y rinf) f ∙ Tree.rinf_least))
      go (inr P) = let a : t.jsp ≡ i = cc in let b : t.isp ≡ k = cc in (
        subst (WalkReady g.pattern.n g.pattern.row_idx w₁) a (walk_asks t.jsp P.from),
        subst (λ (k : ℕ). k < entries g.pattern) b
            (in_entries g.pattern T'.setting.columns t.jsp t.isp P.entry),
      )
  way false q c k i e = let z : ◌≡◌ {A = ℕ} 0 1 = cc in let f : ⊥ = omega arith in absurd f

  -- ---- what the answer's functions ask
  module _ (num : ℕ) (counted : num ≡ (pairs_of g.pattern.n w).num) where
    pub apply_asks : num < 2 ^ 32 → ApplyReady g.pattern.n g.pattern.row_idx u w₁ d₁ (found_of o.end) o.popped num
    unfolding tree_of
    apply_asks few = record {
      size = F.size;
      room = F.popped;
      few = few;
      rows_in = λ p h. (
        subst (λ (m : ℕ). get_or w₁ (popped_at * g.pattern.n + p) 0 < m) (sym T'.runs.bounded.dual_count) (popped_row p h),
        subst (λ (m : ℕ). get_or w₁ (popped_at * g.pattern.n + p) 0 < m) (sym grown.d_count) (popped_row p h),
      );
      way = λ c k i e. way (lt t.csp rinf) refl c k i (sym F.answer ∙ e);
    }

  -- the counts have room for a search's end
  pub ended_room : (o.stats.heap_init_slots + o.touched < 2 ^ 64) × (o.stats.touched_total + o.touched < 2 ^ 64) × (o.touched < 2 ^ 64)
      × ((pairs_of g.pattern.n w).num < 2 ^ 32) × (o.stats.popped_total + o.popped < 2 ^ 64)
  unfolding tree_of column_scanned search_begun
  ended_room =
      let K = T'.runs.counted in
      let a : K.searches ≤ 4096 = omega (arith, T'.runs.searches_most, T'.below, T'.setting.few_columns) in
      let b : K.searches * g.pattern.n ≤ 4096 * 4096 = mul-le-mul a T'.setting.few_columns in
      let e : o.stats ≡ column_scanned (scanned_by g (pairs_of g.pattern.n w) j (tree_from g j (running_of g.pattern.n u w pos d stats)).popped)
      (search_begun (counts (g.pattern.n + K.touches) K.searches K.touches T'.inner K.scans K.pops K.peak)) = ap
      (λ (y : Tree). y.stats) F.tree ∙ searched.counted
      ∙ ap (λ (y : HungarianStats). column_scanned (scanned_by g (pairs_of g.pattern.n w) j (tree_from g j (running_of g.pattern.n u w pos d stats)).popped)
      (search_begun y)) K.form in
      let h : o.stats.heap_init_slots ≡ g.pattern.n + K.touches = ap (λ (y : HungarianStats). y.heap_init_slots) e in
      let k : o.stats.touched_total ≡ K.touches = ap (λ (y : HungarianStats). y.touched_total) e in
      let q : o.stats.popped_total ≡ K.pops = ap (λ (y : HungarianStats). y.popped_total) e in
      let f = T'.setting.few_columns in
      let m = F.touched in
      let l = F.popped in (
        omega (arith, K.touches_most),
        omega (arith, K.touches_most),
        omega arith,
        omega (arith, count_most g.pattern.n (at (region jperm_at g.pattern.n w))),
        omega (arith, K.pops_most, K.touches_most),
      )

  -- ---- the turn's end
  module _ (num : ℕ) (counted : num ≡ (pairs_of g.pattern.n w).num)
      (u' : List Float) (w₂ : List ℕ) (r : ℕ) (E : Applies g.pattern.n g.pattern.row_idx u u' w₁ w₂ d₁ (found_of o.end) o.popped num r) where
    pub reset_asks : length w₂ ≡ length w₁ → length pos₁ ≡ length pos → ResetReady g.pattern.n w₂ pos₁ d₁ o.touched
    unfolding tree_of
    reset_asks long places = record {
      workspace = record { words = long ∙ F.size; small = T'.setting.few_columns };
      places = places ∙ T'.places;
      d_count = grown.d_count;
      room = F.touched;
      rows = λ p h. rw (back_word (2 * g.pattern.n) w₁ w₂ (touched_at * g.pattern.n + p) E.rest (omega arith)) (touched_row p h);
    }

    module _ (pos₃ : List ℕ) (d₃ : List Float) (places : length pos₁ ≡ length pos) (Q : Resets g.pattern.n w₂ pos₁ pos₃ d₁ d₃ o.touched) where
      found_is : found_of o.end ≡ found t
      unfolding tree_of
      found_is = F.answer

      touched_same : region touched_at g.pattern.n w₂ ≡ region touched_at g.pattern.n w₁
      touched_same = back_region g.pattern.n w₁ w₂ E.rest touched_at (lit≤ tt)

      pairs_now : pairs_at g.pattern.n w₂ r ≡ pairs_after g t (found t) (pairs_of g.pattern.n w)
      unfolding tree_of
      pairs_now =
          E.pairs g t refl refl refl
          ∙ (λ z. pairs_after g t (found_is z) (record { iperm = F.iperm z; jperm = F.jperm z; num = counted z }))

      heap_now : heap_in g.pattern.n w₂ pos₃ 0 ≡ record { heap = t.heap.heap; pos = restore 0 t.touched t.heap.pos; len = 0 }
      unfolding tree_of heap_in
      heap_now =
          let p : map unmarked pos₃ ≡ restore 0 (take o.touched (region touched_at g.pattern.n w₁)) (map unmarked pos₁) =
          ap (map unmarked) Q.places ∙ unmarked_restored (take o.touched (region touched_at g.pattern.n w₂)) pos₁
          ∙ (λ z. restore 0 (take o.touched (touched_same z)) (map unmarked pos₁)) in
          λ z. record { heap = ap (λ (a : Heap). a.heap) (back_heap g.pattern.n w₁ w₂ E.rest pos₁ 0) z; pos = p z; len = 0 }

      settled : record {
        pairs = pairs_at g.pattern.n w₂ r;
        u = u';
        d = d₃;
        heap = heap_in g.pattern.n w₂ pos₃ 0;
        pr = region pr_at g.pattern.n w₂;
        out =
            region out_at g.pattern.n w₂;
        stats = ended o;
      } ≡ settle g t x
      unfolding settle tree_of
      settled = λ z. record {
        pairs = pairs_now z;
        u = (E.duals t refl refl ∙ ap (λ (f : Found). duals_after t f u) found_is) z;
        d = (Q.distances ∙ ap (λ (l : List ℕ). restore rinf (take o.touched l) d₁) touched_same) z;
        heap = heap_now z;
        pr = back_region g.pattern.n w₁ w₂ E.rest 4 (lit≤ tt) z;
        out = back_region g.pattern.n w₁ w₂ E.rest 5 (lit≤ tt) z;
        stats = heap_seen o.peak (rows_popped (sym popped_length z) (search_ended (sym touched_length z) o.stats));
      }

      settled' : record {
        pairs = pairs_at g.pattern.n w₂ r;
        u = u';
        d = d₃;
        heap = heap_in g.pattern.n w₂ pos₃ 0;
        pr = region pr_at g.pattern.n w₂;
        out =
            region out_at g.pattern.n w₂;
        stats = ended o;
      } ≡ settle g (tree_from g j x) x
      settled' = settled ∙ ap (λ (a : Tree). settle g a x) F.tree

      augmented : augment g j x ≡ settle g (tree_from g j x) x
      unfolding augment
      augmented = rw (eq-eqb (at (region jperm_at g.pattern.n w) j) none T'.free) refl

      number_is : r ≡ (pairs_of g.pattern.n w₂).num
      number_is =
          let M : Matched g (augment g j x).pairs = (augment_keeps T'.setting j x T'.below T'.runs).matched in
          let e = settled' ∙ sym augmented in
          ap (λ (a : Running). a.pairs.num) e ∙ M.counted ∙ sym (ap (λ (a : Running). matched_count none g.pattern.n (at a.pairs.jperm)) e)

      -- a marked row was popped, so it was touched and is put back
      flags_now : Flagged g.pattern.n pos₃ []
      unfolding tree_of among
      flags_now i h =
          subst (λ (l : List ℕ). eqb (get_or l i 0) none ≡ false) (sym Q.places)
          (restored_open (λ (p : ℕ). eqb p none ≡ false) refl i (take o.touched (region touched_at g.pattern.n w₂)) pos₁
          (omega (arith, places, T'.places)) (go (among i t.popped) (λ m. m) (flagged i h)))
        where
          go : (b : Bool) → (T b → Among i t.popped) → eqb (get_or pos₁ i 0) none ≡ b → T (among i (take o.touched (region touched_at g.pattern.n w₂)))
              ⊎ (eqb (get_or pos₁ i 0) none ≡ false)
          go false f e = inr e
          go true f e = inl (subst (λ (l : List ℕ). T (among i (take o.touched l))) (sym touched_same) (grown.popped_touched i (f tt)))

      pub augment_done : Augments g u u' w w₂ pos pos₃ d d₃ j stats (record { matched = r; stats = ended o })
      augment_done = record {
        state = (λ z. record {
          pairs = record { iperm = region iperm_at g.pattern.n w₂; jperm = region jperm_at g.pattern.n w₂; num = sym number_is z };
          u =
              u';
          d = d₃;
          heap = heap_in g.pattern.n w₂ pos₃ 0;
          pr = region pr_at g.pattern.n w₂;
          out = region out_at g.pattern.n w₂;
          stats = ended o;
        }) ∙ settled';
        number = number_is;
        flagged = flags_now;
      }
