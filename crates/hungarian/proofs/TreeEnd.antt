-- A search's end. Without a path its scanned columns are closed: every entry leads to a matched row whose column was scanned. With one, a chain of
-- entries and pairs leads from the root to a free row.
-- The arrays are clean again afterwards, and no more entries were scanned than there are.
use mathlib.Core.Path.{◌≡◌, refl, sym, ◌∙◌, subst}
use mathlib.Core.Logic.{inl, inr, ⊎_elim}
use mathlib.Core.Bool.{Bool, true, false, not, ◌||◌, ◌&&◌, true≢false}
use mathlib.Core.List.{List, [], ◌∷◌}
use Prim.Native.Nat.{ℕ, zero, suc, ◌+◌, ◌≤◌, ◌<◌}
use native.Mathlib.Decide.{dec_lt}
use native.Mathlib.Omega.{arith}
use borrow.Author.Tests.{leb-true, ltb-true}
use lib.Dec.{T, T_not, eqb, eqb→eq, eqb_refl}
use lib.ListN.{length, get_or, set, length-set, get_or-eq_default}
use lib.Seq.{get_or-set_same, get_or-set_other}
use lib.Ieee.{Float, nan, lt, le}
use lib.Ieee.Fits.{and_i, and_l, and_r, eq→eqb}
use Rattle.limits.specs.Limits.{none}
use Rattle.float64.specs.inner.Keys.{position}
use Rattle.float64.specs.Constants.{rinf}
use Rattle.float64.proofs.Constants.{rinf_number}
use Rattle.float64.proofs.Order.{lt_key, le_key}
use Rattle.float64.proofs.WholeNumbers.{ordered}
use Rattle.index_heap.specs.IndexHeap.{Heap, row_at, place_of}
use Rattle.index_heap.specs.inner.Invariant.{Inverse, Within}
use Rattle.index_heap.proofs.Rows.{cleared, row_within}
use Rattle.matching.specs.Sum.{sum_to, updated}
use Rattle.matching.proofs.Updated.{updated_other}
use Rattle.matching.proofs.Sums.{sum_updated}
use Rattle.matching.specs.Pairing.{ClosedColumns}
use Rattle.matching.proofs.Pairings.{not_eqb, apart}
use Rattle.hungarian.specs.declared.HungarianStats.{HungarianStats}
use Rattle.sparse.specs.Pattern.{bipartite, row_of, column_of, entries, start, end, InColumn}
use Rattle.hungarian.specs.Graph.{CostGraph}
use Rattle.hungarian.specs.Init.{Pairs}
use Rattle.hungarian.specs.Search.{Tree, among, restore, Leads, arrives, goes}
use Rattle.hungarian.specs.inner.Setting.{Setting}
use Rattle.hungarian.specs.inner.Between.{at, dual, Matched}
use Rattle.hungarian.specs.inner.SearchTree.{Among, Grown, PathEnd, Reached, Scanned}
use Rattle.sparse.proofs.Columns.{in_column_lem}
use Rattle.hungarian.proofs.Rows.{or_l, or_r, or_cases, weigh, weigh_apart, weigh_same}
use Rattle.hungarian.proofs.Tree as Tree
use Rattle.hungarian.proofs.TreeGrow.{Searched, entries_of, scanned_by}

-- ---- values put back at the touched places
pub restore_length : {A : Type 0} (x : A) (l : List ℕ) (a : List A) → length (restore x l a) ≡ length a
unfolding restore
restore_length x [] a = refl
restore_length x (i ∷ l) a = restore_length x l (set a i x) ∙ length-set a i x

pub restore_other : {A : Type 0} (x z : A) (l : List ℕ) (a : List A) (i : ℕ) → (Among i l → ⊥) → get_or (restore x l a) i z ≡ get_or a i z
unfolding restore among
restore_other x z [] a i h = refl
restore_other x z (q ∷ l) a i h = restore_other x z l (set a q x) i (λ m. h (or_r (eqb q i) (among i l) m)) ∙ get_or-set_other a q i x z
    (λ e. h (or_l (eqb q i) (among i l) (eq→eqb (sym e))))

pub restore_at : {A : Type 0} (x z : A) (l : List ℕ) (a : List A) (i : ℕ) → Among i l → i < length a → get_or (restore x l a) i z ≡ x
unfolding restore among
restore_at x z [] a i m h = absurd m
restore_at x z (q ∷ l) a i m h = go (among i l) (λ b. b) (λ n b. T_not (among i l) n b) (λ b. restore_at x z l (set a q x) i b (rw (length-set a q x) h))
  where
    go : (b : Bool) → (T b → Among i l) → (T (not b) → Among i l → ⊥) → (Among i l → get_or (restore x l (set a q x)) i z ≡ x)
        → get_or (restore x l (set a q x)) i z ≡ x
    go true f k r = r (f tt)
    go false f k r =
        let e : i ≡ q = ⊎_elim (λ (t : T (eqb q i)). sym (eqb→eq q i t)) (λ (t : Among i l). absurd (k tt t)) (or_cases (eqb q i) (among i l) m) in
        restore_other x z l (set a q x) i (k tt) ∙ subst (λ (j : ℕ). get_or (set a q x) j z ≡ x) (sym e)
        (get_or-set_same a q x z (subst (λ (j : ℕ). j < length a) e h))

-- ---- scanned columns, as a test
unfoldable pub was_scanned : CostGraph → Pairs → ℕ → Tree → ℕ → Bool
was_scanned g s r t j = eqb j r || (not (eqb (at s.jperm j) none) && among (row_of g.pattern (at s.jperm j)) t.popped)

module _ {Good : Float → Type 0} {err C : ℕ} {g : CostGraph} {s : Pairs} {u : List Float} {r : ℕ} {c : HungarianStats} (S : Setting Good err C g)
    (M : Matched g s) (t : Tree) (W : Searched Good err C g s u r c t) where
  G : Grown Good err C g s u r W.rank t
  G = W.scanning.grown

  to_scanned : (j : ℕ) → j < g.pattern.n → T (was_scanned g s r t j) → Scanned s r t.popped j
  unfolding was_scanned
  to_scanned j h z = ⊎_elim (λ (a : T (eqb j r)). inl (eqb→eq j r a))
      (λ (a : T (not (eqb (at s.jperm j) none) && among (row_of g.pattern (at s.jperm j)) t.popped)). inr (
        row_of g.pattern (at s.jperm j),
        and_r (not (eqb (at s.jperm j) none)) (among (row_of g.pattern (at s.jperm j)) t.popped) a,
        (M.paired.columns j h
            (apart (at s.jperm j) none (and_l (not (eqb (at s.jperm j) none)) (among (row_of g.pattern (at s.jperm j)) t.popped) a))).back,
      ))
      (or_cases (eqb j r) (not (eqb (at s.jperm j) none) && among (row_of g.pattern (at s.jperm j)) t.popped) z)

  popped_scanned : (q : ℕ) → Among q t.popped → T (was_scanned g s r t (at s.iperm q))
  unfolding was_scanned
  popped_scanned q m =
      let w = G.reached q (G.popped_touched q m) in
      let o = M.paired.rows q w.row w.matched in
      or_r (eqb (at s.iperm q) r) (not (eqb (at s.jperm (at s.iperm q)) none) && among (row_of g.pattern (at s.jperm (at s.iperm q)))
      t.popped)
      (and_i (not (eqb (at s.jperm (at s.iperm q)) none)) (among (row_of g.pattern (at s.jperm (at s.iperm q))) t.popped)
      (not_eqb (at s.jperm (at s.iperm q)) none o.taken) (subst (λ (i : ℕ). Among i t.popped) (sym o.back) m))

  pub root_scanned : T (was_scanned g s r t r)
  unfolding was_scanned
  root_scanned = or_l (eqb r r) (not (eqb (at s.jperm r) none) && among (row_of g.pattern (at s.jperm r)) t.popped) (eqb_refl r)

  -- ---- no path
  module _ (None-found : lt t.csp rinf ≡ false) where
    far_path : t.csp ≡ rinf
    far_path = ⊎_elim (λ (e : t.csp ≡ rinf). e)
        (λ (p : PathEnd Good err C g s u r t.popped t.csp t.isp t.jsp). absurd
        (true≢false (sym p.distance.distance.finite ∙ None-found))) G.best

    heap_empty : t.heap.len ≡ 0
    heap_empty = ⊎_elim (λ (e : t.heap.len ≡ 0). e) (λ (e : le t.csp (dual t.d (row_at t.heap 1)) ≡ true). go e (dec_lt 0 t.heap.len)) W.stopped
      where
        go : le t.csp (dual t.d (row_at t.heap 1)) ≡ true → Dec (0 < t.heap.len) → t.heap.len ≡ 0
        go e (no o) = omega arith
        go e (yes l) =
            let w = (G.reached (row_at t.heap 1)
            (G.heap_touched (row_at t.heap 1) (row_within g.pattern.n t.heap 1 G.heap (omega arith) l))).distance.distance in
            let o = ordered (dual t.d (row_at t.heap 1)) (S.laws.number (dual t.d (row_at t.heap 1)) w.good) in
            let i = ordered rinf rinf_number in
            let a = leb-true (position rinf) (position (dual t.d (row_at t.heap 1)))
            (sym (le_key rinf (dual t.d (row_at t.heap 1)) i o) ∙ subst (λ (y : Float). le y (dual t.d (row_at t.heap 1)) ≡ true) far_path e) in
            let b = ltb-true (position (dual t.d (row_at t.heap 1))) (position rinf)
            (sym (lt_key (dual t.d (row_at t.heap 1)) rinf o i) ∙ w.finite) in
            let n : ⊥ = omega arith in absurd n

    -- the row of every entry of a scanned column was popped
    all_popped : (j k : ℕ) → Scanned s r t.popped j → InColumn g.pattern j k → Among (row_of g.pattern k) t.popped
    all_popped j k z w =
        ⊎_elim (λ (f : lt t.csp rinf ≡ true). absurd (true≢false (sym f ∙ None-found)))
        (λ (a : Among (row_of g.pattern k) t.touched). ⊎_elim (λ (p : Among (row_of g.pattern k) t.popped). p)
        (λ (h : Within t.heap (row_of g.pattern k)). let l =
        (G.heap.held (row_of g.pattern k) h).0 in let n : ⊥ = omega (arith, heap_empty) in absurd n) (G.touched_in (row_of g.pattern k) a))
        (W.scanning.covered j k (z, w, λ q. subst (λ (x : ℕ). k < end g.pattern x) q w.below))

    pub scanned_closed : ClosedColumns (bipartite g.pattern) none (at s.iperm) (was_scanned g s r t)
    scanned_closed = record {
      matched = λ k h z. let w = in_column_lem g.pattern S.columns k h in let p = all_popped (column_of g.pattern k) k
          (to_scanned (column_of g.pattern k) w.column z) w in
          (G.reached (row_of g.pattern k) (G.popped_touched (row_of g.pattern k) p)).matched;
      inside = λ k h z. let w = in_column_lem g.pattern S.columns k h in popped_scanned (row_of g.pattern k)
          (all_popped (column_of g.pattern k) k (to_scanned (column_of g.pattern k) w.column z) w);
    }

    -- so no alternating path leads from a scanned column to a free row
    stuck : (j : ℕ) → j < g.pattern.n → T (was_scanned g s r t j) → Leads g s.iperm j → ⊥
    stuck j b z (arrives k lo hi f) = let p = all_popped j k (to_scanned j b z) (record { column = b; above = lo; below = hi }) in
        (G.reached (row_of g.pattern k) (G.popped_touched (row_of g.pattern k) p)).matched f
    stuck j b z (goes k lo hi l) =
        let p = all_popped j k (to_scanned j b z) (record { column = b; above = lo; below = hi }) in
        let w = G.reached (row_of g.pattern k) (G.popped_touched (row_of g.pattern k) p) in
        stuck (at s.iperm (row_of g.pattern k)) (M.paired.rows (row_of g.pattern k) w.row w.matched).range
        (popped_scanned (row_of g.pattern k) p) l

    pub no_way : r < g.pattern.n → Leads g s.iperm r → ⊥
    no_way b = stuck r b root_scanned

  -- ---- a path: from a column that leads to a free row back to the root, by falling rank
  back_to_root : (m q : ℕ) → Among q t.popped → W.rank (at s.iperm q) ≤ m → Leads g s.iperm (at s.iperm q) → Leads g s.iperm r
  back_to_root zero q m h l = let z = G.rank_lower q m in let n : ⊥ = omega arith in absurd n
  back_to_root (suc f) q m h l = go w.from (back_to_root f)
    where
      w : Reached Good err C g s u r t.popped t.pr t.out t.d q
      w = G.reached q (G.popped_touched q m)

      one : Leads g s.iperm (at t.pr (at s.iperm q))
      one = goes (at t.out (at s.iperm q)) w.entry.above w.entry.below (subst (λ (i : ℕ). Leads g s.iperm (at s.iperm i)) (sym w.to) l)

      go : Scanned s r t.popped (at t.pr (at s.iperm q))
          → ((q : ℕ) → Among q t.popped → W.rank (at s.iperm q) ≤ f → Leads g s.iperm (at s.iperm q) → Leads g s.iperm r) → Leads g s.iperm r
      go (inl e) rest = subst (Leads g s.iperm) e one
      go (inr (p, a, e)) rest = rest p a (rw e (let z = G.rank_lower q m in omega arith)) (subst (Leads g s.iperm) (sym e) one)

  pub a_way : PathEnd Good err C g s u r t.popped t.csp t.isp t.jsp → Leads g s.iperm r
  a_way P = go P.from
    where
      last : Leads g s.iperm t.jsp
      last = arrives t.isp P.entry.above P.entry.below P.ends

      go : Scanned s r t.popped t.jsp → Leads g s.iperm r
      go (inl e) = subst (Leads g s.iperm) e last
      go (inr (q, m, e)) = back_to_root (W.rank (at s.iperm q)) q m (omega arith) (subst (Leads g s.iperm) (sym e) last)

  -- ---- the arrays afterwards
  abbrev d' : List Float
  d' = restore rinf t.touched t.d

  abbrev heap' : Heap
  heap' = record { heap = t.heap.heap; pos = restore 0 t.touched t.heap.pos; len = 0 }

  pub d_clean : (i : ℕ) → i < g.pattern.n → dual d' i ≡ rinf
  d_clean i h = go (among i t.touched) (λ a. a) (λ n m. T_not (among i t.touched) n m)
    where
      go : (b : Bool) → (T b → Among i t.touched) → (T (not b) → Among i t.touched → ⊥) → dual d' i ≡ rinf
      go true f k = restore_at rinf nan t.touched t.d i (f tt) (omega (arith, G.d_count))
      go false f k = restore_other rinf nan t.touched t.d i (k tt) ∙ G.far i h (k tt)

  pos_clean : (i : ℕ) → get_or (restore 0 t.touched t.heap.pos) i 0 ≡ 0
  pos_clean i = go (dec_lt i g.pattern.n) (among i t.touched) (λ a. a) (λ n m. T_not (among i t.touched) n m)
    where
      zero_place : (Among i t.touched → ⊥) → Dec (0 < place_of t.heap i) → place_of t.heap i ≡ 0
      zero_place k (yes p) = absurd (k (G.heap_touched i p))
      zero_place k (no p) = omega arith

      go : Dec (i < g.pattern.n) → (b : Bool) → (T b → Among i t.touched) → (T (not b) → Among i t.touched → ⊥)
          → get_or (restore 0 t.touched t.heap.pos) i 0 ≡ 0
      go (no p) b f k = get_or-eq_default (restore 0 t.touched t.heap.pos) 0
          (omega (arith, restore_length 0 t.touched t.heap.pos, G.heap.pos_length))
      go (yes p) true f k = restore_at 0 0 t.touched t.heap.pos i (f tt) (omega (arith, G.heap.pos_length))
      go (yes p) false f k = restore_other 0 0 t.touched t.heap.pos i (k tt) ∙ zero_place (k tt) (dec_lt 0 (place_of t.heap i))

  pub heap_clean : Inverse g.pattern.n heap' × ((i : ℕ) → Within heap' i → ⊥)
  heap_clean = (
    cleared g.pattern.n t.heap (restore 0 t.touched t.heap.pos) G.heap
        (restore_length 0 t.touched t.heap.pos ∙ G.heap.pos_length) pos_clean,
    λ i h. let z = pos_clean i in omega arith,
  )

  -- ---- no more entries are scanned than there are
  all_entries : (m : ℕ) → m ≤ g.pattern.n → sum_to m (entries_of g) + start g.pattern 0 ≡ start g.pattern m
  unfolding sum_to
  all_entries zero h = omega arith
  all_entries (suc m) h = let a = all_entries m (omega arith) in let b = S.columns.pointers.rises m h in omega arith

  pub scans_most_lem : r < g.pattern.n → at s.jperm r ≡ none → scanned_by g s r t.popped ≤ entries g.pattern
  scans_most_lem b root =
      let others : weigh (λ q. updated (entries_of g) r 0 (at s.iperm q)) t.popped ≤ sum_to g.pattern.n (updated (entries_of g) r 0) =
      weigh_apart g.pattern.n (updated (entries_of g) r 0) (at s.iperm) t.popped G.popped_once
      (λ i m. let w = G.reached i (G.popped_touched i m) in (M.paired.rows i w.row w.matched).range)
      (λ i k m o e. let w = G.reached i (G.popped_touched i m) in Tree.one_row g s M i k w.row (G.reached k (G.popped_touched k o)).row w.matched e) in
      let same : weigh (λ q. updated (entries_of g) r 0 (at s.iperm q)) t.popped ≡ weigh (λ q. entries_of g (at s.iperm q)) t.popped =
      weigh_same (λ q. updated (entries_of g) r 0 (at s.iperm q)) (λ q. entries_of g (at s.iperm q)) t.popped
      (λ i m. let w = G.reached i (G.popped_touched i m) in
      updated_other (entries_of g) r 0 (at s.iperm i) (Tree.not_root g s M r i root w.row w.matched)) in
      omega (
        arith,
        sum_updated g.pattern.n (entries_of g) r 0 b,
        all_entries g.pattern.n
            (omega arith),
        S.columns.pointers.first,
        S.columns.pointers.last,
      )
