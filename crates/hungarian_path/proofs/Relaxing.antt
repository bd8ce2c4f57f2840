-- A row is reached: the words that `relax` stores are a `relax` of the tree. Each region goes by the laws of stores, the heap by `update`'s promise,
-- and "first touch" is "not in the heap".
use mathlib.Core.Path.{◌≡◌, refl, sym, ap, ◌∙◌, subst}
use mathlib.Core.Logic.{◌≢◌, ◌⊎◌, inl, inr}
use mathlib.Core.Bool.{Bool, true, false, cond}
use mathlib.Core.List.{List, [], ◌∷◌, ◌++◌, map}
use Prim.Native.Nat.{ℕ, ◌+◌, ◌-◌, ◌*◌, ◌≤◌, ◌<◌}
use native.Mathlib.Numerals.{add-one}
use native.Mathlib.Decide.{ℕ_discrete}
use native.Mathlib.Nat.{eq-zero-or-pos}
use native.Mathlib.Omega.{arith}
use borrow.Author.Tests.{eqb-true, eqb-false, ne_eqb}
use lib.Dec.{eqb, lit<}
use lib.ListN.{length, get_or, set, take, drop, length-set}
use lib.Seq.{get_or-set_same, get_or-set_other, take-suc-set}
use lib.Ieee.{Float, nan, eq}
use Rattle.limits.specs.Limits.{none}
use Rattle.float64.specs.Constants.{rinf}
use Rattle.index_heap.specs.IndexHeap.{Heap, place_of, set_place, update, insert}
use Rattle.index_heap.specs.inner.Invariant.{Within, WithRow, SameRows}
use Rattle.index_heap.specs.inner.Slices.{heap_of, Ready, Keyed, Holds, Updated}
use Rattle.index_heap.proofs.Keys.{ready, keyed_opens, keyed_enters}
use Rattle.index_heap.proofs.Rows.{update_rows, insert_rows}
use Rattle.index_heap.proofs.Marks.{mapped, map-set, update_mapped, update_others}
use Rattle.hungarian.specs.declared.HungarianStats.{HungarianStats}
use Rattle.hungarian.specs.Counts.{larger}
use Rattle.sparse.specs.Pattern.{row_of}
use Rattle.hungarian.specs.Graph.{CostGraph}
use Rattle.hungarian.specs.inner.Layout.{region, iperm_at}
use Rattle.hungarian.specs.Search.{Tree, relax}
use Rattle.hungarian.proofs.Regions.{region_ends, region_length, region_at, region_set, region_apart, region_front}
use Rattle.hungarian_path.specs.declared.Frontier.{Frontier}
use Rattle.hungarian_path.specs.inner.Views.{unmarked, heap_in, tree_of, Kept}
use Rattle.hungarian_path.specs.inner.Steps.{TouchReady, touch_words, touch_places, touch_frontier, RelaxReady, Relaxes}
use Rattle.hungarian_path.proofs.Memory.{rows_front_lem, part_is, part_take, part_drop, unmarked_zero, unmarked_open, unmarked_small, placed_open}
use Rattle.hungarian_path.proofs.Memory.{place_in, spare}

-- ---- a row is noted
-- the words of a new row
abbrev noted : ℕ → List ℕ → Frontier → ℕ → List ℕ
noted n w frontier i = set w (6 * n + frontier.touched) i

module _ (n : ℕ) (w : List ℕ) (frontier : Frontier) (i : ℕ) (touched : frontier.touched < n) where
  noted_region : (r : ℕ) → (r < 6) ⊎ (6 < r) → region r n (noted n w frontier i) ≡ region r n w
  noted_region r s = region_apart r n w 6 frontier.touched i touched s

  noted_touched : 6 * n + n ≤ length w → take (frontier.touched + 1) (region 6 n (noted n w frontier i)) ≡ take frontier.touched (region 6 n w) ++ (i ∷ [])
  noted_touched h =
      rw (region_set 6 n w frontier.touched i touched, add-one)
      (take-suc-set (region 6 n w) frontier.touched i (rw (region_length 6 n w h) touched))

  noted_rows : drop (11 * n) (noted n w frontier i) ≡ drop (11 * n) w
  noted_rows = rows_front_lem n w [] (6 * n + frontier.touched) i (omega arith)

  noted_word : (p : ℕ) → p < n → get_or (noted n w frontier i) p 0 ≡ get_or w p 0
  noted_word p h = get_or-set_other w (6 * n + frontier.touched) p i 0 (λ e. omega arith)

-- whether the row is new or not
module _ (n : ℕ) (w pos : List ℕ) (frontier : Frontier) (i : ℕ) (R : TouchReady n w pos frontier i) where
  room : eqb (get_or pos i 0) 0 ≡ true → (frontier.touched < n) × (frontier.len < n)
  room e = spare n w pos frontier i R (eqb-true (get_or pos i 0) 0 e)

  spared : eqb (get_or pos i 0) 0 ≡ true → frontier.touched < n
  spared e = (room e).0

  touch_region : (r : ℕ) → (r < 6) ⊎ (6 < r) → region r n (touch_words n w pos frontier i) ≡ region r n w
  touch_region r s = go (eqb (get_or pos i 0) 0) spared
    where
      go : (b : Bool) → (b ≡ true → frontier.touched < n) → region r n (cond b (noted n w frontier i) w) ≡ region r n w
      go true f = noted_region n w frontier i (f refl) r s
      go false f = refl

  pub touch_word : (p : ℕ) → p < n → get_or (touch_words n w pos frontier i) p 0 ≡ get_or w p 0
  touch_word p h = go (eqb (get_or pos i 0) 0) spared
    where
      go : (b : Bool) → (b ≡ true → frontier.touched < n) → get_or (cond b (noted n w frontier i) w) p 0 ≡ get_or w p 0
      go true f = noted_word n w frontier i (f refl) p h
      go false f = refl

  touch_rows : drop (11 * n) (touch_words n w pos frontier i) ≡ drop (11 * n) w
  touch_rows = go (eqb (get_or pos i 0) 0) spared
    where
      go : (b : Bool) → (b ≡ true → frontier.touched < n) → drop (11 * n) (cond b (noted n w frontier i) w) ≡ drop (11 * n) w
      go true f = noted_rows n w frontier i (f refl)
      go false f = refl

  pub touch_length : length (touch_places pos frontier i) ≡ n
  touch_length = go (eqb (get_or pos i 0) 0)
    where
      go : (b : Bool) → length (cond b (set pos i (frontier.len + 1)) pos) ≡ n
      go true = simp length-set R.places
      go false = R.places

  abbrev standing : Heap
  standing = heap_in n w pos frontier.len

  -- the row's place is among those of the heap, with the new row
  pub touch_place : get_or pos i 0 ≢ none → (1 ≤ get_or (touch_places pos frontier i) i 0)
      × (get_or (touch_places pos frontier i) i 0 ≤ (touch_frontier pos frontier i).len) × ((touch_frontier pos frontier i).len ≤ n)
  unfolding heap_in
  touch_place open' = go (eqb (get_or pos i 0) 0) refl
    where
      go : (b : Bool) → eqb (get_or pos i 0) 0 ≡ b → (1 ≤ get_or (cond b (set pos i (frontier.len + 1)) pos) i 0)
          × (get_or (cond b (set pos i (frontier.len + 1)) pos) i 0
          ≤ (cond b (record {
            csp = frontier.csp;
            isp = frontier.isp;
            jsp = frontier.jsp;
            len = frontier.len + 1;
            touched =
                frontier.touched + 1;
            popped = frontier.popped;
            peak = larger frontier.peak (frontier.len + 1);
          }) frontier).len)
          × ((cond b (record {
            csp = frontier.csp;
            isp = frontier.isp;
            jsp = frontier.jsp;
            len = frontier.len + 1;
            touched =
                frontier.touched + 1;
            popped = frontier.popped;
            peak = larger frontier.peak (frontier.len + 1);
          }) frontier).len ≤ n)
      go true e = let s = room e in rw (get_or-set_same pos i (frontier.len + 1) 0 (omega (arith, R.places, R.row))) (omega arith, omega arith, omega arith)
      go false e =
          let z : place_of standing i ≡ get_or pos i 0 = place_in n w pos frontier.len i ∙ unmarked_open (get_or pos i 0) open' in
          let o : get_or pos i 0 ≢ 0 = eqb-false (get_or pos i 0) 0 e in
          let l : 0 < place_of standing i = pos_of (eq-zero-or-pos (place_of standing i)) (λ f. o (sym z ∙ f)) in
          let k = R.heap.held i l in
          (omega arith, omega (arith, k.0), R.heap.room)
        where
          pos_of : (place_of standing i ≡ 0) ⊎ (0 < place_of standing i) → (place_of standing i ≡ 0 → ⊥) → 0 < place_of standing i
          pos_of (inl e) f = absurd (f e)
          pos_of (inr l) f = l

-- a new row enters at the last place, and moves up from there
insert_at : (d : List Float) (i : ℕ) (h : Heap) → insert d i h ≡ update d i (set_place h i (h.len + 1) (h.len + 1))
unfolding insert
insert_at d i h = refl

-- marks stay where rows with places keep one and the others stay as they are
marks_kept : (a b : ℕ) → (0 < unmarked a → 0 < unmarked b) → (unmarked a ≡ 0 → b ≡ a) → eqb b none ≡ eqb a none
marks_kept a b f g = go (eq-zero-or-pos (unmarked a))
  where
    go : (unmarked a ≡ 0) ⊎ (0 < unmarked a) → eqb b none ≡ eqb a none
    go (inl e) = ap (λ (x : ℕ). eqb x none) (g e)
    go (inr l) = placed_open b (f l) ∙ sym (placed_open a l)

-- ---- the definition's step, at a row and its column
abbrev relax_at : ℕ → ℕ → Float → ℕ → ℕ → Tree → Tree
relax_at i jj x j k t = record {
  d = set t.d i x;
  heap = cond (eqb (place_of t.heap i) 0) (insert (set t.d i x) i t.heap) (update (set t.d i x) i t.heap);
  pr = set t.pr jj j;
  out = set t.out jj k;
  touched = cond (eq (get_or t.d i nan) rinf) (t.touched ++ (i ∷ [])) t.touched;
  popped = t.popped;
  csp = t.csp;
  isp = t.isp;
  jsp = t.jsp;
  peak = cond (eqb (place_of t.heap i) 0) (larger t.peak (t.heap.len + 1)) t.peak;
  stats = t.stats;
}

relax_at_lem : (g : CostGraph) (iperm : List ℕ) (x : Float) (j k : ℕ) (t : Tree) → relax g iperm x j k t ≡ relax_at (row_of g.pattern k)
    (get_or iperm (row_of g.pattern k) 0) x j k t
unfolding relax
relax_at_lem g iperm x j k t = refl

-- the words before the row moves up in the heap
abbrev pub relinked : ℕ → (w pos : List ℕ) → Frontier → ℕ → ℕ → ℕ → List ℕ
relinked n w pos frontier i j k = set (set (touch_words n w pos frontier i) (4 * n + get_or (touch_words n w pos frontier i) i 0) j)
    (5 * n + get_or (touch_words n w pos frontier i) i 0) k

module _ (n : ℕ) (w pos : List ℕ) (keys d : List Float) (frontier : Frontier) (i : ℕ) (x : Float) (j k : ℕ) (R : RelaxReady n w pos keys d frontier i j k) where
  pub column_same : get_or (touch_words n w pos frontier i) i 0 ≡ get_or w i 0
  column_same = touch_word n w pos frontier i R.touching i R.touching.row

  column_below_lem : get_or (touch_words n w pos frontier i) i 0 < n
  column_below_lem = rw column_same R.column

  relinked_rows : drop (11 * n) (relinked n w pos frontier i j k) ≡ drop (11 * n) w
  relinked_rows =
      rows_front_lem n (set (touch_words n w pos frontier i) (4 * n + get_or (touch_words n w pos frontier i) i 0) j) pos
      (5 * n + get_or (touch_words n w pos frontier i) i 0) k (omega (arith, column_below_lem))
      ∙ rows_front_lem n (touch_words n w pos frontier i) pos (4 * n + get_or (touch_words n w pos frontier i) i 0) j (omega (arith, column_below_lem))
      ∙ touch_rows n w pos frontier i R.touching

  pub relinked_ready : Ready (length (touch_places pos frontier i)) (drop (11 * n) (relinked n w pos frontier i j k)) (touch_places pos frontier i) keys
  unfolding heap_in
  relinked_ready =
      let e = touch_length n w pos frontier i R.touching in
      rw (e, relinked_rows) (ready n (heap_in n w pos frontier.len) (touch_places pos frontier i) keys R.touching.heap e R.key_count
      (omega (arith, R.touching.workspace.small)))

  pub relinked_place : (i < length (touch_places pos frontier i)) × (1 ≤ get_or (touch_places pos frontier i) i 0)
      × (get_or (touch_places pos frontier i) i 0 ≤ length (touch_places pos frontier i))
  relinked_place = let p = touch_place n w pos frontier i R.touching R.open' in let e = touch_length n w pos frontier i R.touching in
      (omega (arith, R.touching.row), p.0, omega arith)

  module _ (w' heap' pos' : List ℕ) (keys' : List Float) (front' : take (11 * n) w' ≡ take (11 * n) (relinked n w pos frontier i j k))
      (back : drop (11 * n) w' ≡ heap')
      (B : Updated i x (drop (11 * n) (relinked n w pos frontier i j k)) heap' (touch_places pos frontier i) pos' keys keys') where
    front : (r : ℕ) → r < 11 → region r n w' ≡ region r n (relinked n w pos frontier i j k)
    front r h = region_front r n (11 * n) (relinked n w pos frontier i j k) w' (region_ends r 11 n h) front'

    kept : (r : ℕ) → r < 11 → (r < 4) ⊎ (4 < r) → (r < 5) ⊎ (5 < r) → (r < 6) ⊎ (6 < r) → region r n w' ≡ region r n w
    kept r h a b c =
        front r h ∙ region_apart r n (set (touch_words n w pos frontier i) (4 * n + get_or (touch_words n w pos frontier i) i 0) j) 5
        (get_or (touch_words n w pos frontier i) i 0) k column_below_lem b
        ∙ region_apart r n (touch_words n w pos frontier i) 4 (get_or (touch_words n w pos frontier i) i 0) j column_below_lem a
        ∙ touch_region n w pos frontier i R.touching r c

    low : (r : ℕ) → r < 4 → region r n w' ≡ region r n w
    low r h = kept r (omega arith) (inl h) (inl (omega arith)) (inl (omega arith))

    high : (r : ℕ) → 6 < r → r < 11 → region r n w' ≡ region r n w
    high r h l = kept r l (inr (omega arith)) (inr (omega arith)) (inr h)

    pr_now : region 4 n w' ≡ set (region 4 n w) (get_or w i 0) j
    pr_now =
        front 4 (lit< tt) ∙ region_apart 4 n (set (touch_words n w pos frontier i) (4 * n + get_or (touch_words n w pos frontier i) i 0) j) 5
        (get_or (touch_words n w pos frontier i) i 0) k column_below_lem (inl (lit< tt))
        ∙ region_set 4 n (touch_words n w pos frontier i) (get_or (touch_words n w pos frontier i) i 0) j column_below_lem
        ∙ rw (touch_region n w pos frontier i R.touching 4 (inl (lit< tt)), column_same)

    out_now : region 5 n w' ≡ set (region 5 n w) (get_or w i 0) k
    out_now =
        front 5 (lit< tt) ∙ region_set 5 n (set (touch_words n w pos frontier i) (4 * n + get_or (touch_words n w pos frontier i) i 0) j)
        (get_or (touch_words n w pos frontier i) i 0) k column_below_lem
        ∙ rw (
          region_apart 5 n (touch_words n w pos frontier i) 4 (get_or (touch_words n w pos frontier i) i 0) j column_below_lem (inr (lit< tt)),
          touch_region n w pos frontier i R.touching 5 (inl (lit< tt)),
          column_same,
        )

    touched_front : region 6 n w' ≡ region 6 n (touch_words n w pos frontier i)
    touched_front =
        front 6 (lit< tt) ∙ region_apart 6 n (set (touch_words n w pos frontier i) (4 * n + get_or (touch_words n w pos frontier i) i 0) j) 5
        (get_or (touch_words n w pos frontier i) i 0) k column_below_lem (inr (lit< tt))
        ∙ region_apart 6 n (touch_words n w pos frontier i) 4 (get_or (touch_words n w pos frontier i) i 0) j column_below_lem (inr (lit< tt))

    abbrev h : Heap
    h = heap_in n w pos frontier.len

    -- what the heap's step gives, from the keys with the row's place open
    module _ (pos₁ : List ℕ) (len₁ : ℕ) (is : touch_places pos frontier i ≡ pos₁) (p1 : 1 ≤ get_or pos₁ i 0) (pl : get_or pos₁ i 0 ≤ len₁) (ln : len₁ ≤ n)
        (K : Keyed (set d i x) len₁ (get_or pos₁ i 0) (drop (11 * n) w) keys) where
      held : Holds (set d i x) heap' pos' keys' len₁ (update (set d i x) i (heap_of (drop (11 * n) w) pos₁ len₁))
      held = (rw (relinked_rows, is) at B) (set d i x) len₁ pl (get_or-set_same d i x nan (omega (arith, R.d_count, R.touching.row))) K

      stepped : heap_in n w' pos' len₁ ≡ update (set d i x) i (mapped unmarked (heap_of (drop (11 * n) w) pos₁ len₁))
      unfolding heap_in
      stepped =
          (λ z. record { heap = back z; pos = map unmarked pos'; len = len₁ }) ∙ ap (mapped unmarked) held.same
          ∙ update_mapped unmarked n unmarked_zero (λ p a b. unmarked_small p (omega (arith, R.touching.workspace.small))) (set d i x) i
          (heap_of (drop (11 * n) w) pos₁ len₁) p1 (omega arith)

      keyed_now : Keyed (set d i x) len₁ 0 (drop (11 * n) w') keys'
      keyed_now = rw back held.keyed

      -- rows that have no place keep what they have
      aside : (q : ℕ) → q ≢ i → ((p : ℕ) → 1 ≤ p → p < get_or pos₁ i 0 → get_or (drop (11 * n) w) p 0 ≢ q) → get_or pos' q 0 ≡ get_or pos₁ q 0
      aside q o f = ap (λ (a : Heap). place_of a q) held.same ∙ update_others (set d i x) i q (heap_of (drop (11 * n) w) pos₁ len₁) o f

    -- a row without a place is at no place
    no_place : (q p : ℕ) → unmarked (get_or pos q 0) ≡ 0 → 1 ≤ p → p ≤ frontier.len → get_or (drop (11 * n) w) p 0 ≢ q
    unfolding heap_in
    no_place q p z a b e =
        let f = R.touching.heap.placed p a b in
        let g : place_of h q ≡ p = sym (ap (place_of h) e) ∙ f in
        let u : place_of h q ≡ 0 = place_in n w pos frontier.len q ∙ z in
        omega arith

    -- the heap in memory is h', the marks are as they were, and the keys stand beside the places
    record Moved (len' : ℕ) (h' : Heap) : Type 0 where
      heap : heap_in n w' pos' len' ≡ h'
      marks : (q : ℕ) → q < n → eqb (get_or pos' q 0) none ≡ eqb (get_or pos q 0) none
      keyed : Keyed (set d i x) len' 0 (drop (11 * n) w') keys'

    -- the row has a place in it
    within : (len' : ℕ) (h' : Heap) → heap_in n w' pos' len' ≡ h' → (q : ℕ) → Within h' q → 0 < unmarked (get_or pos' q 0)
    within len' h' e q l = subst (λ (p : ℕ). 0 < p) (sym (ap (λ (a : Heap). place_of a q) e) ∙ place_in n w' pos' len' q) l

    opened : Keyed (set d i x) frontier.len (place_of h i) (drop (11 * n) w) keys
    unfolding heap_in
    opened = keyed_opens n d i x h keys R.touching.heap R.keyed

    new_moved : eqb (get_or pos i 0) 0 ≡ true → Moved (frontier.len + 1) (insert (set d i x) i h)
    unfolding heap_in
    new_moved t =
        let z : get_or pos i 0 ≡ 0 = eqb-true (get_or pos i 0) 0 t in
        let s = room n w pos frontier i R.touching t in
        let out : place_of h i ≡ 0 = place_in n w pos frontier.len i ∙ ap unmarked z ∙ unmarked_zero in
        let own : get_or (set pos i (frontier.len + 1)) i 0 ≡ frontier.len + 1 =
        get_or-set_same pos i (frontier.len + 1) 0 (omega (arith, R.touching.places, R.touching.row)) in
        let is : touch_places pos frontier i ≡ set pos i (frontier.len + 1) = rw t refl in
        let K : Keyed (set d i x) (frontier.len + 1) (get_or (set pos i (frontier.len + 1)) i 0) (drop (11 * n) w) keys =
        rw own (keyed_enters (set d i x) frontier.len (drop (11 * n) w) keys (rw out at opened)) in
        let p1 : 1 ≤ get_or (set pos i (frontier.len + 1)) i 0 = omega arith in
        let pl : get_or (set pos i (frontier.len + 1)) i 0 ≤ frontier.len + 1 = omega arith in
        let ln : frontier.len + 1 ≤ n = omega arith in
        let f : map unmarked (set pos i (frontier.len + 1)) ≡ set (map unmarked pos) i (frontier.len + 1) =
        map-set unmarked pos i (frontier.len + 1) ∙ ap (set (map unmarked pos) i)
        (unmarked_small (frontier.len + 1) (omega (arith, R.touching.workspace.small))) in
        let e : heap_in n w' pos' (frontier.len + 1) ≡ insert (set d i x) i h =
        stepped (set pos i (frontier.len + 1)) (frontier.len + 1) is p1 pl ln K ∙ ap (update (set d i x) i) (entry f) ∙ sym (insert_at (set d i x) i h) in
        let rows : WithRow i h (insert (set d i x) i h) = insert_rows n (set d i x) i h R.touching.heap R.touching.row out in
        record {
          heap = e;
          marks = λ q b. each_mark z own is p1 pl ln K e rows q (ℕ_discrete q i);
          keyed = keyed_now (set pos i (frontier.len + 1)) (frontier.len + 1) is p1 pl ln K;
        }
      where
        entry : map unmarked (set pos i (frontier.len + 1)) ≡ set (map unmarked pos) i (frontier.len + 1)
            → mapped unmarked (heap_of (drop (11 * n) w) (set pos i (frontier.len + 1)) (frontier.len + 1)) ≡ set_place h i (frontier.len + 1)
            (frontier.len + 1)
        entry f = unfold set_place in λ z. record { heap = drop (11 * n) w; pos = f z; len = frontier.len + 1 }

        each_mark : get_or pos i 0 ≡ 0 → get_or (set pos i (frontier.len + 1)) i 0 ≡ frontier.len + 1 → touch_places pos frontier i ≡ set pos i
            (frontier.len + 1) → 1 ≤ get_or (set pos i (frontier.len + 1)) i 0 → get_or (set pos i (frontier.len + 1)) i 0 ≤ frontier.len + 1
            → frontier.len + 1 ≤ n
            → Keyed (set d i x) (frontier.len + 1) (get_or (set pos i (frontier.len + 1)) i 0) (drop (11 * n) w) keys
            → heap_in n w' pos' (frontier.len + 1) ≡ insert (set d i x) i h → WithRow i h (insert (set d i x) i h) → (q : ℕ) → Dec (q ≡ i)
            → eqb (get_or pos' q 0) none ≡ eqb (get_or pos q 0) none
        each_mark z own is p1 pl ln K e rows q (yes f) =
            rw f (placed_open (get_or pos' i 0) (within (frontier.len + 1) (insert (set d i x) i h) e i rows.enters)
            ∙ sym (ne_eqb (get_or pos i 0) none (λ g. (let y : ⊥ = omega arith in absurd y))))
        each_mark z own is p1 pl ln K e rows q (no o) =
            marks_kept (get_or pos q 0) (get_or pos' q 0)
            (λ l. within (frontier.len + 1) (insert (set d i x) i h) e q (rows.stays q (rw (place_in n w pos frontier.len q) l)))
            (λ u. aside (set pos i (frontier.len + 1)) (frontier.len + 1) is p1 pl ln K q o (λ p a b. no_place q p u a (omega arith))
            ∙ get_or-set_other pos i q (frontier.len + 1) 0 o)

    old_moved : eqb (get_or pos i 0) 0 ≡ false → Moved frontier.len (update (set d i x) i h)
    unfolding heap_in
    old_moved t =
        let own : place_of h i ≡ get_or pos i 0 = place_in n w pos frontier.len i ∙ unmarked_open (get_or pos i 0) R.open' in
        let is : touch_places pos frontier i ≡ pos = rw t refl in
        let is-len : (touch_frontier pos frontier i).len ≡ frontier.len = rw t refl in
        let b = touch_place n w pos frontier i R.touching R.open' in
        let p1 : 1 ≤ get_or pos i 0 = rw is at b.0 in
        let pl : get_or pos i 0 ≤ frontier.len = rw (is, is-len) at b.1 in
        let ln : frontier.len ≤ n = R.touching.heap.room in
        let K : Keyed (set d i x) frontier.len (get_or pos i 0) (drop (11 * n) w) keys = rw own at opened in
        let e : heap_in n w' pos' frontier.len ≡ update (set d i x) i h = stepped pos frontier.len is p1 pl ln K in
        let rows : SameRows h (update (set d i x) i h) = update_rows n (set d i x) i h R.touching.heap (omega arith) in
        record {
          heap = e;
          marks = λ q c. marks_kept (get_or pos q 0) (get_or pos' q 0)
              (λ l. within frontier.len (update (set d i x) i h) e q (rows.stays q (rw (place_in n w pos frontier.len q) l)))
              (λ u. aside pos frontier.len is p1 pl ln K q
              (λ f. (let y : get_or pos i 0 ≡ 0 =
              sym (unmarked_open (get_or pos i 0) R.open') ∙ subst (λ (a : ℕ). unmarked (get_or pos a 0) ≡ 0) f u in omega arith))
              (λ p a c. no_place q p u a (omega arith)));
          keyed = keyed_now pos frontier.len is p1 pl ln K;
        }

    abbrev more_frontier : Frontier
    more_frontier = record {
      csp = frontier.csp;
      isp = frontier.isp;
      jsp = frontier.jsp;
      len = frontier.len + 1;
      touched =
          frontier.touched + 1;
      popped = frontier.popped;
      peak = larger frontier.peak (frontier.len + 1);
    }

    -- what depends on whether the row is new
    split : (stats : HungarianStats) → tree_of n w' pos' (set d i x) (touch_frontier pos frontier i) stats ≡ relax_at i (get_or w i 0) x j k
        (tree_of n w pos d frontier stats)
    unfolding tree_of heap_in
    split stats =
        rw (place_in n w pos frontier.len i, unmarked_open (get_or pos i 0) R.open', R.first)
        (go (eqb (get_or pos i 0) 0) (spared n w pos frontier i R.touching) (λ t. (new_moved t).heap) (λ t. (old_moved t).heap) touched_front)
      where
        go : (b : Bool) → (b ≡ true → frontier.touched < n) → (b ≡ true → heap_in n w' pos' (frontier.len + 1) ≡ insert (set d i x) i h)
            → (b ≡ false → heap_in n w' pos' frontier.len ≡ update (set d i x) i h) → region 6 n w' ≡ region 6 n (cond b (noted n w frontier i) w)
            → tree_of n w' pos' (set d i x) (cond b more_frontier frontier) stats
            ≡ record {
              d = set d i x;
              heap = cond b (insert (set d i x) i h) (update (set d i x) i h);
              pr = set (region 4 n w) (get_or w i 0) j;
              out = set (region 5 n w) (get_or w i 0) k;
              touched = cond b (take frontier.touched (region 6 n w) ++ (i ∷ [])) (take frontier.touched (region 6 n w));
              popped = take frontier.popped (region 7 n w);
              csp = frontier.csp;
              isp = frontier.isp;
              jsp = frontier.jsp;
              peak = cond b (larger frontier.peak (frontier.len + 1)) frontier.peak;
              stats = stats;
            }
        go true f v u t = λ z. record {
          d = set d i x;
          heap = v refl z;
          pr = pr_now z;
          out = out_now z;
          touched = (ap (take (frontier.touched + 1)) t ∙ noted_touched n w frontier i (f refl) (omega (arith, R.touching.workspace.words))) z;
          popped = take frontier.popped (high 7 (lit< tt) (lit< tt) z);
          csp = frontier.csp;
          isp = frontier.isp;
          jsp = frontier.jsp;
          peak = larger frontier.peak (frontier.len + 1);
          stats = stats;
        }
        go false f v u t = λ z. record {
          d = set d i x;
          heap = u refl z;
          pr = pr_now z;
          out = out_now z;
          touched = take frontier.touched (t z);
          popped = take frontier.popped (high 7 (lit< tt) (lit< tt) z);
          csp = frontier.csp;
          isp = frontier.isp;
          jsp = frontier.jsp;
          peak = frontier.peak;
          stats = stats;
        }

    pub relax_done : Relaxes n w w' pos pos' keys' d (set d i x) frontier (touch_frontier pos frontier i) i x j k
    relax_done = record {
      tree = λ g stats e.
          split stats
          ∙ sym (relax_at_lem g (region iperm_at n w) x j k (tree_of n w pos d frontier stats) ∙ rw (e, iperm_at_lem) refl);
      same = record { iperm = low 0 (lit< tt); jperm = low 1 (lit< tt); marks = all_marks (eqb (get_or pos i 0) 0) refl };
      counts = touch_kept (eqb (get_or pos i 0) 0) (spared n w pos frontier i R.touching);
      keyed = all_keyed (eqb (get_or pos i 0) 0) refl;
    }
      where
        all_marks : (b : Bool) → eqb (get_or pos i 0) 0 ≡ b → (q : ℕ) → q < n → eqb (get_or pos' q 0) none ≡ eqb (get_or pos q 0) none
        all_marks true t = (new_moved t).marks
        all_marks false t = (old_moved t).marks

        all_keyed : (b : Bool) → eqb (get_or pos i 0) 0 ≡ b → Keyed (set d i x) (touch_frontier pos frontier i).len 0 (drop (11 * n) w') keys'
        all_keyed true t = rw t (new_moved t).keyed
        all_keyed false t = rw t (old_moved t).keyed

        touch_kept : (b : Bool) → (b ≡ true → frontier.touched < n) → Kept n frontier (cond b more_frontier frontier)
        touch_kept true f = record { popped = refl; touched = λ h. omega (arith, f refl) }
        touch_kept false f = record { popped = refl; touched = λ h. h }

        iperm_at_lem : get_or (region iperm_at n w) i 0 ≡ get_or w i 0
        iperm_at_lem = region_at iperm_at n w i 0 R.touching.row ∙ ap (λ (p : ℕ). get_or w p 0) (let e : iperm_at * n + i ≡ i = omega arith in e)

-- ---- the same in the words that the code has: w₁ and pos₁ after the row is noted, and the part from 11 n on lent to the heap
module _ (n : ℕ) (w pos : List ℕ) (keys d : List Float) (frontier : Frontier) (i : ℕ) (x : Float) (j k : ℕ)
    (R : RelaxReady n w pos keys d frontier i j k) (w₁ pos₁ : List ℕ) (ew : w₁ ≡ touch_words n w pos frontier i)
    (ep : pos₁ ≡ touch_places pos frontier i) (long : length w₁ ≡ length w) where
  abbrev linked : List ℕ → List ℕ
  linked l = set (set l (4 * n + get_or l i 0) j) (5 * n + get_or l i 0) k

  abbrev W : List ℕ
  W = set (set w₁ (4 * n + get_or w₁ i 0) j) (5 * n + get_or w₁ i 0) k

  words : W ≡ relinked n w pos frontier i j k
  words = ap linked ew

  pub code_column : (get_or w₁ i 0 < n) × (length w₁ ≡ 12 * n + 1)
  code_column = (subst (λ (l : List ℕ). get_or l i 0 < n) (sym ew) (column_below_lem n w pos keys d frontier i x j k R), long ∙ R.touching.workspace.words)

  reaches : 11 * n ≤ length W
  reaches = simp length-set (omega (arith, code_column))

  part : take (length W - 11 * n) (drop (11 * n) W) ≡ drop (11 * n) (relinked n w pos frontier i j k)
  part = part_is W (11 * n) (length W) refl reaches ∙ ap (drop (11 * n)) words

  pub code_ready : Ready (length pos₁) (take (length W - 11 * n) (drop (11 * n) W)) pos₁ keys × (i < length pos₁) × (1 ≤ get_or pos₁ i 0)
      × (get_or pos₁ i 0 ≤ length pos₁)
  code_ready =
      let p = relinked_place n w pos keys d frontier i x j k R in
      let r : Ready (length pos₁) (drop (11 * n) (relinked n w pos frontier i j k)) pos₁ keys =
      subst (λ (l : List ℕ). Ready (length l) (drop (11 * n) (relinked n w pos frontier i j k)) l keys) (sym ep)
      (relinked_ready n w pos keys d frontier i x j k R) in
      let q : (i < length pos₁) × (1 ≤ get_or pos₁ i 0) × (get_or pos₁ i 0 ≤ length pos₁) =
      subst (λ (l : List ℕ). (i < length l) × (1 ≤ get_or l i 0) × (get_or l i 0 ≤ length l)) (sym ep) p in
      (subst (λ (l : List ℕ). Ready (length pos₁) l pos₁ keys) (sym part) r, q.0, q.1, q.2)

  pub code_done : (heap' pos' : List ℕ) (keys' : List Float) (r : Frontier) → r ≡ touch_frontier pos frontier i
      → Updated i x (take (length W - 11 * n) (drop (11 * n) W)) heap' pos₁ pos' keys keys'
      → Relaxes n w (take (11 * n) W ++ (heap' ++ drop (length W - 11 * n) (drop (11 * n) W))) pos pos' keys' d (set d i x) frontier r i x j k
  code_done heap' pos' keys' r er B =
      subst (λ (f : Frontier). Relaxes n w (take (11 * n) W ++ (heap' ++ drop (length W - 11 * n) (drop (11 * n) W))) pos pos' keys' d
      (set d i x) frontier f i x j k) (sym er)
      (relax_done n w pos keys d frontier i x j k R (take (11 * n) W ++ (heap' ++ drop (length W - 11 * n) (drop (11 * n) W))) heap' pos' keys'
      (part_take W (11 * n) (length W) refl reaches heap' ∙ ap (take (11 * n)) words) (part_drop W (11 * n) (length W) refl reaches heap') again)
    where
      again : Updated i x (drop (11 * n) (relinked n w pos frontier i j k)) heap' (touch_places pos frontier i) pos' keys keys'
      again = subst (λ (l : List ℕ). Updated i x (drop (11 * n) (relinked n w pos frontier i j k)) heap' l pos' keys keys') ep
          (subst (λ (l : List ℕ). Updated i x l heap' pos₁ pos' keys keys') part B)
