-- The nearest row is popped: the heap's step and two stores are a `taken` of the tree, and the row is marked.
use mathlib.Core.Path.{◌≡◌, refl, sym, ap, ◌∙◌, subst}
use mathlib.Core.Logic.{◌⊎◌, inl, inr, ◌≢◌}
use mathlib.Core.Bool.{Bool, true, false, ◌||◌}
use mathlib.Core.List.{List, [], ◌∷◌, ◌++◌, map}
use Prim.Native.Nat.{ℕ, ◌+◌, ◌-◌, ◌*◌, ◌≤◌, ◌<◌}
use native.Mathlib.Numerals.{add-one}
use native.Mathlib.Decide.{ℕ_discrete}
use native.Mathlib.Nat.{eq-zero-or-pos}
use native.Mathlib.Omega.{arith}
use borrow.Author.Tests.{ne_eqb}
use lib.Dec.{T, eqb, lit<}
use lib.ListN.{length, get_or, set, take, drop}
use lib.Seq.{get_or-set_same, get_or-set_other, take-suc-set}
use lib.Ieee.{Float}
use Rattle.limits.specs.Limits.{none}
use Rattle.index_heap.specs.IndexHeap.{Heap, row_at, place_of, pop}
use Rattle.index_heap.specs.inner.Invariant.{WithoutRow}
use Rattle.index_heap.specs.inner.Slices.{heap_of, Ready, Keyed, Popped}
use Rattle.index_heap.proofs.Keys.{ready}
use Rattle.index_heap.proofs.Rows.{pop_rows}
use Rattle.index_heap.proofs.Marks.{mapped, map-set, pop_mapped, pop_others}
use Rattle.hungarian.specs.inner.Layout.{region}
use Rattle.hungarian.specs.Search.{among}
use Rattle.hungarian.proofs.Regions.{region_ends, region_length, region_set, region_apart, region_front}
use Rattle.hungarian.proofs.Rows.{among_new}
use Rattle.hungarian_path.specs.declared.Frontier.{Frontier}
use Rattle.hungarian_path.specs.inner.Views.{unmarked, heap_in, tree_of, Flagged}
use Rattle.hungarian_path.specs.inner.StepsGrow.{PopReady, Pops, PopsAll}
use Rattle.hungarian_path.proofs.Memory.{rows_front_lem, part_is, part_take, part_drop, unmarked_zero, unmarked_none, unmarked_small, placed_open}
use Rattle.hungarian_path.proofs.Memory.{place_in, set_own}

-- ---- one more popped row
among_other : (i q : ℕ) (l : List ℕ) → i ≢ q → among i (l ++ (q ∷ [])) ≡ among i l
unfolding among
among_other i q [] o = ap (λ (b : Bool). b || false) (ne_eqb q i (λ e. o (sym e)))
among_other i q (x ∷ l) o = ap (λ (b : Bool). eqb x i || b) (among_other i q l o)

is_true : (b : Bool) → T b → b ≡ true
is_true true t = refl
is_true false t = absurd t

module _ (n : ℕ) (w pos : List ℕ) (keys : List Float) (frontier : Frontier) (R : PopReady n w pos keys frontier) where
  abbrev h : Heap
  h = heap_in n w pos frontier.len

  pop_ready : Ready (length pos) (drop (11 * n) w) pos keys
  unfolding heap_in
  pop_ready = rw R.places (ready n h pos keys R.heap R.places R.key_count (omega (arith, R.workspace.small)))

  len_room : frontier.len ≤ length pos
  unfolding heap_in
  len_room = rw R.places R.heap.room

  top_below : get_or (drop (11 * n) w) 1 0 < n
  unfolding heap_in
  top_below = R.heap.rows 1 (omega arith) (omega (arith, R.some, R.heap.room))

  -- a row without a place is at no place
  no_place : (q p : ℕ) → unmarked (get_or pos q 0) ≡ 0 → 1 ≤ p → p ≤ frontier.len → get_or (drop (11 * n) w) p 0 ≢ q
  unfolding heap_in
  no_place q p z a b e =
      let f = R.heap.placed p a b in
      let g : place_of h q ≡ p = sym (ap (place_of h) e) ∙ f in
      let u : place_of h q ≡ 0 = place_in n w pos frontier.len q ∙ z in
      omega arith

  module _ (w₁ heap' pos' : List ℕ) (keys' : List Float) (q : ℕ) (front' : take (11 * n) w₁ ≡ take (11 * n) w) (back : drop (11 * n) w₁ ≡ heap')
      (long : length pos' ≡ length pos) (B : Popped frontier.len (drop (11 * n) w) heap' pos pos' keys keys' q) where
    row_below : q < n
    row_below = rw B.answer top_below

    row_is : q ≡ row_at h 1
    unfolding heap_in
    row_is = B.answer

    front : (r : ℕ) → r < 11 → region r n w₁ ≡ region r n w
    front r h = region_front r n (11 * n) w w₁ (region_ends r 11 n h) front'

    kept : (r : ℕ) → r < 7 → region r n (set w₁ (7 * n + frontier.popped) q) ≡ region r n w
    kept r h = region_apart r n w₁ 7 frontier.popped q R.room (inl h) ∙ front r (omega arith)

    rows_now : drop (11 * n) (set w₁ (7 * n + frontier.popped) q) ≡ heap'
    rows_now = rows_front_lem n w₁ pos (7 * n + frontier.popped) q (omega (arith, R.room)) ∙ back

    module _ (d : List Float) (K : Keyed d frontier.len 0 (drop (11 * n) w) keys) where
      without : WithoutRow (row_at h 1) h (pop d h)
      unfolding heap_in
      without = pop_rows n d h R.heap R.some

      -- what is left, before the mark
      left : mapped unmarked (heap_of heap' pos' (frontier.len - 1)) ≡ pop d h
      unfolding heap_in
      left = ap (mapped unmarked) (B.left d K).same ∙ pop_mapped unmarked n unmarked_zero
          (λ p a b. unmarked_small p (omega (arith, R.workspace.small))) d (heap_of (drop (11 * n) w) pos frontier.len) R.some R.heap.room

      -- the mark stands for the place that the row has no more
      marked : map unmarked (set pos' q none) ≡ map unmarked pos'
      marked =
          map-set unmarked pos' q none ∙ ap (set (map unmarked pos') q) unmarked_none
          ∙ set_own (map unmarked pos') q 0 (ap (λ (a : Heap). place_of a q) left ∙ ap (place_of (pop d h)) row_is ∙ without.leaves)

      heap_now : heap_in n (set w₁ (7 * n + frontier.popped) q) (set pos' q none) (frontier.len - 1) ≡ pop d h
      unfolding heap_in
      heap_now = (λ z. record { heap = rows_now z; pos = marked z; len = frontier.len - 1 }) ∙ left

      heap_left : heap_in n w₁ pos' (frontier.len - 1) ≡ pop d h
      unfolding heap_in
      heap_left = (λ z. record { heap = back z; pos = map unmarked pos'; len = frontier.len - 1 }) ∙ left

      within : (i : ℕ) → 0 < place_of (pop d h) i → eqb (get_or pos' i 0) none ≡ false
      within i l = placed_open (get_or pos' i 0)
          (subst (λ (p : ℕ). 0 < p) (sym (ap (λ (a : Heap). place_of a i) heap_left) ∙ place_in n w₁ pos' (frontier.len - 1) i) l)

      -- another row's mark stays
      other_mark : (i : ℕ) → i ≢ q → eqb (get_or pos' i 0) none ≡ eqb (get_or pos i 0) none
      other_mark i o = go (eq-zero-or-pos (unmarked (get_or pos i 0)))
        where
          go : (unmarked (get_or pos i 0) ≡ 0) ⊎ (0 < unmarked (get_or pos i 0)) → eqb (get_or pos' i 0) none ≡ eqb (get_or pos i 0) none
          go (inl e) = ap (λ (a : Heap). eqb (place_of a i) none) (B.left d K).same ∙ ap (λ (x : ℕ). eqb x none)
              (pop_others d i (heap_of (drop (11 * n) w) pos frontier.len) R.some (λ p a b. no_place i p e a b))
          go (inr l) = within i (without.stays i (λ e. o (e ∙ sym row_is)) (rw (place_in n w pos frontier.len i) l)) ∙ sym (placed_open (get_or pos i 0) l)

    popped_now : take (frontier.popped + 1) (region 7 n (set w₁ (7 * n + frontier.popped) q)) ≡ take frontier.popped (region 7 n w) ++ (row_at h 1 ∷ [])
    popped_now =
        rw (region_set 7 n w₁ frontier.popped q R.room, front 7 (lit< tt), add-one, ← row_is)
        (take-suc-set (region 7 n w) frontier.popped q (rw (region_length 7 n w (omega (arith, R.workspace.words))) R.room))

    flags_now : (d : List Float) → Keyed d frontier.len 0 (drop (11 * n) w) keys → (popped : List ℕ) → Flagged n pos popped
        → Flagged n (set pos' q none) (popped ++ (q ∷ []))
    flags_now d K popped F i b = go (ℕ_discrete i q)
      where
        go : Dec (i ≡ q) → eqb (get_or (set pos' q none) i 0) none ≡ among i (popped ++ (q ∷ []))
        go (yes e) = rw (
          e,
          is_true (among q (popped ++ (q ∷ []))) (among_new q popped),
          get_or-set_same pos' q none 0
              (omega (arith, row_below, long, R.places)),
        ) refl
        go (no o) = ap (λ (x : ℕ). eqb x none) (get_or-set_other pos' q i none 0 o) ∙ other_mark d K i o ∙ F i b ∙ sym (among_other i q popped o)

    pop_done : (d : List Float) → Keyed d frontier.len 0 (drop (11 * n) w) keys → Pops n w (set w₁ (7 * n + frontier.popped) q) pos
        (set pos' q none) keys' d frontier
        (record {
          csp = frontier.csp;
          isp = frontier.isp;
          jsp = frontier.jsp;
          len = frontier.len - 1;
          touched = frontier.touched;
          popped =
              frontier.popped + 1;
          peak = frontier.peak;
        })
    unfolding tree_of
    pop_done d K = record {
      tree = λ stats. λ z. record {
        d = d;
        heap = heap_now d K z;
        pr = kept 4 (lit< tt) z;
        out = kept 5 (lit< tt) z;
        touched = take frontier.touched (kept 6 (lit< tt) z);
        popped = popped_now z;
        csp = frontier.csp;
        isp = frontier.isp;
        jsp = frontier.jsp;
        peak = frontier.peak;
        stats = stats;
      };
      iperm = kept 0 (lit< tt);
      jperm = kept 1 (lit< tt);
      flagged = λ popped F. subst (λ (a : ℕ). Flagged n (set pos' q none) (popped ++ (a ∷ []))) row_is (flags_now d K popped F);
      popped = refl;
      touched = refl;
      keyed = rw rows_now (B.left d K).keyed;
    }

-- ---- the same with the part from 11 n on lent to the heap
module _ (n : ℕ) (w pos : List ℕ) (keys : List Float) (frontier : Frontier) (R : PopReady n w pos keys frontier) where
  reaches : 11 * n ≤ length w
  reaches = omega (arith, R.workspace.words)

  part : take (length w - 11 * n) (drop (11 * n) w) ≡ drop (11 * n) w
  part = part_is w (11 * n) (length w) refl reaches

  pub code_asks : Ready (length pos) (take (length w - 11 * n) (drop (11 * n) w)) pos keys × (1 ≤ frontier.len) × (frontier.len ≤ length pos)
  code_asks = (subst (λ (l : List ℕ). Ready (length pos) l pos keys) (sym part) (pop_ready n w pos keys frontier R), R.some, len_room n w pos keys frontier R)

  module _ (heap' pos' : List ℕ) (keys' : List Float) (q : ℕ)
      (B : Popped frontier.len (take (length w - 11 * n) (drop (11 * n) w)) heap' pos pos' keys keys' q) where
    again : Popped frontier.len (drop (11 * n) w) heap' pos pos' keys keys' q
    again = subst (λ (l : List ℕ). Popped frontier.len l heap' pos pos' keys keys' q) part B

    pub code_row : q < n
    code_row = rw again.answer (top_below n w pos keys frontier R)

    abbrev after : List ℕ
    after = take (11 * n) w ++ (heap' ++ drop (length w - 11 * n) (drop (11 * n) w))

    pub code_popped : length pos' ≡ length pos → PopsAll n w (set after (7 * n + frontier.popped) q) pos (set pos' q none) keys keys' frontier
        (record {
          csp = frontier.csp;
          isp = frontier.isp;
          jsp = frontier.jsp;
          len = frontier.len - 1;
          touched = frontier.touched;
          popped =
              frontier.popped + 1;
          peak = frontier.peak;
        })
    code_popped long = pop_done n w pos keys frontier R after heap' pos' keys' q (part_take w (11 * n) (length w) refl reaches heap')
        (part_drop w (11 * n) (length w) refl reaches heap') long again
