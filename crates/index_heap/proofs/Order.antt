-- Where no position in the heap is NaN: update after a position was lowered, insert and pop keep the heap order, and the top has the least position.
-- On natural keys first: an exchange moves the one place at which the order may fail up, or down to the smaller child. Then along the chains of exchanges.
use mathlib.Core.Path.{◌≡◌, refl, sym, ap, subst, ◌∙◌}
use mathlib.Core.Logic.{◌⊎◌, inl, inr}
use mathlib.Core.List.{List}
use mathlib.Core.Bool.{Bool, true, false, cond, ◌&&◌}
use Prim.Native.Nat.{ℕ, ◌+◌, ◌-◌, ◌*◌, ◌/◌, ◌≤◌, ◌<◌}
use native.Mathlib.Nat.{le_refl, le_of_lt, le_of_eq}
use native.Mathlib.Decide.{ℕ_discrete}
use native.Mathlib.Omega.{arith}
use lib.Arith.{bin_ind}
use lib.Dec.{leb, ltb}
use lib.ListN.{set}
use lib.Seq.{get_or-set_other}
use lib.Ieee.{Float, nan, lt, le}
use borrow.Author.Tests.{le-leb, leb-true, leb-false, ltb-true, ltb-false}
use Rattle.float64.specs.inner.Keys.{Ordered, position}
use Rattle.float64.proofs.Order.{lt_key, le_key}
use Rattle.index_heap.specs.IndexHeap.{Heap, row_at, place_of, key_of, set_row, set_place, update, insert, child_of, pop}
use Rattle.index_heap.specs.inner.Invariant.{Within, Inverse, Comparable, HeapOrder}
use Rattle.index_heap.proofs.Keys.{set_either}
use Rattle.index_heap.proofs.Steps.{child_range}
use Rattle.index_heap.proofs.Moves.{Exchanged, Rises, risen, rise, Sinks, sunk, sink}
use Rattle.index_heap.proofs.Rows.{row_within, update_rises, entered, new_row, old_rows, insert_rises, taken, first_row, later_rows, pop_sinks, pop_rows}

-- ---- on natural keys
-- k' has the values of k exchanged at p and q
record Exchange (p q : ℕ) (k k' : ℕ → ℕ) : Type 0 where
  first : k' p ≡ k q
  second : k' q ≡ k p
  others : (x : ℕ) → (x ≡ p → ⊥) → (x ≡ q → ⊥) → k' x ≡ k x

-- ordered but at p, whose children are not below its parent
record UpOrder (k : ℕ → ℕ) (len p : ℕ) : Type 0 where
  away : (q : ℕ) → 2 ≤ q → q ≤ len → (q ≡ p → ⊥) → k (q / 2) ≤ k q
  over : (q : ℕ) → 2 ≤ q → q ≤ len → q / 2 ≡ p → 2 ≤ p → k (p / 2) ≤ k q

-- ordered but below p, whose children are not below its parent
record DownOrder (k : ℕ → ℕ) (len p : ℕ) : Type 0 where
  away : (q : ℕ) → 2 ≤ q → q ≤ len → (q / 2 ≡ p → ⊥) → k (q / 2) ≤ k q
  over : (q : ℕ) → 2 ≤ q → q ≤ len → q / 2 ≡ p → 2 ≤ p → k (p / 2) ≤ k q

up_step : (k k' : ℕ → ℕ) (len p : ℕ) → 2 ≤ p → p ≤ len → Exchange p (p / 2) k k' → k p < k (p / 2) → UpOrder k len p → UpOrder k' len (p / 2)
up_step k k' len p p2 pl x less o =
    record {
      away = λ q a b e. away q a b e (ℕ_discrete q p) (ℕ_discrete (q / 2) p) (ℕ_discrete (q / 2) (p / 2));
      over =
          λ q a b e f. over q a b e f (ℕ_discrete q p);
    }
  where
    away : (q : ℕ) → 2 ≤ q → q ≤ len → (q ≡ p / 2 → ⊥) → Dec (q ≡ p) → Dec (q / 2 ≡ p) → Dec (q / 2 ≡ p / 2) → k' (q / 2) ≤ k' q
    away q a b e (yes f) g h = rw f (omega (arith, x.first, x.second))
    away q a b e (no f) (yes g) h = omega (arith, ap k' g, x.first, x.others q f e, o.over q a b g p2)
    away q a b e (no f) (no g) (yes h) = omega (arith, ap k' h, ap k h, x.second, x.others q f e, o.away q a b f)
    away q a b e (no f) (no g) (no h) = omega (arith, x.others (q / 2) g h, x.others q f e, o.away q a b f)

    over : (q : ℕ) → 2 ≤ q → q ≤ len → q / 2 ≡ p / 2 → 2 ≤ p / 2 → Dec (q ≡ p) → k' (p / 2 / 2) ≤ k' q
    over q a b e f g =
        let u : k' (p / 2 / 2) ≡ k (p / 2 / 2) = x.others (p / 2 / 2) (λ z. omega arith) (λ z. omega arith) in
        let v : k (p / 2 / 2) ≤ k (p / 2) = o.away (p / 2) f (omega arith) (λ z. omega arith) in
        go g u v
      where
        go : Dec (q ≡ p) → k' (p / 2 / 2) ≡ k (p / 2 / 2) → k (p / 2 / 2) ≤ k (p / 2) → k' (p / 2 / 2) ≤ k' q
        go (yes g) u v = omega (arith, ap k' g, x.first)
        go (no g) u v = omega (arith, ap k e, x.others q g (λ z. omega arith), o.away q a b g)

down_step : (k k' : ℕ → ℕ) (len p c : ℕ) → 1 ≤ p → c / 2 ≡ p → c ≤ len → Exchange p c k k' → k c < k p → ((q : ℕ) → q ≤ len → q / 2 ≡ p → k c ≤ k q)
    → DownOrder k len p → DownOrder k' len c
down_step k k' len p c p1 half cl x less least o =
    record { away = λ q a b e. away q a b e (ℕ_discrete q c) (ℕ_discrete (q / 2) p) (ℕ_discrete q p); over = over }
  where
    away : (q : ℕ) → 2 ≤ q → q ≤ len → (q / 2 ≡ c → ⊥) → Dec (q ≡ c) → Dec (q / 2 ≡ p) → Dec (q ≡ p) → k' (q / 2) ≤ k' q
    away q a b e (yes f) g h = rw f (omega (arith, ap k' half, x.first, x.second))
    away q a b e (no f) (yes g) h = omega (arith, ap k' g, x.first, x.others q (λ z. omega arith) f, least q b g)
    away q a b e (no f) (no g) (yes h) =
        omega (arith, ap k' h, x.first, x.others (q / 2) g e, ap (λ (z : ℕ). k (z / 2)) h, o.over c (omega arith) cl half (omega arith))
    away q a b e (no f) (no g) (no h) = omega (arith, x.others (q / 2) g e, x.others q h f, o.away q a b g)

    over : (q : ℕ) → 2 ≤ q → q ≤ len → q / 2 ≡ c → 2 ≤ c → k' (c / 2) ≤ k' q
    over q a b e f = omega (arith, ap k' half, x.first, x.others q (λ z. omega arith) (λ z. omega arith), ap k e, o.away q a b (λ z. omega arith))

-- ---- on doubles
key_at : List Float → Heap → ℕ → ℕ
key_at d g p = position (key_of d (row_at g p))

record Clean (d : List Float) (g : Heap) : Type 0 where
  ordered : (p : ℕ) → 1 ≤ p → p ≤ g.len → Ordered (key_of d (row_at g p))

clean : (n : ℕ) (d : List Float) (h : Heap) → Inverse n h → Comparable d h → Clean d h
clean n d h inv c = record { ordered = λ p a b. c.ordered (row_at h p) (row_within n h p inv a b) }

module _ (d : List Float) (g : Heap) (c : Clean d g) (p q : ℕ) (p1 : 1 ≤ p) (pl : p ≤ g.len) (q1 : 1 ≤ q) (ql : q ≤ g.len) where
  test_is : le (key_of d (row_at g p)) (key_of d (row_at g q)) ≡ leb (key_at d g p) (key_at d g q)
  unfolding key_at
  test_is = le_key (key_of d (row_at g p)) (key_of d (row_at g q)) (c.ordered p p1 pl) (c.ordered q q1 ql)

  at_most : le (key_of d (row_at g p)) (key_of d (row_at g q)) ≡ true → key_at d g p ≤ key_at d g q
  at_most t = leb-true (key_at d g p) (key_at d g q) (sym test_is ∙ t)

  above : le (key_of d (row_at g p)) (key_of d (row_at g q)) ≡ false → key_at d g q < key_at d g p
  above t = leb-false (key_at d g p) (key_at d g q) (sym test_is ∙ t)

  tests : key_at d g p ≤ key_at d g q → le (key_of d (row_at g p)) (key_of d (row_at g q)) ≡ true
  tests l = test_is ∙ le-leb (key_at d g p) (key_at d g q) l

  exchange : (g' : Heap) → Exchanged p q g g' → Exchange p q (key_at d g) (key_at d g')
  unfolding key_at
  exchange g' x = record {
    first = ap (λ (r : ℕ). position (key_of d r)) x.first;
    second = ap (λ (r : ℕ). position (key_of d r)) x.second;
    others =
        λ y a b. ap (λ (r : ℕ). position (key_of d r)) (x.others y a b);
  }

  clean_kept : (g' : Heap) → Exchanged p q g g' → Clean d g'
  clean_kept g' x = record { ordered = λ y a b. go y a (omega (arith, x.len)) (ℕ_discrete y p) (ℕ_discrete y q) }
    where
      go : (y : ℕ) → 1 ≤ y → y ≤ g.len → Dec (y ≡ p) → Dec (y ≡ q) → Ordered (key_of d (row_at g' y))
      go y a b (yes e) f = rw (e, x.first) (c.ordered q q1 ql)
      go y a b (no e) (yes f) = rw (f, x.second) (c.ordered p p1 pl)
      go y a b (no e) (no f) = rw (x.others y e f) (c.ordered y a b)

in_order : (d : List Float) (g : Heap) → Clean d g → ((q : ℕ) → 2 ≤ q → q ≤ g.len → key_at d g (q / 2) ≤ key_at d g q) → HeapOrder d g
in_order d g c o = record { parent = λ q a b. tests d g c (q / 2) q (omega arith) (omega arith) (omega arith) b (o q a b) }

by_key : (d : List Float) (h : Heap) → Clean d h → HeapOrder d h → (q : ℕ) → 2 ≤ q → q ≤ h.len → key_at d h (q / 2) ≤ key_at d h q
by_key d h c o q a b = at_most d h c (q / 2) q (omega arith) (omega arith) (omega arith) b (o.parent q a b)

rise_orders : {d : List Float} {p : ℕ} {g r : Heap} → Clean d g → 1 ≤ p → p ≤ g.len → UpOrder (key_at d g) g.len p → Rises d p g r → HeapOrder d r
rise_orders {d} c p1 pl o (risen {p = p} {g = g} t) = in_order d g c (λ q a b. go q a b (ℕ_discrete q p) t)
  where
    go : (q : ℕ) → 2 ≤ q → q ≤ g.len → Dec (q ≡ p) → (p ≤ 1) ⊎ (le (key_of d (row_at g (p / 2))) (key_of d (row_at g p)) ≡ true) → key_at d g (q / 2) ≤ key_at d g q
    go q a b (no e) s = o.away q a b e
    go q a b (yes e) (inl s) = absurd (omega arith)
    go q a b (yes e) (inr s) = rw e (at_most d g c (p / 2) p (omega arith) (omega arith) p1 pl s)
rise_orders {d} c p1 pl o (rise {p = p} {g = g} {g' = g'} l t x rest) =
    let q1 : 1 ≤ p / 2 = omega arith in
    let ql : p / 2 ≤ g.len = omega arith in
    let s : UpOrder (key_at d g') g.len (p / 2) = up_step (key_at d g) (key_at d g') g.len p l pl (exchange d g c p (p / 2) p1 pl q1 ql g' x)
    (above d g c (p / 2) p q1 ql p1 pl t) o in
    rise_orders (clean_kept d g c p (p / 2) p1 pl q1 ql g' x) q1 (omega (arith, x.len))
    (subst (λ (m : ℕ). UpOrder (key_at d g') m (p / 2)) (sym x.len) s) rest

-- no child has a smaller position than the chosen one
less_is : (d : List Float) (g : Heap) (p q : ℕ) → Ordered (key_of d (row_at g p)) → Ordered (key_of d (row_at g q)) → lt (key_of d (row_at g p))
    (key_of d (row_at g q)) ≡ ltb (key_at d g p) (key_at d g q)
unfolding key_at
less_is d g p q a b = lt_key (key_of d (row_at g p)) (key_of d (row_at g q)) a b

child_least : (d : List Float) (g : Heap) (p : ℕ) → Clean d g → 1 ≤ p → 2 * p ≤ g.len → (q : ℕ) → q ≤ g.len → q / 2 ≡ p
    → key_at d g (child_of d g p) ≤ key_at d g q
unfolding child_of
child_least d g p c p1 l q ql e = go (ltb (2 * p) g.len) refl (lt (key_of d (row_at g (2 * p + 1))) (key_of d (row_at g (2 * p)))) refl (ℕ_discrete q (2 * p))
  where
    test : 2 * p < g.len → ltb (key_at d g (2 * p + 1)) (key_at d g (2 * p)) ≡ lt (key_of d (row_at g (2 * p + 1))) (key_of d (row_at g (2 * p)))
    test m = sym (less_is d g (2 * p + 1) (2 * p) (c.ordered (2 * p + 1) (omega arith) (omega arith)) (c.ordered (2 * p) (omega arith) l))

    go : (b : Bool) → ltb (2 * p) g.len ≡ b → (t : Bool) → lt (key_of d (row_at g (2 * p + 1))) (key_of d (row_at g (2 * p))) ≡ t → Dec (q ≡ 2 * p)
        → key_at d g (cond (b && t) (2 * p + 1) (2 * p)) ≤ key_at d g q
    go true u true v (yes f) = rw f (le_of_lt (ltb-true (key_at d g (2 * p + 1)) (key_at d g (2 * p)) (test (ltb-true (2 * p) g.len u) ∙ v)))
    go true u true v (no f) = let m : q ≡ 2 * p + 1 = omega arith in rw m (le_refl (key_at d g (2 * p + 1)))
    go true u false v (yes f) = rw f (le_refl (key_at d g (2 * p)))
    go true u false v (no f) = let m : q ≡ 2 * p + 1 = omega arith in
        rw m (ltb-false (key_at d g (2 * p + 1)) (key_at d g (2 * p)) (test (ltb-true (2 * p) g.len u) ∙ v))
    go false u t v (yes f) = rw f (le_refl (key_at d g (2 * p)))
    go false u t v (no f) = absurd (omega (arith, ltb-false (2 * p) g.len u))

sink_orders : {d : List Float} {p : ℕ} {g r : Heap} → Clean d g → 1 ≤ p → p ≤ g.len → DownOrder (key_at d g) g.len p → Sinks d p g r → HeapOrder d r
sink_orders {d} c p1 pl o (sunk {p = p} {g = g} t) = in_order d g c (λ q a b. go q a b (ℕ_discrete (q / 2) p) t)
  where
    go : (q : ℕ) → 2 ≤ q → q ≤ g.len → Dec (q / 2 ≡ p) → (g.len < 2 * p)
        ⊎ ((2 * p ≤ g.len) × (le (key_of d (row_at g p)) (key_of d (row_at g (child_of d g p))) ≡ true)) → key_at d g (q / 2) ≤ key_at d g q
    go q a b (no e) s = o.away q a b e
    go q a b (yes e) (inl s) = absurd (omega arith)
    go q a b (yes e) (inr s) =
        let f : (2 * p ≤ child_of d g p) × (child_of d g p ≤ 2 * p + 1) × (child_of d g p ≤ g.len) = child_range d g p s.0 in
        omega (arith, ap (key_at d g) e, at_most d g c p (child_of d g p) p1 pl (omega arith) f.2 s.1, child_least d g p c p1 s.0 q b e)
sink_orders {d} c p1 pl o (sink {p = p} {g = g} {g' = g'} l t x rest) =
    let j : ℕ = child_of d g p in
    let f : (2 * p ≤ j) × (j ≤ 2 * p + 1) × (j ≤ g.len) = child_range d g p l in
    let j1 : 1 ≤ j = omega arith in
    let s : DownOrder (key_at d g') g.len j =
    down_step (key_at d g) (key_at d g') g.len p j p1 (omega arith) f.2 (exchange d g c p j p1 pl j1 f.2 g' x)
    (above d g c p j p1 pl j1 f.2 t) (child_least d g p c p1 l) o in
    sink_orders (clean_kept d g c p j p1 pl j1 f.2 g' x) j1 (omega (arith, x.len)) (subst (λ (m : ℕ). DownOrder (key_at d g') m j) (sym x.len) s) rest

-- ---- insert and pop
same_key : (d : List Float) (g h : Heap) (p q : ℕ) → row_at g p ≡ row_at h q → key_at d g p ≡ key_at d h q
unfolding key_at
same_key d g h p q e = ap (λ (r : ℕ). position (key_of d r)) e

module _ (n : ℕ) (d : List Float) (h : Heap) (inv : Inverse n h) (comparable : Comparable d h) (o : HeapOrder d h) where
  all_clean : Clean d h
  all_clean = clean n d h inv comparable

  pub insert_order : (i : ℕ) → i < n → place_of h i ≡ 0 → Ordered (key_of d i) → HeapOrder d (insert d i h)
  unfolding set_row set_place
  insert_order i i< out k =
      rise_orders entered_clean (omega arith) (le_refl (h.len + 1)) (record { away = away; over = λ q a b e f. absurd (omega arith) })
      (insert_rises n d i h inv i< out)
    where
      old : (p : ℕ) → p ≤ h.len → row_at (entered h i) p ≡ row_at h p
      old p a = old_rows n d i h inv i< out p (λ e. omega arith)

      away : (q : ℕ) → 2 ≤ q → q ≤ h.len + 1 → (q ≡ h.len + 1 → ⊥) → key_at d (entered h i) (q / 2) ≤ key_at d (entered h i) q
      away q a b e =
          let l : q ≤ h.len = omega arith in
          omega (
            arith,
            same_key d (entered h i) h (q / 2) (q / 2) (old (q / 2) (omega arith)),
            same_key d (entered h i) h q q (old q l),
            by_key d h all_clean o q a l,
          )

      entered_clean : Clean d (entered h i)
      entered_clean = record { ordered = λ p a b. go p a b (ℕ_discrete p (h.len + 1)) }
        where
          go : (p : ℕ) → 1 ≤ p → p ≤ h.len + 1 → Dec (p ≡ h.len + 1) → Ordered (key_of d (row_at (entered h i) p))
          go p a b (yes e) = rw (e, new_row n d i h inv i< out) k
          go p a b (no e) = let l : p ≤ h.len = omega arith in rw (old p l) (all_clean.ordered p a l)

  popped_order : 1 < h.len → HeapOrder d (pop d h)
  unfolding set_row set_place
  popped_order more = sink_orders taken_clean (le_refl 1) (omega arith) (record { away = away; over = λ q a b e f. absurd (omega arith) })
      (pop_sinks n d h inv more)
    where
      later : (p : ℕ) → 2 ≤ p → row_at (taken h) p ≡ row_at h p
      later p a = later_rows n d h inv more p (λ e. omega arith)

      away : (q : ℕ) → 2 ≤ q → q ≤ h.len - 1 → (q / 2 ≡ 1 → ⊥) → key_at d (taken h) (q / 2) ≤ key_at d (taken h) q
      away q a b e = omega (
        arith,
        same_key d (taken h) h (q / 2) (q / 2) (later (q / 2) (omega arith)),
        same_key d (taken h) h q q (later q a),
        by_key d h all_clean o q a (omega arith),
      )

      taken_clean : Clean d (taken h)
      taken_clean = record { ordered = λ p a b. go p a b (ℕ_discrete p 1) }
        where
          go : (p : ℕ) → 1 ≤ p → p ≤ h.len - 1 → Dec (p ≡ 1) → Ordered (key_of d (row_at (taken h) p))
          go p a b (yes e) = rw (e, first_row n d h inv more) (all_clean.ordered h.len (omega arith) (le_refl h.len))
          go p a b (no e) = rw (later p (omega arith)) (all_clean.ordered p a (omega arith))

  pub pop_order : 1 ≤ h.len → HeapOrder d (pop d h)
  pop_order some = go (ℕ_discrete h.len 1)
    where
      go : Dec (h.len ≡ 1) → HeapOrder d (pop d h)
      go (yes e) = record { parent = λ p a b. absurd (omega (arith, (pop_rows n d h inv some).len)) }
      go (no e) = popped_order (omega arith)

  pub top_least : (i : ℕ) → Within h i → le (key_of d (row_at h 1)) (key_of d i) ≡ true
  top_least i w =
      let f : (place_of h i ≤ h.len) × (row_at h (place_of h i) ≡ i) = inv.held i w in
      rw f.1 at (tests d h all_clean 1 (place_of h i) (le_refl 1) (omega arith) w f.0
      (bin_ind Least (λ a b. absurd (omega arith)) least (place_of h i) w f.0))
    where
      Least : ℕ → Type 0
      Least p = 1 ≤ p → p ≤ h.len → key_at d h 1 ≤ key_at d h p

      least : (p : ℕ) → Least (p / 2) → Least p
      least p ih a b = go (ℕ_discrete p 1)
        where
          go : Dec (p ≡ 1) → key_at d h 1 ≤ key_at d h p
          go (yes e) = rw e (le_refl (key_at d h 1))
          go (no e) = omega (arith, ih (omega arith) (omega arith), by_key d h all_clean o p (omega arith) b)

-- ---- a position changes
-- the keys at the other places stay
keys_stay : (n : ℕ) (d : List Float) (i : ℕ) (x : Float) (h : Heap) → Inverse n h → (p : ℕ) → 1 ≤ p → p ≤ h.len → (p ≡ place_of h i → ⊥)
    → key_of (set d i x) (row_at h p) ≡ key_of d (row_at h p)
keys_stay n d i x h inv p a b e = get_or-set_other d i (row_at h p) x nan (λ z. e (sym (inv.placed p a b) ∙ ap (place_of h) z))

-- of a row that is not in the heap
pub outside_order : (n : ℕ) (d : List Float) (i : ℕ) (x : Float) (h : Heap) → Inverse n h → place_of h i ≡ 0 → HeapOrder d h → HeapOrder (set d i x) h
outside_order n d i x h inv out o = record { parent = λ p a b. rw (stay (p / 2) (omega arith) (omega arith), stay p (omega arith) b) (o.parent p a b) }
  where
    stay : (p : ℕ) → 1 ≤ p → p ≤ h.len → key_of (set d i x) (row_at h p) ≡ key_of d (row_at h p)
    stay p a b = keys_stay n d i x h inv p a b (λ e. omega arith)

pub comparable_set : (d : List Float) (i : ℕ) (x : Float) (h : Heap) → Comparable d h → Ordered x → Comparable (set d i x) h
comparable_set d i x h c k = record { ordered = λ j w. set_either Ordered d i j x nan k (c.ordered j w) }

-- of a row in the heap, which falls
stay_at : (n : ℕ) (d : List Float) (i : ℕ) (x : Float) (h : Heap) → Inverse n h → (p : ℕ) → 1 ≤ p → p ≤ h.len → (p ≡ place_of h i → ⊥)
    → key_at (set d i x) h p ≡ key_at d h p
unfolding key_at
stay_at n d i x h inv p a b e = ap position (keys_stay n d i x h inv p a b e)

fall_at_lem : (d : List Float) (i : ℕ) (x : Float) (h : Heap) → position x ≤ position (key_of d i) → (p : ℕ) → key_at (set d i x) h p ≤ key_at d h p
unfolding key_at
fall_at_lem d i x h l p = go (ℕ_discrete (row_at h p) i)
  where
    go : Dec (row_at h p ≡ i) → position (key_of (set d i x) (row_at h p)) ≤ position (key_of d (row_at h p))
    go (yes e) = rw e (set_either (λ (z : Float). position z ≤ position (key_of d i)) d i i x nan l (le_refl (position (key_of d i))))
    go (no e) = le_of_eq (ap position (get_or-set_other d i (row_at h p) x nan e))

pub update_order : (n : ℕ) (d : List Float) (i : ℕ) (x : Float) (h : Heap) → Inverse n h → Within h i → Comparable d h → HeapOrder d h → Ordered x
    → le x (key_of d i) ≡ true → HeapOrder (set d i x) (update (set d i x) i h)
update_order n d i x h inv w c o k t = rise_orders new_clean w (inv.held i w).0 (record { away = away; over = over }) (update_rises n d' i h inv w)
  where
    d' : List Float
    d' = set d i x

    p : ℕ
    p = place_of h i

    old_clean : Clean d h
    old_clean = clean n d h inv c

    new_clean : Clean d' h
    new_clean = clean n d' h inv (comparable_set d i x h c k)

    stay : (q : ℕ) → 1 ≤ q → q ≤ h.len → (q ≡ p → ⊥) → key_at d' h q ≡ key_at d h q
    stay q a b e = stay_at n d i x h inv q a b e

    fall : (q : ℕ) → key_at d' h q ≤ key_at d h q
    fall = fall_at_lem d i x h (leb-true (position x) (position (key_of d i)) (sym (le_key x (key_of d i) k (c.ordered i w)) ∙ t))

    away : (q : ℕ) → 2 ≤ q → q ≤ h.len → (q ≡ p → ⊥) → key_at d' h (q / 2) ≤ key_at d' h q
    away q a b e = omega (arith, fall (q / 2), by_key d h old_clean o q a b, stay q (omega arith) b e)

    over : (q : ℕ) → 2 ≤ q → q ≤ h.len → q / 2 ≡ p → 2 ≤ p → key_at d' h (p / 2) ≤ key_at d' h q
    over q a b e f = omega (
      arith,
      fall (p / 2),
      by_key d h old_clean o p f (inv.held i w).0,
      ap (key_at d h) e,
      by_key d h old_clean o q a b,
      stay q (omega arith) b (λ z. omega arith),
    )
