-- For any keys: update, insert and pop keep heap and pos inverse to each other, and which rows are in the heap is known after each.
-- Each is an inverse heap to start from (the row put at its first place), and then a chain of exchanges.
use mathlib.Core.Path.{◌≡◌, refl, sym, ap, subst, ◌∙◌}
use mathlib.Core.Logic.{◌⊎◌, inl, inr}
use mathlib.Core.List.{List}
use mathlib.Core.Bool.{cond}
use Prim.Native.Nat.{ℕ, zero, suc, ◌+◌, ◌-◌, ◌≤◌, ◌<◌}
use native.Mathlib.Nat.{le_refl, eq-zero-or-pos}
use native.Mathlib.Decide.{ℕ_discrete}
use native.Mathlib.Omega.{arith}
use lib.Dec.{eqb}
use lib.ListN.{length, get_or, set, replicate, length-set, length-replicate}
use lib.Seq.{get_or-set_same, get_or-set_other, set-get_or}
use lib.Ieee.{Float}
use borrow.Author.Tests.{eq-eqb, ne_eqb}
use Rattle.index_heap.specs.IndexHeap.{Heap, row_at, place_of, set_row, set_place, update, insert, pop}
use Rattle.index_heap.specs.inner.Invariant.{Within, Inverse, SameRows, WithRow, WithoutRow}
use Rattle.index_heap.proofs.Steps.{insert_is, pop_is, pop_last_is}
use Rattle.index_heap.proofs.Moves.{Rises, Sinks, Kept, rises, sinks, kept_rise, kept_sink, apart}

-- ---- the empty heap
-- whatever rows the places past its end hold
pub cleared : (n : ℕ) (h : Heap) (pos : List ℕ) → Inverse n h → length pos ≡ n → ((i : ℕ) → get_or pos i 0 ≡ 0)
    → Inverse n (record { heap = h.heap; pos = pos; len = 0 })
cleared n h pos inv l z = record {
  heap_length = inv.heap_length;
  pos_length = l;
  room = omega arith;
  rows = inv.rows;
  placed = λ p a b. absurd (omega arith);
  held = λ i w. absurd (omega (arith, z i));
}

zeros : (n i : ℕ) → ◌≡◌ {A = ℕ} (get_or (replicate n 0) i 0) 0
zeros zero i = refl
zeros (suc n) zero = refl
zeros (suc n) (suc i) = zeros n i

pub new : (n : ℕ) → Inverse n (record { heap = replicate (n + 1) 0; pos = replicate n 0; len = 0 })
new n = record {
  heap_length = length-replicate (n + 1) 0;
  pos_length = length-replicate n 0;
  room = omega arith;
  rows = λ p a b. omega (arith, zeros (n + 1) p);
  placed = λ p a b. absurd (omega arith);
  held = λ i w. absurd (omega (arith, zeros n i));
}

-- ---- what is in an inverse heap
pub row_below : (n : ℕ) (h : Heap) (i : ℕ) → Inverse n h → Within h i → i < n
row_below n h i inv w = rw (inv.held i w).1 at (inv.rows (place_of h i) w (omega (arith, (inv.held i w).0, inv.room)))

-- at each place is a row of the heap
pub row_within : (n : ℕ) (h : Heap) (p : ℕ) → Inverse n h → 1 ≤ p → p ≤ h.len → Within h (row_at h p)
row_within n h p inv a b = rw (inv.placed p a b) a

-- ---- a row that is not in the heap has room there
-- f is one-to-one on the numbers below m: what it sends to n is sent where it sends m, and m is left out
redirect : (n v y : ℕ) → ℕ
redirect n v y = cond (eqb y n) v y

redirected : (n v y : ℕ) → y ≡ n → redirect n v y ≡ v
unfolding redirect
redirected n v y e = rw (eq-eqb y n e)

direct : (n v y : ℕ) → (y ≡ n → ⊥) → redirect n v y ≡ y
unfolding redirect
direct n v y e = rw (ne_eqb y n e)

pigeons : (n m : ℕ) (f : ℕ → ℕ) → ((x : ℕ) → x < m → f x < n) → ((x y : ℕ) → x < y → y < m → f x ≡ f y → ⊥) → m ≤ n
pigeons n zero f b d = omega arith
pigeons zero (suc m) f b d = absurd (omega (arith, b 0 (omega arith)))
pigeons (suc n) (suc m) f b d =
    omega (
      arith,
      pigeons n m (λ x. redirect n (f m) (f x)) (λ x l. below x l (ℕ_discrete (f x) n))
          (λ x y k l. differ x y k l (ℕ_discrete (f x) n) (ℕ_discrete (f y) n)),
    )
  where
    below : (x : ℕ) → x < m → Dec (f x ≡ n) → redirect n (f m) (f x) < n
    below x l (yes e) = let g : f m ≡ n → ⊥ = λ z. d x m l (le_refl (suc m)) (e ∙ sym z) in
        rw (redirected n (f m) (f x) e) (omega (arith, b m (le_refl (suc m))))
    below x l (no e) = rw (direct n (f m) (f x) e) (omega (arith, b x (omega arith)))

    differ : (x y : ℕ) → x < y → y < m → Dec (f x ≡ n) → Dec (f y ≡ n) → redirect n (f m) (f x) ≡ redirect n (f m) (f y) → ⊥
    differ x y k l (yes e) (yes g) z = d x y k (omega arith) (e ∙ sym g)
    differ x y k l (yes e) (no g) z = d y m l (le_refl (suc m)) (sym (direct n (f m) (f y) g) ∙ sym z ∙ redirected n (f m) (f x) e)
    differ x y k l (no e) (yes g) z = d x m (omega arith) (le_refl (suc m)) (sym (direct n (f m) (f x) e) ∙ z ∙ redirected n (f m) (f y) g)
    differ x y k l (no e) (no g) z = d x y k (omega arith) (sym (direct n (f m) (f x) e) ∙ z ∙ direct n (f m) (f y) g)

-- the row at each place, and i at place 0
with_zero : Heap → ℕ → ℕ → ℕ
with_zero h i zero = i
with_zero h i (suc p) = row_at h (suc p)

pub room_left : (n : ℕ) (h : Heap) (i : ℕ) → Inverse n h → i < n → place_of h i ≡ 0 → h.len < n
unfolding with_zero
room_left n h i inv i< out = pigeons n (suc h.len) (with_zero h i) below differ
  where
    below : (x : ℕ) → x < suc h.len → with_zero h i x < n
    below zero l = i<
    below (suc x) l = inv.rows (suc x) (omega arith) (omega (arith, inv.room))

    differ : (x y : ℕ) → x < y → y < suc h.len → with_zero h i x ≡ with_zero h i y → ⊥
    differ x zero k l e = omega arith
    differ zero (suc y) k l e = omega (arith, inv.placed (suc y) (omega arith) (omega arith), ap (place_of h) e)
    differ (suc x) (suc y) k l e = apart n h (suc x) (suc y) inv (omega arith) (omega arith) (omega arith) (omega arith) (λ z. omega arith) e

-- ---- update
set_back : (l : List ℕ) (p i : ℕ) → get_or l p 0 ≡ i → set l p i ≡ l
set_back l p i e = subst (λ (z : ℕ). set l p z ≡ l) e (set-get_or l p 0)

module _ (n : ℕ) (d : List Float) (i : ℕ) (h : Heap) (inv : Inverse n h) (w : Within h i) where
  back : set_row h (place_of h i) i ≡ h
  unfolding set_row
  back = λ k. record { heap = set_back h.heap (place_of h i) i (inv.held i w).1 k; pos = set-get_or h.pos i 0 k; len = h.len }

  pub update_rises : Rises d (place_of h i) h (update d i h)
  unfolding update
  update_rises = subst (λ (g : Heap). Rises d (place_of h i) g (update d i h)) back
      (rises n d i (row_below n h i inv w) (place_of h i) h (place_of h i) (rw back inv) w (inv.held i w).0 (le_refl (place_of h i)))

  update_kept : Kept n h (update d i h)
  update_kept = kept_rise inv w (inv.held i w).0 update_rises

  pub update_inverse : Inverse n (update d i h)
  update_inverse = update_kept.inverse

  pub update_rows : SameRows h (update d i h)
  update_rows = update_kept.rows

-- ---- insert
-- i at the last place
abbrev pub entered : Heap → ℕ → Heap
entered h i = set_row (set_place h i (h.len + 1) (h.len + 1)) (h.len + 1) i

module _ (n : ℕ) (d : List Float) (i : ℕ) (h : Heap) (inv : Inverse n h) (i< : i < n) (out : place_of h i ≡ 0) where
  less : h.len < n
  less = room_left n h i inv i< out

  new_place : place_of (entered h i) i ≡ h.len + 1
  unfolding set_row set_place
  new_place = get_or-set_same (set h.pos i (h.len + 1)) i (h.len + 1) 0 (simp length-set (omega (arith, inv.pos_length)))

  old_places : (j : ℕ) → (j ≡ i → ⊥) → place_of (entered h i) j ≡ place_of h j
  unfolding set_row set_place
  old_places j e = get_or-set_other (set h.pos i (h.len + 1)) i j (h.len + 1) 0 e ∙ get_or-set_other h.pos i j (h.len + 1) 0 e

  pub new_row : row_at (entered h i) (h.len + 1) ≡ i
  unfolding set_row set_place
  new_row = get_or-set_same h.heap (h.len + 1) i 0 (omega (arith, inv.heap_length, less))

  pub old_rows : (p : ℕ) → (p ≡ h.len + 1 → ⊥) → row_at (entered h i) p ≡ row_at h p
  unfolding set_row set_place
  old_rows p e = get_or-set_other h.heap (h.len + 1) p i 0 e

  -- the rows of h are others than i
  not_new : (p : ℕ) → 1 ≤ p → p ≤ h.len → row_at h p ≡ i → ⊥
  not_new p a b e = omega (arith, inv.placed p a b, ap (place_of h) e)

  pub entered_inverse : Inverse n (entered h i)
  unfolding set_row set_place
  entered_inverse = record {
    heap_length = simp length-set inv.heap_length;
    pos_length = simp length-set inv.pos_length;
    room = omega (arith, less);
    rows = λ p a b. rows p a b (ℕ_discrete p (h.len + 1));
    placed = λ p a b. placed p a b (ℕ_discrete p (h.len + 1));
    held = λ j w. held j w (ℕ_discrete j i);
  }
    where
      rows : (p : ℕ) → 1 ≤ p → p ≤ n → Dec (p ≡ h.len + 1) → row_at (entered h i) p < n
      rows p a b (yes e) = rw (e, new_row) i<
      rows p a b (no e) = rw (old_rows p e) (inv.rows p a b)

      placed : (p : ℕ) → 1 ≤ p → p ≤ h.len + 1 → Dec (p ≡ h.len + 1) → place_of (entered h i) (row_at (entered h i) p) ≡ p
      placed p a b (yes e) = rw (e, new_row) new_place
      placed p a b (no e) = let l : p ≤ h.len = omega arith in rw (old_rows p e) (old_places (row_at h p) (not_new p a l) ∙ inv.placed p a l)

      held : (j : ℕ) → Within (entered h i) j → Dec (j ≡ i) → (place_of (entered h i) j ≤ h.len + 1) × (row_at (entered h i) (place_of (entered h i) j) ≡ j)
      held j w (yes e) = rw (e, new_place) (le_refl (h.len + 1), new_row)
      held j w (no e) =
          let f : place_of (entered h i) j ≡ place_of h j = old_places j e in
          let g : (place_of h j ≤ h.len) × (row_at h (place_of h j) ≡ j) = inv.held j (omega arith) in
          rw f (omega arith, old_rows (place_of h j) (λ z. omega arith) ∙ g.1)

  pub insert_rises : Rises d (h.len + 1) (entered h i) (insert d i h)
  unfolding set_place
  insert_rises = rw (insert_is d i h (omega (arith, inv.pos_length)))
      (rises n d i i< (h.len + 1) (set_place h i (h.len + 1) (h.len + 1)) (h.len + 1) entered_inverse (omega arith) (le_refl (h.len + 1))
      (le_refl (h.len + 1)))

  insert_kept : Kept n (entered h i) (insert d i h)
  unfolding set_row set_place
  insert_kept = kept_rise entered_inverse (omega arith) (le_refl (h.len + 1)) insert_rises

  pub insert_inverse : Inverse n (insert d i h)
  insert_inverse = insert_kept.inverse

  pub insert_rows : WithRow i h (insert d i h)
  unfolding set_row set_place
  insert_rows = record {
    len = insert_kept.rows.len;
    enters = insert_kept.rows.stays i (omega (arith, new_place));
    stays = λ j w. insert_kept.rows.stays j (rw (old_places j (λ e. omega (arith, ap (place_of h) e))) w);
    was = λ j e w. rw (old_places j e) at (insert_kept.rows.was j w);
  }

-- ---- pop
-- the last row at the top's place
abbrev pub taken : Heap → Heap
taken h = set_row (set_place h (row_at h 1) 0 (h.len - 1)) 1 (row_at h h.len)

module _ (n : ℕ) (d : List Float) (h : Heap) (inv : Inverse n h) (more : 1 < h.len) where
  last_below : row_at h h.len < n
  last_below = inv.rows h.len (omega arith) inv.room

  last_not_top : row_at h h.len ≡ row_at h 1 → ⊥
  last_not_top = apart n h h.len 1 inv (omega arith) (le_refl h.len) (le_refl 1) (omega arith) (λ e. omega arith)

  pub first_row : row_at (taken h) 1 ≡ row_at h h.len
  unfolding set_row set_place
  first_row = get_or-set_same h.heap 1 (row_at h h.len) 0 (omega (arith, inv.heap_length, inv.room))

  pub later_rows : (p : ℕ) → (p ≡ 1 → ⊥) → row_at (taken h) p ≡ row_at h p
  unfolding set_row set_place
  later_rows p e = get_or-set_other h.heap 1 p (row_at h h.len) 0 e

  last_place : place_of (taken h) (row_at h h.len) ≡ 1
  unfolding set_row set_place
  last_place = get_or-set_same (set h.pos (row_at h 1) 0) (row_at h h.len) 1 0 (simp length-set (omega (arith, inv.pos_length, last_below)))

  top_place : place_of (taken h) (row_at h 1) ≡ 0
  unfolding set_row set_place
  top_place = get_or-set_other (set h.pos (row_at h 1) 0) (row_at h h.len) (row_at h 1) 1 0 (λ e. last_not_top (sym e)) ∙ get_or-set_same h.pos
      (row_at h 1) 0 0 (omega (arith, inv.pos_length, inv.rows 1 (le_refl 1) (omega (arith, inv.room))))

  other_places_lem : (j : ℕ) → (j ≡ row_at h h.len → ⊥) → (j ≡ row_at h 1 → ⊥) → place_of (taken h) j ≡ place_of h j
  unfolding set_row set_place
  other_places_lem j e f = get_or-set_other (set h.pos (row_at h 1) 0) (row_at h h.len) j 1 0 e ∙ get_or-set_other h.pos (row_at h 1) j 0 0 f

  pub taken_inverse : Inverse n (taken h)
  unfolding set_row set_place
  taken_inverse = record {
    heap_length = simp length-set inv.heap_length;
    pos_length = simp length-set inv.pos_length;
    room = omega (arith, inv.room);
    rows = λ p a b. rows p a b (ℕ_discrete p 1);
    placed = λ p a b. placed p a b (ℕ_discrete p 1);
    held = λ j w. held j w (ℕ_discrete j (row_at h h.len)) (ℕ_discrete j (row_at h 1));
  }
    where
      rows : (p : ℕ) → 1 ≤ p → p ≤ n → Dec (p ≡ 1) → row_at (taken h) p < n
      rows p a b (yes e) = rw (e, first_row) last_below
      rows p a b (no e) = rw (later_rows p e) (inv.rows p a b)

      placed : (p : ℕ) → 1 ≤ p → p ≤ h.len - 1 → Dec (p ≡ 1) → place_of (taken h) (row_at (taken h) p) ≡ p
      placed p a b (yes e) = rw (e, first_row) last_place
      placed p a b (no e) =
          let l : p ≤ h.len = omega arith in
          let f : row_at h p ≡ row_at h h.len → ⊥ = apart n h p h.len inv a l (omega arith) (le_refl h.len) (λ z. omega arith) in
          let g : row_at h p ≡ row_at h 1 → ⊥ = apart n h p 1 inv a l (le_refl 1) (omega arith) e in
          rw (later_rows p e) (other_places_lem (row_at h p) f g ∙ inv.placed p a l)

      held : (j : ℕ) → Within (taken h) j → Dec (j ≡ row_at h h.len) → Dec (j ≡ row_at h 1) → (place_of (taken h) j ≤ h.len - 1)
          × (row_at (taken h) (place_of (taken h) j) ≡ j)
      held j w (yes e) f = rw (e, last_place) (omega arith, first_row)
      held j w (no e) (yes f) = absurd (omega (arith, ap (place_of (taken h)) f ∙ top_place))
      held j w (no e) (no f) =
          let m : place_of (taken h) j ≡ place_of h j = other_places_lem j e f in
          let g : (place_of h j ≤ h.len) × (row_at h (place_of h j) ≡ j) = inv.held j (omega arith) in
          let a : place_of h j ≡ 1 → ⊥ = λ z. f (sym g.1 ∙ ap (row_at h) z) in
          let b : place_of h j ≡ h.len → ⊥ = λ z. e (sym g.1 ∙ ap (row_at h) z) in
          rw m (omega arith, later_rows (place_of h j) a ∙ g.1)

  pub pop_sinks : Sinks d 1 (taken h) (pop d h)
  unfolding set_place
  pop_sinks = rw (pop_is d h more)
      (sinks n d (row_at h h.len) last_below h.len (set_place h (row_at h 1) 0 (h.len - 1)) 1 taken_inverse (le_refl 1) (omega arith) (omega arith))

  more_kept : Kept n (taken h) (pop d h)
  unfolding set_row set_place
  more_kept = kept_sink taken_inverse (le_refl 1) (omega arith) pop_sinks

  more_rows : WithoutRow (row_at h 1) h (pop d h)
  unfolding set_row set_place
  more_rows = record {
    len = omega (arith, more_kept.rows.len);
    leaves = omega (arith, gone);
    stays = λ j e w. more_kept.rows.stays j (stays j e w (ℕ_discrete j (row_at h h.len)));
    was = λ j w. was j (more_kept.rows.was j w) (ℕ_discrete j (row_at h h.len)) (ℕ_discrete j (row_at h 1));
  }
    where
      gone : Within (pop d h) (row_at h 1) → ⊥
      gone w = omega (arith, more_kept.rows.was (row_at h 1) w, top_place)

      stays : (j : ℕ) → (j ≡ row_at h 1 → ⊥) → Within h j → Dec (j ≡ row_at h h.len) → Within (taken h) j
      stays j e w (yes f) = rw (f, last_place) (le_refl 1)
      stays j e w (no f) = rw (other_places_lem j f e) w

      was : (j : ℕ) → Within (taken h) j → Dec (j ≡ row_at h h.len) → Dec (j ≡ row_at h 1) → Within h j
      was j w (yes e) f = rw (e, inv.placed h.len (omega arith) (le_refl h.len)) (omega arith)
      was j w (no e) (yes f) = absurd (omega (arith, ap (place_of (taken h)) f ∙ top_place))
      was j w (no e) (no f) = rw (other_places_lem j e f) at w

-- the last row of all
module _ (n : ℕ) (d : List Float) (h : Heap) (inv : Inverse n h) (one : h.len ≡ 1) where
  only : (j : ℕ) → Within h j → j ≡ row_at h 1
  only j w =
      let g : (place_of h j ≤ h.len) × (row_at h (place_of h j) ≡ j) = inv.held j w in
      let e : place_of h j ≡ 1 = omega arith in
      sym g.1 ∙ ap (row_at h) e

  none_left : (j : ℕ) → get_or (set h.pos (row_at h 1) 0) j 0 ≡ 0
  none_left j = go (ℕ_discrete j (row_at h 1)) (eq-zero-or-pos (place_of h j))
    where
      go : Dec (j ≡ row_at h 1) → (place_of h j ≡ 0) ⊎ Within h j → get_or (set h.pos (row_at h 1) 0) j 0 ≡ 0
      go (yes e) w = rw e (get_or-set_same h.pos (row_at h 1) 0 0 (omega (arith, inv.pos_length, inv.rows 1 (le_refl 1) (omega (arith, inv.room)))))
      go (no e) (inl z) = get_or-set_other h.pos (row_at h 1) j 0 0 e ∙ z
      go (no e) (inr w) = absurd (e (only j w))

  left_is : pop d h ≡ record { heap = h.heap; pos = set h.pos (row_at h 1) 0; len = 0 }
  unfolding set_place
  left_is =
      let e : h.len - 1 ≡ 0 = omega arith in
      pop_last_is d h one ∙ (λ k. record { heap = h.heap; pos = set h.pos (row_at h 1) 0; len = e k })

  last_inverse : Inverse n (pop d h)
  last_inverse = rw left_is (cleared n h (set h.pos (row_at h 1) 0) inv (simp length-set inv.pos_length) none_left)

  last_rows : WithoutRow (row_at h 1) h (pop d h)
  last_rows = rw left_is (record {
    len = sym one;
    leaves = none_left (row_at h 1);
    stays = λ j e w. absurd (e (only j w));
    was = λ j w. absurd (omega (arith, none_left j));
  })

module _ (n : ℕ) (d : List Float) (h : Heap) (inv : Inverse n h) (some : 1 ≤ h.len) where
  pub pop_inverse : Inverse n (pop d h)
  pop_inverse = go (ℕ_discrete h.len 1)
    where
      go : Dec (h.len ≡ 1) → Inverse n (pop d h)
      go (yes e) = last_inverse n d h inv e
      go (no e) = (more_kept n d h inv (omega arith)).inverse

  -- the row that leaves is the top
  pub pop_rows : WithoutRow (row_at h 1) h (pop d h)
  pop_rows = go (ℕ_discrete h.len 1)
    where
      go : Dec (h.len ≡ 1) → WithoutRow (row_at h 1) h (pop d h)
      go (yes e) = last_rows n d h inv e
      go (no e) = more_rows n d h inv (omega arith)
