-- Rows that are not in the heap: whatever `pos` has for them stays through a step (`update_others`, `pop_others`). And a step may be taken
-- before or after a function of the places that leaves 1 to m alone (`update_mapped`, `pop_mapped`), so that marks may be there.
use mathlib.Core.Path.{◌≡◌, refl, sym, ap, ◌∙◌}
use mathlib.Core.Logic.{◌≢◌, inl, inr}
use mathlib.Core.List.{List, [], ◌∷◌, map}
use mathlib.Core.Bool.{Bool, true, false}
use Prim.Native.Nat.{ℕ, zero, suc, ◌-◌, ◌*◌, ◌/◌, ◌≤◌, ◌<◌}
use native.Mathlib.Nat.{le_refl}
use native.Mathlib.Decide.{dec_le}
use native.Mathlib.Omega.{arith}
use lib.ListN.{get_or, set}
use lib.Seq.{get_or-set_other}
use lib.Ieee.{Float, le}
use Rattle.index_heap.specs.IndexHeap.{Heap, row_at, place_of, key_of, set_row, set_place, sift_up, update, child_of, sift_down, pop}
use Rattle.index_heap.proofs.Keys.{set_either}
use Rattle.index_heap.proofs.Steps.{up_stop, up_go, down_stop, down_go, child_range, pop_is, pop_last_is}

-- ---- places of rows that are not in the heap
module _ (d : List Float) (i j : ℕ) (apart : j ≢ i) where
  put_other : (h : Heap) (p r : ℕ) → j ≢ r → place_of (set_row h p r) j ≡ place_of h j
  unfolding set_row
  put_other h p r o = get_or-set_other h.pos r j p 0 o

  row_other : (h : Heap) (p r q : ℕ) → r ≢ j → row_at h q ≢ j → row_at (set_row h p r) q ≢ j
  unfolding set_row
  row_other h p r q a b = set_either (λ (z : ℕ). z ≢ j) h.heap p q r 0 a b

  up_others : (k : ℕ) (h : Heap) (p : ℕ) → ((q : ℕ) → 1 ≤ q → q < p → row_at h q ≢ j) → place_of (sift_up k d i h p) j ≡ place_of h j
  up_others zero h p f = unfold sift_up in put_other h p i apart
  up_others (suc k) h p f = go (dec_le p 1) (le (key_of d (row_at h (p / 2))) (key_of d i)) refl (up_others k (set_row h p (row_at h (p / 2))) (p / 2))
    where
      go : Dec (p ≤ 1) → (b : Bool) → le (key_of d (row_at h (p / 2))) (key_of d i) ≡ b
          → (((q : ℕ) → 1 ≤ q → q < p / 2 → row_at (set_row h p (row_at h (p / 2))) q ≢ j)
          → place_of (sift_up k d i (set_row h p (row_at h (p / 2))) (p / 2)) j ≡ place_of (set_row h p (row_at h (p / 2))) j)
          → place_of (sift_up (suc k) d i h p) j ≡ place_of h j
      go (yes l) b t again = rw (up_stop (suc k) d i h p (inl l)) (put_other h p i apart)
      go (no l) true t again = rw (up_stop (suc k) d i h p (inr t)) (put_other h p i apart)
      go (no l) false t again =
          let o : row_at h (p / 2) ≢ j = f (p / 2) (omega arith) (omega arith) in
          rw (up_go k d i h p (omega arith) t)
          (again (λ q a b. row_other h p (row_at h (p / 2)) q o (f q a (omega arith))) ∙ put_other h p (row_at h (p / 2)) (λ e. o (sym e)))

  down_others : (k : ℕ) (h : Heap) (p : ℕ) → 1 ≤ p → ((q : ℕ) → 1 ≤ q → q ≤ h.len → row_at h q ≢ j) → place_of (sift_down k d i h p) j ≡ place_of h j
  unfolding set_row
  down_others zero h p l f = unfold sift_down in put_other h p i apart
  down_others (suc k) h p l f = go (dec_le (2 * p) h.len) (le (key_of d i) (key_of d (row_at h (child_of d h p)))) refl
      (down_others k (set_row h p (row_at h (child_of d h p))) (child_of d h p))
    where
      go : Dec (2 * p ≤ h.len) → (b : Bool) → le (key_of d i) (key_of d (row_at h (child_of d h p))) ≡ b
          → (1 ≤ child_of d h p → ((q : ℕ) → 1 ≤ q → q ≤ h.len → row_at (set_row h p (row_at h (child_of d h p))) q ≢ j)
          → place_of (sift_down k d i (set_row h p (row_at h (child_of d h p))) (child_of d h p)) j ≡ place_of (set_row h p (row_at h (child_of d h p))) j)
          → place_of (sift_down (suc k) d i h p) j ≡ place_of h j
      go (no m) b t again = rw (down_stop (suc k) d i h p (inl (omega arith))) (put_other h p i apart)
      go (yes m) true t again = rw (down_stop (suc k) d i h p (inr t)) (put_other h p i apart)
      go (yes m) false t again =
          let c = child_range d h p m in
          let o : row_at h (child_of d h p) ≢ j = f (child_of d h p) (omega arith) (omega arith) in
          rw (down_go k d i h p m t)
          (again (omega arith) (λ q a b. row_other h p (row_at h (child_of d h p)) q o (f q a b)) ∙ put_other h p (row_at h (child_of d h p)) (λ e. o (sym e)))

pub update_others : (d : List Float) (i j : ℕ) (h : Heap) → j ≢ i → ((q : ℕ) → 1 ≤ q → q < place_of h i → row_at h q ≢ j) → place_of (update d i h) j ≡ place_of h j
unfolding update
update_others d i j h o f = up_others d i j o (place_of h i) h (place_of h i) f

pub pop_others : (d : List Float) (j : ℕ) (h : Heap) → 1 ≤ h.len → ((q : ℕ) → 1 ≤ q → q ≤ h.len → row_at h q ≢ j) → place_of (pop d h) j ≡ place_of h j
unfolding set_place
pop_others d j h l f = go (dec_le h.len 1)
  where
    off : get_or (set h.pos (row_at h 1) 0) j 0 ≡ place_of h j
    off = get_or-set_other h.pos (row_at h 1) j 0 0 (λ e. f 1 (le_refl 1) l (sym e))

    go : Dec (h.len ≤ 1) → place_of (pop d h) j ≡ place_of h j
    go (yes m) = rw (pop_last_is d h (omega arith)) off
    go (no m) = rw (pop_is d h (omega arith))
        (down_others d (row_at h h.len) j (λ e. f h.len l (le_refl h.len) (sym e)) h.len (set_place h (row_at h 1) 0 (h.len - 1)) 1
        (le_refl 1) (λ q a b. f q a (omega arith)) ∙ off)

-- ---- a function of the places
pub get_d_map : (f : ℕ → ℕ) → f 0 ≡ 0 → (l : List ℕ) (i : ℕ) → get_or (map f l) i 0 ≡ f (get_or l i 0)
get_d_map f e [] i = sym e
get_d_map f e (x ∷ l) zero = refl
get_d_map f e (x ∷ l) (suc i) = get_d_map f e l i

pub map-set : (f : ℕ → ℕ) (l : List ℕ) (i a : ℕ) → map f (set l i a) ≡ set (map f l) i (f a)
map-set f [] i a = refl
map-set f (x ∷ l) zero a = refl
map-set f (x ∷ l) (suc i) a = ap (λ (t : List ℕ). f x ∷ t) (map-set f l i a)

abbrev pub mapped : (ℕ → ℕ) → Heap → Heap
mapped f h = record { heap = h.heap; pos = map f h.pos; len = h.len }

module _ (f : ℕ → ℕ) (m : ℕ) (none : f 0 ≡ 0) (keeps : (p : ℕ) → 1 ≤ p → p ≤ m → f p ≡ p) (d : List Float) where
  put_mapped : (h : Heap) (p i : ℕ) → 1 ≤ p → p ≤ m → mapped f (set_row h p i) ≡ set_row (mapped f h) p i
  unfolding set_row
  put_mapped h p i a b =
      let e : map f (set h.pos i p) ≡ set (map f h.pos) i p = map-set f h.pos i p ∙ ap (set (map f h.pos) i) (keeps p a b) in
      λ z. record { heap = set h.heap p i; pos = e z; len = h.len }

  module _ (i : ℕ) where
    up_mapped : (k : ℕ) (h : Heap) (p : ℕ) → 1 ≤ p → p ≤ m → mapped f (sift_up k d i h p) ≡ sift_up k d i (mapped f h) p
    up_mapped zero h p a b = unfold sift_up in put_mapped h p i a b
    up_mapped (suc k) h p a b = go (dec_le p 1) (le (key_of d (row_at h (p / 2))) (key_of d i)) refl (up_mapped k (set_row h p (row_at h (p / 2))) (p / 2))
      where
        go : Dec (p ≤ 1) → (t : Bool) → le (key_of d (row_at h (p / 2))) (key_of d i) ≡ t
            → (1 ≤ p / 2 → p / 2 ≤ m → mapped f (sift_up k d i (set_row h p (row_at h (p / 2))) (p / 2)) ≡ sift_up k d i
            (mapped f (set_row h p (row_at h (p / 2)))) (p / 2))
            → mapped f (sift_up (suc k) d i h p) ≡ sift_up (suc k) d i (mapped f h) p
        go (yes l) t e again = ap (mapped f) (up_stop (suc k) d i h p (inl l)) ∙ put_mapped h p i a b ∙ sym (up_stop (suc k) d i (mapped f h) p (inl l))
        go (no l) true e again = ap (mapped f) (up_stop (suc k) d i h p (inr e)) ∙ put_mapped h p i a b ∙ sym (up_stop (suc k) d i (mapped f h) p (inr e))
        go (no l) false e again =
            ap (mapped f) (up_go k d i h p (omega arith) e) ∙ again (omega arith) (omega arith) ∙ ap (λ (x : Heap). sift_up k d i x (p / 2))
            (put_mapped h p (row_at h (p / 2)) a b) ∙ sym (up_go k d i (mapped f h) p (omega arith) e)

    child_mapped : (h : Heap) (p : ℕ) → child_of d (mapped f h) p ≡ child_of d h p
    unfolding child_of
    child_mapped h p = refl

    down_mapped : (k : ℕ) (h : Heap) (p : ℕ) → 1 ≤ p → p ≤ m → h.len ≤ m → mapped f (sift_down k d i h p) ≡ sift_down k d i (mapped f h) p
    unfolding child_of set_row
    down_mapped zero h p a b c = unfold sift_down in put_mapped h p i a b
    down_mapped (suc k) h p a b c = go (dec_le (2 * p) h.len) (le (key_of d i) (key_of d (row_at h (child_of d h p)))) refl
        (down_mapped k (set_row h p (row_at h (child_of d h p))) (child_of d h p))
      where
        go : Dec (2 * p ≤ h.len) → (t : Bool) → le (key_of d i) (key_of d (row_at h (child_of d h p))) ≡ t
            → (1 ≤ child_of d h p → child_of d h p ≤ m → h.len ≤ m → mapped f (sift_down k d i (set_row h p (row_at h (child_of d h p))) (child_of d h p))
            ≡ sift_down k d i (mapped f (set_row h p (row_at h (child_of d h p)))) (child_of d h p))
            → mapped f (sift_down (suc k) d i h p) ≡ sift_down (suc k) d i (mapped f h) p
        go (no l) t e again = ap (mapped f) (down_stop (suc k) d i h p (inl (omega arith))) ∙ put_mapped h p i a b
            ∙ sym (down_stop (suc k) d i (mapped f h) p (inl (omega arith)))
        go (yes l) true e again = ap (mapped f) (down_stop (suc k) d i h p (inr e)) ∙ put_mapped h p i a b ∙ sym (down_stop (suc k) d i (mapped f h) p (inr e))
        go (yes l) false e again =
            let r = child_range d h p l in
            ap (mapped f) (down_go k d i h p l e) ∙ again (omega arith) (omega arith) c ∙ ap (λ (x : Heap). sift_down k d i x (child_of d h p))
            (put_mapped h p (row_at h (child_of d h p)) a b) ∙ sym (down_go k d i (mapped f h) p l e)

    pub update_mapped : (h : Heap) → 1 ≤ place_of h i → place_of h i ≤ m → mapped f (update d i h) ≡ update d i (mapped f h)
    unfolding update
    update_mapped h a b =
        let e : get_or (map f h.pos) i 0 ≡ place_of h i = get_d_map f none h.pos i ∙ keeps (place_of h i) a b in
        up_mapped (place_of h i) h (place_of h i) a b ∙ sym (ap (λ (p : ℕ). sift_up p d i (mapped f h) p) e)

  place_mapped : (h : Heap) (i len : ℕ) → mapped f (set_place h i 0 len) ≡ set_place (mapped f h) i 0 len
  unfolding set_place
  place_mapped h i len =
      let e : map f (set h.pos i 0) ≡ set (map f h.pos) i 0 = map-set f h.pos i 0 ∙ ap (set (map f h.pos) i) none in
      λ z. record { heap = h.heap; pos = e z; len = len }

  pub pop_mapped : (h : Heap) → 1 ≤ h.len → h.len ≤ m → mapped f (pop d h) ≡ pop d (mapped f h)
  unfolding set_place
  pop_mapped h l b = go (dec_le h.len 1)
    where
      go : Dec (h.len ≤ 1) → mapped f (pop d h) ≡ pop d (mapped f h)
      go (yes c) = ap (mapped f) (pop_last_is d h (omega arith)) ∙ place_mapped h (row_at h 1) (h.len - 1) ∙ sym (pop_last_is d (mapped f h) (omega arith))
      go (no c) =
          ap (mapped f) (pop_is d h (omega arith)) ∙ down_mapped (row_at h h.len) h.len (set_place h (row_at h 1) 0 (h.len - 1)) 1 (le_refl 1)
          (omega arith) (omega arith)
          ∙ ap (λ (x : Heap). sift_down h.len d (row_at h h.len) x 1) (place_mapped h (row_at h 1) (h.len - 1)) ∙ sym (pop_is d (mapped f h) (omega arith))
