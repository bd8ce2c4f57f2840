-- The loops of the code are the definition's steps: the rest of the definition from a loop's position is the whole from the start. A record says so
-- for each of the two loops, with laws for its start, a turn and its end. How many steps the definition has left is not fixed, only that they are
-- enough.
use mathlib.Core.Path.{◌≡◌, refl, sym, ap, ◌∙◌}
use mathlib.Core.Logic.{◌⊎◌, inl, inr}
use mathlib.Core.List.{List}
use mathlib.Core.Bool.{Bool, true, false, cond, ◌&&◌}
use Prim.Native.Nat.{ℕ, zero, suc, ◌+◌, ◌-◌, ◌*◌, ◌/◌, ◌≤◌, ◌<◌, ◌^◌}
use native.Mathlib.Nat.{le_refl}
use native.Mathlib.Decide.{dec_le, dec_lt}
use native.Mathlib.Omega.{arith}
use lib.Dec.{leb, ltb}
use lib.ListN.{length, get_or, set}
use lib.Seq.{get_or-set_same}
use lib.Ieee.{Float, nan, lt, le}
use borrow.Author.Tests.{le-leb, lt-leb, lt-ltb, le-ltb, ltb-true, eq-eqb, ne_eqb}
use Rattle.index_heap.specs.IndexHeap.{Heap, row_at, place_of, key_of, set_row, set_place, sift_up, update, insert, chosen, child_of, sift_down, pop}
use Rattle.index_heap.specs.inner.Slices.{heap_of, Ready, Keyed, Lifted, Updated, Sunk, Popped}
use Rattle.index_heap.proofs.Keys.{keyed_set, keyed_fewer, ready_moved}

-- ---- one step of the definition
cond_same : {A : Type 0} (b : Bool) (x : A) → cond b x x ≡ x
cond_same true x = refl
cond_same false x = refl

pub up_stop : (k : ℕ) (d : List Float) (i : ℕ) (h : Heap) (p : ℕ) → (p ≤ 1) ⊎ (le (key_of d (row_at h (p / 2))) (key_of d i) ≡ true)
    → sift_up k d i h p ≡ set_row h p i
unfolding sift_up
up_stop zero d i h p t = refl
up_stop (suc k) d i h p (inl t) = rw (le-leb p 1 t)
up_stop (suc k) d i h p (inr t) = rw t (cond_same (leb p 1) (set_row h p i))

pub up_go : (k : ℕ) (d : List Float) (i : ℕ) (h : Heap) (p : ℕ) → 1 < p → le (key_of d (row_at h (p / 2))) (key_of d i) ≡ false
    → sift_up (suc k) d i h p ≡ sift_up k d i (set_row h p (row_at h (p / 2))) (p / 2)
unfolding sift_up
up_go k d i h p l t = rw (lt-leb p 1 l, t)

pub down_stop : (k : ℕ) (d : List Float) (i : ℕ) (h : Heap) (p : ℕ) → (h.len < 2 * p) ⊎ (le (key_of d i) (key_of d (row_at h (child_of d h p))) ≡ true)
    → sift_down k d i h p ≡ set_row h p i
unfolding sift_down
down_stop zero d i h p t = refl
down_stop (suc k) d i h p (inl t) = rw (lt-ltb h.len (2 * p) t)
down_stop (suc k) d i h p (inr t) = rw t (cond_same (ltb h.len (2 * p)) (set_row h p i))

pub down_go : (k : ℕ) (d : List Float) (i : ℕ) (h : Heap) (p : ℕ) → 2 * p ≤ h.len → le (key_of d i) (key_of d (row_at h (child_of d h p))) ≡ false
    → sift_down (suc k) d i h p ≡ sift_down k d i (set_row h p (row_at h (child_of d h p))) (child_of d h p)
unfolding sift_down
down_go k d i h p l t = rw (le-ltb h.len (2 * p) l, t)

pub chosen_range : (left len : ℕ) (x y : Float) → left ≤ len → (left ≤ chosen left len x y) × (chosen left len x y ≤ left + 1) × (chosen left len x y ≤ len)
unfolding chosen
chosen_range left len x y l = go (ltb left len) refl (lt y x)
  where
    go : (b : Bool) → ltb left len ≡ b → (t : Bool) → (left ≤ cond (b && t) (left + 1) left) × (cond (b && t) (left + 1) left ≤ left + 1)
        × (cond (b && t) (left + 1) left ≤ len)
    go true e true = omega (arith, ltb-true)
    go true e false = omega arith
    go false e t = omega arith

pub child_range : (d : List Float) (h : Heap) (p : ℕ) → 2 * p ≤ h.len → (2 * p ≤ child_of d h p) × (child_of d h p ≤ 2 * p + 1) × (child_of d h p ≤ h.len)
unfolding child_of
child_range d h p l = chosen_range (2 * p) h.len (key_of d (row_at h (2 * p))) (key_of d (row_at h (2 * p + 1))) l

-- ---- a row moving up from `place`: it stands at p
pub record Rising (n i : ℕ) (x : Float) (place : ℕ) (heap₀ pos₀ : List ℕ) (keys₀ : List Float) (heap pos : List ℕ) (keys : List Float) (p : ℕ) : Type 0 where
  pub ready : Ready n heap pos keys
  pub positive : 1 ≤ p
  pub within : p ≤ place
  pub steps : ℕ
  pub enough : p ≤ steps
  pub run : (d : List Float) (len : ℕ) → place ≤ len → key_of d i ≡ x → Keyed d len place heap₀ keys₀
      → Keyed d len p heap keys × (sift_up steps d i (heap_of heap pos len) p ≡ sift_up place d i (heap_of heap₀ pos₀ len) place)

module _ (n i : ℕ) (x : Float) (place : ℕ) (heap₀ pos₀ : List ℕ) (keys₀ : List Float) (short : place ≤ n) where
  module _ (heap pos : List ℕ) (keys : List Float) (p : ℕ) (r : Rising n i x place heap₀ pos₀ keys₀ heap pos keys p) where
    pub rising_ranges : (p ≤ n) × (length heap ≡ n + 1) × (length pos ≡ n) × (length keys ≡ n) × (n < 2 ^ 32)
    rising_ranges = (omega (arith, r.within), r.ready.places, r.ready.room, r.ready.keyed, r.ready.small)

    pub parent_row : 1 < p → get_or heap (p / 2) 0 < n
    parent_row l = r.ready.rows (p / 2) (omega arith) (omega (arith, r.within))

    -- the key above is the parent's
    above : (d : List Float) (len : ℕ) → 1 < p → place ≤ len → Keyed d len p heap keys → get_or keys (p / 2 - 1) nan ≡ key_of d (get_or heap (p / 2) 0)
    above d len l m K = K.key (p / 2) (omega arith) (omega (arith, r.within)) (λ e. omega arith)

    pub rising_turn : 1 < p → le (get_or keys (p / 2 - 1) nan) x ≡ false → Rising n i x place heap₀ pos₀ keys₀ (set heap p (get_or heap (p / 2) 0))
        (set pos (get_or heap (p / 2) 0) p) (set keys (p - 1) (get_or keys (p / 2 - 1) nan)) (p / 2)
    unfolding set_row
    rising_turn l t = go r.steps r.enough r.run
      where
        a : ℕ
        a = get_or heap (p / 2) 0

        y : Float
        y = get_or keys (p / 2 - 1) nan

        go : (k : ℕ) → p ≤ k → ((d : List Float) (len : ℕ) → place ≤ len → key_of d i ≡ x → Keyed d len place heap₀ keys₀ → Keyed d len p heap keys
            × (sift_up k d i (heap_of heap pos len) p ≡ sift_up place d i (heap_of heap₀ pos₀ len) place)) → Rising n i x place heap₀ pos₀ keys₀
            (set heap p a) (set pos a p) (set keys (p - 1) y) (p / 2)
        go zero e run = absurd (omega arith)
        go (suc k) e run = record {
          ready = ready_moved n heap pos keys r.ready p a a p (p - 1) y (parent_row l);
          positive = omega arith;
          within = omega (arith, r.within);
          steps = k;
          enough = omega arith;
          run = λ d len m f K.
              let now = run d len m f K in
              let z = above d len l m now.0 in
              let t' : le (key_of d (get_or heap (p / 2) 0)) (key_of d i) ≡ false = rw (← z, f) t in (
                keyed_set d len p (p / 2) heap keys a y r.positive (omega (arith, rising_ranges)) (omega (arith, rising_ranges)) (sym z) now.0,
                sym (moved d len t') ∙ now.1,
              );
        }
          where
            moved : (d : List Float) (len : ℕ) → le (key_of d (get_or heap (p / 2) 0)) (key_of d i) ≡ false
                → sift_up (suc k) d i (heap_of heap pos len) p ≡ sift_up k d i (heap_of (set heap p a) (set pos a p) len) (p / 2)
            moved d len t' = up_go k d i (heap_of heap pos len) p l t'

    pub rising_end : (p ≤ 1) ⊎ (le (get_or keys (p / 2 - 1) nan) x ≡ true) → Lifted i x place heap₀ (set heap p i) pos₀ (set pos i p) keys₀ (set keys (p - 1) x)
    unfolding set_row
    rising_end t d len m f K =
        let now = r.run d len m f K in
        record {
          same = sym (up_stop r.steps d i (heap_of heap pos len) p (go now.0 t (dec_le p 1))) ∙ now.1;
          keyed = keyed_set d len p 0 heap keys i x r.positive (omega (arith, rising_ranges)) (omega (arith, rising_ranges)) f now.0;
        }
      where
        go : Keyed d len p heap keys → (p ≤ 1) ⊎ (le (get_or keys (p / 2 - 1) nan) x ≡ true) → Dec (p ≤ 1) → (p ≤ 1)
            ⊎ (le (key_of d (get_or heap (p / 2) 0)) (key_of d i) ≡ true)
        go K (inl e) b = inl e
        go K (inr e) (yes l) = inl l
        go K (inr e) (no l) = inr (rw (← above d len (omega arith) m K, f) e)

-- ---- a row moving down from place 1, in a heap of len rows: it stands at p
pub record Sinking (n len i : ℕ) (x : Float) (heap₀ pos₀ : List ℕ) (keys₀ : List Float) (heap pos : List ℕ) (keys : List Float) (p : ℕ) : Type 0 where
  pub ready : Ready n heap pos keys
  pub positive : 1 ≤ p
  pub within : p ≤ len
  pub steps : ℕ
  pub enough : len < p + steps
  pub run : (d : List Float) → key_of d i ≡ x → Keyed d len 1 heap₀ keys₀
      → Keyed d len p heap keys × (sift_down steps d i (heap_of heap pos len) p ≡ sift_down (len + 1) d i (heap_of heap₀ pos₀ len) 1)

-- the code's choice of the child, by the keys of the two
abbrev pub child_by : (len : ℕ) (keys : List Float) (p : ℕ) → ℕ
child_by len keys p = chosen (2 * p) len (get_or keys (2 * p - 1) nan) (get_or keys (2 * p) nan)

-- the right one's key counts only if it is in the heap
chosen_same : (left len : ℕ) (x y z : Float) → (left < len → y ≡ z) → chosen left len x y ≡ chosen left len x z
unfolding chosen
chosen_same left len x y z e = go (dec_lt left len)
  where
    go : Dec (left < len) → cond (ltb left len && lt y x) (left + 1) left ≡ cond (ltb left len && lt z x) (left + 1) left
    go (yes l) = rw (e l) refl
    go (no l) = rw (le-ltb left len (omega arith)) refl

module _ (n len i : ℕ) (x : Float) (heap₀ pos₀ : List ℕ) (keys₀ : List Float) (short : len < n) where
  pub sinking_start : Ready n heap₀ pos₀ keys₀ → 1 ≤ len → Sinking n len i x heap₀ pos₀ keys₀ heap₀ pos₀ keys₀ 1
  sinking_start ready h = record { ready = ready; positive = le_refl 1; within = h; steps = len + 1; enough = omega arith; run = λ d e K. (K, refl) }

  module _ (heap pos : List ℕ) (keys : List Float) (p : ℕ) (r : Sinking n len i x heap₀ pos₀ keys₀ heap pos keys p) where
    pub sinking_ranges : (1 ≤ p) × (p ≤ len) × (length heap ≡ n + 1) × (length pos ≡ n) × (length keys ≡ n) × (n < 2 ^ 32)
    sinking_ranges = (r.positive, r.within, r.ready.places, r.ready.room, r.ready.keyed, r.ready.small)

    -- c is the code's choice
    module _ (c : ℕ) (e : c ≡ child_by len keys p) (l : 2 * p ≤ len) where
      pub child_row : (2 * p ≤ c) × (c ≤ len) × (get_or heap c 0 < n)
      child_row =
          let f = rw (← e) at (chosen_range (2 * p) len (get_or keys (2 * p - 1) nan) (get_or keys (2 * p) nan) l) in
          (f.0, f.2, r.ready.rows c (omega (arith, r.positive)) (omega arith))

      -- it is the definition's
      child_is : (d : List Float) → Keyed d len p heap keys → child_of d (heap_of heap pos len) p ≡ c
      unfolding child_of
      child_is d K =
          let a : get_or keys (2 * p - 1) nan ≡ key_of d (get_or heap (2 * p) 0) = K.key (2 * p) (omega (arith, r.positive)) l (λ z. omega (arith, r.positive)) in
          let b : 2 * p < len → key_of d (get_or heap (2 * p + 1) 0) ≡ get_or keys (2 * p) nan =
          λ m. sym (ap (λ (q : ℕ). get_or keys q nan) (let q : 2 * p ≡ 2 * p + 1 - 1 = omega arith in q) ∙ K.key (2 * p + 1) (omega arith)
          (omega arith) (λ z. omega arith)) in
          rw (← a) (chosen_same (2 * p) len (get_or keys (2 * p - 1) nan) (key_of d (get_or heap (2 * p + 1) 0)) (get_or keys (2 * p) nan) b) ∙ sym e

      below : (d : List Float) → Keyed d len p heap keys → get_or keys (c - 1) nan ≡ key_of d (get_or heap c 0)
      below d K = K.key c (omega (arith, r.positive, child_row)) child_row.1 (λ z. omega (arith, r.positive, child_row))

      turn : le x (get_or keys (c - 1) nan) ≡ false → (k : ℕ) → len < p + k
          → ((d : List Float) → key_of d i ≡ x → Keyed d len 1 heap₀ keys₀ → Keyed d len p heap keys
          × (sift_down k d i (heap_of heap pos len) p ≡ sift_down (len + 1) d i (heap_of heap₀ pos₀ len) 1)) → Sinking n len i x heap₀ pos₀ keys₀
          (set heap p (get_or heap c 0)) (set pos (get_or heap c 0) p) (set keys (p - 1) (get_or keys (c - 1) nan)) c
      unfolding set_row
      turn t zero m run = absurd (omega (arith, r.within))
      turn t (suc k) m run = record {
        ready = ready_moved n heap pos keys r.ready p (get_or heap c 0) (get_or heap c 0) p (p - 1) (get_or keys (c - 1) nan) child_row.2;
        positive = omega (arith, r.positive, child_row);
        within = child_row.1;
        steps = k;
        enough = omega (arith, r.positive, child_row);
        run = λ d f K.
            let now = run d f K in (
              keyed_set d len p c heap keys (get_or heap c 0) (get_or keys (c - 1) nan) r.positive (omega (arith, sinking_ranges))
                  (omega (arith, sinking_ranges)) (sym (below d now.0)) now.0,
              sym (moved d f now.0) ∙ now.1,
            );
      }
        where
          moved : (d : List Float) → key_of d i ≡ x → Keyed d len p heap keys → sift_down (suc k) d i (heap_of heap pos len) p ≡ sift_down k d i
              (heap_of (set heap p (get_or heap c 0)) (set pos (get_or heap c 0) p) len) c
          moved d f K =
              let t' : le (key_of d i) (key_of d (get_or heap (child_of d (heap_of heap pos len) p) 0)) ≡ false = rw (child_is d K, ← below d K, f) t in
              rw (child_is d K) at (down_go k d i (heap_of heap pos len) p l t')

      pub sinking_turn : le x (get_or keys (c - 1) nan) ≡ false → Sinking n len i x heap₀ pos₀ keys₀ (set heap p (get_or heap c 0))
          (set pos (get_or heap c 0) p) (set keys (p - 1) (get_or keys (c - 1) nan)) c
      sinking_turn t = turn t r.steps r.enough r.run

    -- the row is put down where it stands
    put_down : ((d : List Float) → key_of d i ≡ x → Keyed d len p heap keys → (len < 2 * p)
        ⊎ (le (key_of d i) (key_of d (row_at (heap_of heap pos len) (child_of d (heap_of heap pos len) p))) ≡ true)) → Sunk len i x heap₀ (set heap p i) pos₀
        (set pos i p) keys₀ (set keys (p - 1) x)
    unfolding set_row
    put_down t d f K =
        let now = r.run d f K in
        record {
          same = sym (down_stop r.steps d i (heap_of heap pos len) p (t d f now.0)) ∙ now.1;
          keyed = keyed_set d len p 0 heap keys i x r.positive (omega (arith, sinking_ranges)) (omega (arith, sinking_ranges)) f now.0;
        }

    pub sinking_end : len < 2 * p → Sunk len i x heap₀ (set heap p i) pos₀ (set pos i p) keys₀ (set keys (p - 1) x)
    sinking_end l = put_down (λ d f K. inl l)

    pub sinking_stop : (c : ℕ) → c ≡ child_by len keys p → 2 * p ≤ len → le x (get_or keys (c - 1) nan) ≡ true → Sunk len i x heap₀ (set heap p i) pos₀
        (set pos i p) keys₀ (set keys (p - 1) x)
    sinking_stop c e l t = put_down (λ d f K. inr (rw (child_is c e l d K, ← below c e l d K, f) t))

-- ---- the whole steps of the definition
pub insert_is : (d : List Float) (i : ℕ) (h : Heap) → i < length h.pos → insert d i h ≡ sift_up (h.len + 1) d i
    (set_place h i (h.len + 1) (h.len + 1)) (h.len + 1)
unfolding insert set_place
insert_is d i h l =
    let g : Heap = set_place h i (h.len + 1) (h.len + 1) in
    let e : place_of g i ≡ h.len + 1 = get_or-set_same h.pos i (h.len + 1) 0 l in
    ap (λ (p : ℕ). sift_up p d i g p) e

pub pop_is : (d : List Float) (h : Heap) → 1 < h.len → pop d h ≡ sift_down h.len d (row_at h h.len) (set_place h (row_at h 1) 0 (h.len - 1)) 1
unfolding pop
pop_is d h l = rw (ne_eqb h.len 1 (λ e. omega arith))

pub pop_last_is : (d : List Float) (h : Heap) → h.len ≡ 1 → pop d h ≡ set_place h (row_at h 1) 0 (h.len - 1)
unfolding pop
pop_last_is d h e = rw (eq-eqb h.len 1 e)

-- ---- the whole steps of the code, from what the loops give
pub update_done : (i : ℕ) (x : Float) (heap heap' pos pos' : List ℕ) (keys keys' : List Float)
    → Lifted i x (get_or pos i 0) heap heap' pos pos' keys keys' → Updated i x heap heap' pos pos' keys keys'
unfolding update
update_done i x heap heap' pos pos' keys keys' b = b

module _ (n len : ℕ) (heap pos : List ℕ) (keys : List Float) (l : 1 ≤ len) where
  pub pop_done : (heap' pos' : List ℕ) (keys' : List Float) → 1 < len → Sunk (len - 1) (get_or heap len 0) (get_or keys (len - 1) nan) heap heap'
      (set pos (get_or heap 1 0) 0) pos' keys keys' → Popped len heap heap' pos pos' keys keys' (get_or heap 1 0)
  unfolding set_place
  pop_done heap' pos' keys' k b = record {
    answer = refl;
    left = λ d K.
        let z = b d (sym (K.key len l (le_refl len) (λ e. omega arith))) (keyed_fewer d len (len - 1) 1 heap keys (omega arith) K) in
        let e : len - 1 + 1 ≡ len = omega arith in
        record { same = z.same ∙ rw e (sym (pop_is d (heap_of heap pos len) k)); keyed = z.keyed };
  }

  pub pop_last : len ≡ 1 → Popped len heap heap pos (set pos (get_or heap 1 0) 0) keys keys (get_or heap 1 0)
  unfolding set_place
  pop_last e = record {
    answer = refl;
    left = λ d K. record { same = sym (pop_last_is d (heap_of heap pos len) e); keyed = keyed_fewer d len (len - 1) 0 heap keys (omega arith) K };
  }
