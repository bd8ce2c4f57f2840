-- A row that moves up or down is a chain of exchanges of two places: with the hole at p filled by its row i, each turn of a sift exchanges p and a neighbour.
-- An exchange keeps the arrays inverse and the rows the same; so does the chain. `Rises` and `Sinks` are the chains, with what each turn tested.
use mathlib.Core.Path.{◌≡◌, refl, sym, ap, ◌∙◌}
use mathlib.Core.Logic.{◌⊎◌, inl, inr}
use mathlib.Core.List.{List}
use mathlib.Core.Bool.{Bool, true, false}
use Prim.Native.Nat.{ℕ, zero, suc, ◌+◌, ◌*◌, ◌/◌, ◌≤◌, ◌<◌}
use native.Mathlib.Decide.{ℕ_discrete, dec_le}
use native.Mathlib.Omega.{arith}
use lib.ListN.{length, set, length-set}
use lib.Seq.{get_or-set_same, get_or-set_other}
use lib.Ieee.{Float, le}
use Rattle.index_heap.specs.IndexHeap.{Heap, row_at, place_of, key_of, set_row, sift_up, child_of, sift_down}
use Rattle.index_heap.specs.inner.Invariant.{Within, Inverse, SameRows}
use Rattle.index_heap.proofs.Steps.{up_stop, up_go, down_stop, down_go, child_range}

-- ---- an exchange of places p and q
pub record Exchanged (p q : ℕ) (g g' : Heap) : Type 0 where
  pub heap_length : length g'.heap ≡ length g.heap
  pub pos_length : length g'.pos ≡ length g.pos
  pub len : g'.len ≡ g.len
  pub first : row_at g' p ≡ row_at g q
  pub second : row_at g' q ≡ row_at g p
  pub others : (x : ℕ) → (x ≡ p → ⊥) → (x ≡ q → ⊥) → row_at g' x ≡ row_at g x
  pub first_place : place_of g' (row_at g q) ≡ p
  pub second_place : place_of g' (row_at g p) ≡ q
  pub other_places : (i : ℕ) → (i ≡ row_at g q → ⊥) → (i ≡ row_at g p → ⊥) → place_of g' i ≡ place_of g i

-- two places of an inverse heap hold two rows
pub apart : (n : ℕ) (g : Heap) (p q : ℕ) → Inverse n g → 1 ≤ p → p ≤ g.len → 1 ≤ q → q ≤ g.len → (p ≡ q → ⊥) → row_at g p ≡ row_at g q → ⊥
apart n g p q inv a b c e f h = f (sym (inv.placed p a b) ∙ ap (place_of g) h ∙ inv.placed q c e)

module _ (n : ℕ) (g g' : Heap) (p q : ℕ) (inv : Inverse n g) (p1 : 1 ≤ p) (pl : p ≤ g.len) (q1 : 1 ≤ q) (ql : q ≤ g.len) (s : Exchanged p q g g') where
  rows_kept_lem : (x : ℕ) → 1 ≤ x → x ≤ n → row_at g' x < n
  rows_kept_lem x a b = go (ℕ_discrete x p) (ℕ_discrete x q)
    where
      go : Dec (x ≡ p) → Dec (x ≡ q) → row_at g' x < n
      go (yes e) f = rw (e, s.first) (inv.rows q q1 (omega (arith, inv.room)))
      go (no e) (yes f) = rw (f, s.second) (inv.rows p p1 (omega (arith, inv.room)))
      go (no e) (no f) = rw (s.others x e f) (inv.rows x a b)

  placed_kept : (x : ℕ) → 1 ≤ x → x ≤ g'.len → place_of g' (row_at g' x) ≡ x
  placed_kept x a b = go (ℕ_discrete x p) (ℕ_discrete x q)
    where
      l : x ≤ g.len
      l = omega (arith, s.len)

      go : Dec (x ≡ p) → Dec (x ≡ q) → place_of g' (row_at g' x) ≡ x
      go (yes e) f = rw (e, s.first) s.first_place
      go (no e) (yes f) = rw (f, s.second) s.second_place
      go (no e) (no f) = rw (s.others x e f) (s.other_places (row_at g x) (apart n g x q inv a l q1 ql f) (apart n g x p inv a l p1 pl e) ∙ inv.placed x a l)

  held_kept : (i : ℕ) → Within g' i → (place_of g' i ≤ g'.len) × (row_at g' (place_of g' i) ≡ i)
  held_kept i w = go (ℕ_discrete i (row_at g q)) (ℕ_discrete i (row_at g p))
    where
      go : Dec (i ≡ row_at g q) → Dec (i ≡ row_at g p) → (place_of g' i ≤ g'.len) × (row_at g' (place_of g' i) ≡ i)
      go (yes e) f = rw (e, s.first_place) (omega (arith, s.len), s.first)
      go (no e) (yes f) = rw (f, s.second_place) (omega (arith, s.len), s.second)
      go (no e) (no f) =
          let m : place_of g' i ≡ place_of g i = s.other_places i e f in
          let h : (place_of g i ≤ g.len) × (row_at g (place_of g i) ≡ i) = inv.held i (omega arith) in
          let a : place_of g i ≡ p → ⊥ = λ z. f (sym h.1 ∙ ap (row_at g) z) in
          let b : place_of g i ≡ q → ⊥ = λ z. e (sym h.1 ∙ ap (row_at g) z) in
          (omega (arith, s.len), rw m (s.others (place_of g i) a b ∙ h.1))

  pub inverse_kept : Inverse n g'
  inverse_kept = record {
    heap_length = s.heap_length ∙ inv.heap_length;
    pos_length = s.pos_length ∙ inv.pos_length;
    room = omega (arith, s.len, inv.room);
    rows = rows_kept_lem;
    placed = placed_kept;
    held = held_kept;
  }

  same_rows : SameRows g g'
  same_rows = record {
    len = s.len;
    stays = λ i w. stays i w (ℕ_discrete i (row_at g q)) (ℕ_discrete i (row_at g p));
    was =
        λ i w. was i w (ℕ_discrete i (row_at g q)) (ℕ_discrete i (row_at g p));
  }
    where
      stays : (i : ℕ) → Within g i → Dec (i ≡ row_at g q) → Dec (i ≡ row_at g p) → Within g' i
      stays i w (yes e) f = rw (e, s.first_place) p1
      stays i w (no e) (yes f) = rw (f, s.second_place) q1
      stays i w (no e) (no f) = rw (s.other_places i e f) w

      was : (i : ℕ) → Within g' i → Dec (i ≡ row_at g q) → Dec (i ≡ row_at g p) → Within g i
      was i w (yes e) f = rw (e, inv.placed q q1 ql) q1
      was i w (no e) (yes f) = rw (f, inv.placed p p1 pl) p1
      was i w (no e) (no f) = rw (s.other_places i e f) at w

-- ---- the exchange that a turn of a sift makes
module _ (n : ℕ) (h : Heap) (p i : ℕ) (inv : Inverse n (set_row h p i)) (p1 : 1 ≤ p) (pl : p ≤ h.len) (i< : i < n) where
  heap_length_lem : length h.heap ≡ n + 1
  unfolding set_row
  heap_length_lem = sym (length-set h.heap p i) ∙ inv.heap_length

  pos_length_lem : length h.pos ≡ n
  unfolding set_row
  pos_length_lem = sym (length-set h.pos i p) ∙ inv.pos_length

  room : h.len ≤ n
  unfolding set_row
  room = inv.room

  pub own_row : row_at (set_row h p i) p ≡ i
  unfolding set_row
  own_row = get_or-set_same h.heap p i 0 (omega (arith, heap_length_lem, room))

  pub other_row : (x : ℕ) → (x ≡ p → ⊥) → row_at (set_row h p i) x ≡ row_at h x
  unfolding set_row
  other_row x e = get_or-set_other h.heap p x i 0 e

  pub turn_exchanges : (q : ℕ) → 1 ≤ q → q ≤ h.len → (q ≡ p → ⊥) → Exchanged p q (set_row h p i) (set_row (set_row h p (row_at h q)) q i)
  unfolding set_row
  turn_exchanges q q1 ql e =
      let a : ℕ = row_at h q in
      let f : a ≡ i → ⊥ = λ z. apart n (set_row h p i) q p inv q1 ql p1 pl e (other_row q e ∙ z ∙ sym own_row) in
      let a< : a < n = rw (other_row q e) at (inv.rows q q1 (omega (arith, room))) in
      let e' : p ≡ q → ⊥ = λ z. e (sym z) in
      record {
        heap_length = simp length-set;
        pos_length = simp length-set;
        len = refl;
        first = get_or-set_other (set h.heap p a) q p i 0 e' ∙ get_or-set_same h.heap p a 0 (omega (arith, heap_length_lem, room)) ∙ sym (other_row q e);
        second = get_or-set_same (set h.heap p a) q i 0 (simp length-set (omega (arith, heap_length_lem, room))) ∙ sym own_row;
        others = λ x y z. get_or-set_other (set h.heap p a) q x i 0 z ∙ get_or-set_other h.heap p x a 0 y ∙ sym (other_row x y);
        first_place = rw (other_row q e) (get_or-set_other (set h.pos a p) i a q 0 f ∙ get_or-set_same h.pos a p 0 (omega (arith, pos_length_lem)));
        second_place = rw own_row (get_or-set_same (set h.pos a p) i q 0 (simp length-set (omega (arith, pos_length_lem))));
        other_places = λ j y z.
            let y' : j ≡ a → ⊥ = rw (other_row q e) at y in
            let z' : j ≡ i → ⊥ = rw own_row at z in
            get_or-set_other (set h.pos a p) i j q 0 z' ∙ get_or-set_other h.pos a j p 0 y' ∙ sym (get_or-set_other h.pos i j p 0 z');
      }

-- ---- the chains, from place p of g on
pub data Rises (d : List Float) : ℕ → Heap → Heap → Type 0 where
  risen : {p : ℕ} {g : Heap} → (p ≤ 1) ⊎ (le (key_of d (row_at g (p / 2))) (key_of d (row_at g p)) ≡ true) → Rises d p g g
  rise : {p : ℕ} {g g' r : Heap} → 1 < p → le (key_of d (row_at g (p / 2))) (key_of d (row_at g p)) ≡ false → Exchanged p (p / 2) g g'
      → Rises d (p / 2) g' r → Rises d p g r

pub data Sinks (d : List Float) : ℕ → Heap → Heap → Type 0 where
  sunk : {p : ℕ} {g : Heap} → (g.len < 2 * p) ⊎ ((2 * p ≤ g.len) × (le (key_of d (row_at g p)) (key_of d (row_at g (child_of d g p))) ≡ true)) → Sinks d p g g
  sink : {p : ℕ} {g g' r : Heap} → 2 * p ≤ g.len → le (key_of d (row_at g p)) (key_of d (row_at g (child_of d g p))) ≡ false
      → Exchanged p (child_of d g p) g g' → Sinks d (child_of d g p) g' r → Sinks d p g r

module _ (n : ℕ) (d : List Float) (i : ℕ) (i< : i < n) where
  pub rises : (k : ℕ) (h : Heap) (p : ℕ) → Inverse n (set_row h p i) → 1 ≤ p → p ≤ h.len → p ≤ k → Rises d p (set_row h p i) (sift_up k d i h p)
  unfolding set_row
  rises zero h p inv p1 pl e = absurd (omega arith)
  rises (suc k) h p inv p1 pl e = go (dec_le p 1) (le (key_of d (row_at h (p / 2))) (key_of d i)) refl (rises k (set_row h p (row_at h (p / 2))) (p / 2))
    where
      g : Heap
      g = set_row h p i

      moved : Heap
      moved = set_row h p (row_at h (p / 2))

      test : 1 < p → (b : Bool) → le (key_of d (row_at h (p / 2))) (key_of d i) ≡ b → le (key_of d (row_at g (p / 2))) (key_of d (row_at g p)) ≡ b
      test l b t = rw (other_row n h p i inv p1 pl i< (p / 2) (λ z. omega arith), own_row n h p i inv p1 pl i<) t

      go : Dec (p ≤ 1) → (b : Bool) → le (key_of d (row_at h (p / 2))) (key_of d i) ≡ b
          → (Inverse n (set_row moved (p / 2) i) → 1 ≤ p / 2 → p / 2 ≤ h.len → p / 2 ≤ k → Rises d (p / 2) (set_row moved (p / 2) i)
          (sift_up k d i moved (p / 2))) → Rises d p g (sift_up (suc k) d i h p)
      go (yes l) b t again = rw (up_stop (suc k) d i h p (inl l)) (risen (inl l))
      go (no l) true t again = rw (up_stop (suc k) d i h p (inr t)) (risen (inr (test (omega arith) true t)))
      go (no l) false t again =
          let p2 : 1 < p = omega arith in
          let q1 : 1 ≤ p / 2 = omega arith in
          let ql : p / 2 ≤ h.len = omega arith in
          let x : Exchanged p (p / 2) g (set_row moved (p / 2) i) = turn_exchanges n h p i inv p1 pl i< (p / 2) q1 ql (λ z. omega arith) in
          rw (up_go k d i h p p2 t)
          (rise p2 (test p2 false t) x (again (inverse_kept n g (set_row moved (p / 2) i) p (p / 2) inv p1 pl q1 ql x) q1 ql (omega arith)))

  pub sinks : (k : ℕ) (h : Heap) (p : ℕ) → Inverse n (set_row h p i) → 1 ≤ p → p ≤ h.len → h.len < p + k → Sinks d p (set_row h p i) (sift_down k d i h p)
  unfolding set_row child_of
  sinks zero h p inv p1 pl e = absurd (omega arith)
  sinks (suc k) h p inv p1 pl e = go (dec_le (2 * p) h.len) (le (key_of d i) (key_of d (row_at h (child_of d h p)))) refl
      (sinks k (set_row h p (row_at h (child_of d h p))) (child_of d h p))
    where
      g : Heap
      g = set_row h p i

      c : ℕ
      c = child_of d h p

      moved : Heap
      moved = set_row h p (row_at h c)

      same : (x : ℕ) → p < x → row_at g x ≡ row_at h x
      same x l = other_row n h p i inv p1 pl i< x (λ z. omega arith)

      child : child_of d g p ≡ c
      child = rw (same (2 * p + 1) (omega arith), same (2 * p) (omega arith)) refl

      within : 2 * p ≤ h.len → (2 * p ≤ c) × (c ≤ 2 * p + 1) × (c ≤ h.len)
      within l = child_range d h p l

      test : 2 * p ≤ h.len → (b : Bool) → le (key_of d i) (key_of d (row_at h c)) ≡ b → le (key_of d (row_at g p)) (key_of d (row_at g (child_of d g p))) ≡ b
      test l b t = rw (child, same c (omega (arith, within l)), own_row n h p i inv p1 pl i<) t

      go : Dec (2 * p ≤ h.len) → (b : Bool) → le (key_of d i) (key_of d (row_at h c)) ≡ b
          → (Inverse n (set_row moved c i) → 1 ≤ c → c ≤ h.len → h.len < c + k → Sinks d c (set_row moved c i) (sift_down k d i moved c))
          → Sinks d p g (sift_down (suc k) d i h p)
      go (no l) b t again = let m : h.len < 2 * p = omega arith in rw (down_stop (suc k) d i h p (inl m)) (sunk (inl m))
      go (yes l) true t again = rw (down_stop (suc k) d i h p (inr t)) (sunk (inr (l, test l true t)))
      go (yes l) false t again =
          let c1 : 1 ≤ c = omega (arith, within l) in
          let cl : c ≤ h.len = (within l).2 in
          let x : Exchanged p c g (set_row moved c i) = turn_exchanges n h p i inv p1 pl i< c c1 cl (λ z. omega (arith, within l)) in
          let s : Sinks d c (set_row moved c i) (sift_down k d i moved c) =
          again (inverse_kept n g (set_row moved c i) p c inv p1 pl c1 cl x) c1 cl (omega (arith, within l)) in
          let x' : Exchanged p (child_of d g p) g (set_row moved c i) = rw child x in
          let s' : Sinks d (child_of d g p) (set_row moved c i) (sift_down k d i moved c) = rw child s in
          rw (down_go k d i h p l t) (sink l (test l false t) x' s')

-- ---- what a chain keeps
pub record Kept (n : ℕ) (g g' : Heap) : Type 0 where
  pub inverse : Inverse n g'
  pub rows : SameRows g g'

kept_none : {n : ℕ} {g : Heap} → Inverse n g → Kept n g g
kept_none inv = record { inverse = inv; rows = record { len = refl; stays = λ i w. w; was = λ i w. w } }

kept_more : {n : ℕ} {g g' r : Heap} → SameRows g g' → Kept n g' r → Kept n g r
kept_more s k = record {
  inverse = k.inverse;
  rows = record { len = k.rows.len ∙ s.len; stays = λ i w. k.rows.stays i (s.stays i w); was = λ i w. s.was i (k.rows.was i w) };
}

pub kept_rise : {n : ℕ} {d : List Float} {p : ℕ} {g r : Heap} → Inverse n g → 1 ≤ p → p ≤ g.len → Rises d p g r → Kept n g r
kept_rise inv p1 pl (risen t) = kept_none inv
kept_rise {n} inv p1 pl (rise {p = p} {g = g} {g' = g'} l t x rest) =
    let q1 : 1 ≤ p / 2 = omega arith in
    let ql : p / 2 ≤ g.len = omega arith in
    kept_more (same_rows n g g' p (p / 2) inv p1 pl q1 ql x) (kept_rise (inverse_kept n g g' p (p / 2) inv p1 pl q1 ql x) q1 (omega (arith, x.len)) rest)

pub kept_sink : {n : ℕ} {d : List Float} {p : ℕ} {g r : Heap} → Inverse n g → 1 ≤ p → p ≤ g.len → Sinks d p g r → Kept n g r
kept_sink inv p1 pl (sunk t) = kept_none inv
kept_sink {n} {d = d} inv p1 pl (sink {p = p} {g = g} {g' = g'} l t x rest) =
    let c : ℕ = child_of d g p in
    let f : (2 * p ≤ c) × (c ≤ 2 * p + 1) × (c ≤ g.len) = child_range d g p l in
    let c1 : 1 ≤ c = omega arith in
    kept_more (same_rows n g g' p c inv p1 pl c1 f.2 x) (kept_sink (inverse_kept n g g' p c inv p1 pl c1 f.2 x) c1 (omega (arith, x.len)) rest)
