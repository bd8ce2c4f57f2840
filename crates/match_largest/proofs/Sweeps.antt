-- The search between two entries: how one more entry keeps what holds (`step`), and what holds at the end (`sweep_ends`). The queue has room since
-- each place that it takes is that of a row that was not marked.
use mathlib.Core.Path.{◌≡◌, refl, sym, ap, ◌∙◌, subst}
use mathlib.Core.Logic.{◌≢◌}
use mathlib.Core.Bool.{Bool, true, false, ◌&&◌}
use mathlib.Core.List.{List}
use Prim.Native.Nat.{ℕ, ◌+◌, ◌≤◌, ◌<◌}
use native.Mathlib.Nat.{not-suc-le-zero}
use native.Mathlib.Decide.{ℕ_discrete, dec_lt}
use native.Mathlib.Omega.{arith}
use borrow.Author.Tests.{eq-eqb, lt-ltb, ltb-true}
use lib.Dec.{T, eqb, ltb}
use lib.ListN.{get_or, set, length-set}
use lib.Seq.{get_or-set_same, get_or-set_other}
use mir.Val.{bool_byte}
use Rattle.slices.proofs.Bools.{both}
use Rattle.sparse.specs.Columns.{Columns}
use Rattle.matching.specs.Sum.{sum_to, or_zero}
use Rattle.matching.proofs.Sums.{sum_change}
use Rattle.sparse.specs.Pattern.{Pattern, row_of, column_of, entries, start, end, InColumn}
use Rattle.sparse.proofs.Columns.{in_column_lem, column-is, in_entries}
use Rattle.match_largest.specs.inner.Sweeps.{Led, Waits, unmet, Sweeping, Swept}
use Rattle.match_largest.proofs.Queueing.{bit_byte}

-- the column j at `head` is being scanned, its entries before k are done
pub record Scanning (g : Pattern) (inverse met queue : List ℕ) (head j k last : ℕ) : Type 0 where
  pub sweeping : Sweeping g inverse met queue head k last
  pub waits : head < last
  pub column : get_or queue head 0 ≡ j
  pub above : start g j ≤ k
  pub below : k ≤ end g j

-- the queue is never longer than n
pub last_few : {g : Pattern} {inverse met queue : List ℕ} {head k last : ℕ} → Sweeping g inverse met queue head k last → last ≤ g.n
last_few s = omega (arith, s.left)

pub scan_begins : {g : Pattern} {inverse met queue : List ℕ} {head last : ℕ} → Sweeping g inverse met queue head 0 last → head < last
    → start g (get_or queue head 0) ≤ end g (get_or queue head 0) → Scanning g inverse met queue head (get_or queue head 0) (start g (get_or queue head 0)) last
scan_begins {g} s h l = record {
  sweeping = record {
    marks = s.marks;
    places = s.places;
    before = s.before;
    left = s.left;
    bits = s.bits;
    columns = s.columns;
    frees = s.frees;
    waiting = s.waiting;
    swept = s.swept;
    begun = λ m b c. let z : ⊥ = omega (arith, c.above) in absurd z;
    sound = s.sound;
  };
  waits = h;
  column = refl;
  above = omega arith;
  below = l;
}

pub scan_ends : {g : Pattern} {inverse met queue : List ℕ} {head j k last : ℕ} → Scanning g inverse met queue head j k last → end g j ≤ k
    → Sweeping g inverse met queue (head + 1) 0 last
scan_ends {g} {inverse} {met} {queue} {head} {j} {k} {last} s l =
    let w = s.sweeping in
    record {
      marks = w.marks;
      places = w.places;
      before = omega (arith, s.waits);
      left = w.left;
      bits = w.bits;
      columns = w.columns;
      frees = w.frees;
      waiting = w.waiting;
      swept = λ p m b c. elim (ℕ_discrete p head) [
        | yes e ↦
            let d : InColumn g (get_or queue head 0) m = subst (λ (i : ℕ). InColumn g (get_or queue i 0) m) e c in
            let q : m < end g j = subst (λ (i : ℕ). m < end g i) s.column d.below in
            w.begun m (omega arith) d
        | no d ↦ w.swept p m (omega arith) c
      ];
      begun = λ m b c. absurd (not-suc-le-zero b);
      sound = w.sound;
    }

-- ---- one entry more
module _ {g : Pattern} (few : g.n ≤ 4096) (cols : Columns g.n g.col_ptr g.row_idx)
    {inverse met queue : List ℕ} {head j k last : ℕ} (s : Scanning g inverse met queue head j k last) (h : k < end g j) where
  abbrev old : Sweeping g inverse met queue head k last
  old = s.sweeping

  abbrev row : ℕ
  row = row_of g k

  abbrev taker : ℕ
  taker = get_or inverse row 0

  abbrev marked : List ℕ
  marked = set met row 1

  abbrev longer : List ℕ
  longer = set queue last taker

  pub head_column : j < g.n
  head_column = omega (arith, s.column, (old.columns head s.waits).0)

  entry_in : InColumn g j k
  entry_in = record { column = head_column; above = s.above; below = h }

  pub entry_within : k < entries g
  entry_within = in_entries g cols j k entry_in

  pub row_below : row < g.n
  row_below = cols.inside k entry_within

  led : Led g inverse (column_of g k)
  led = subst (Led g inverse) (s.column ∙ sym (column-is g cols j k entry_in)) (old.columns head s.waits).1

  here : get_or marked row 0 ≡ 1
  here = get_or-set_same met row 1 0 (omega (arith, old.marks, row_below))

  there : (i : ℕ) → i ≢ row → get_or marked i 0 ≡ get_or met i 0
  there i d = get_or-set_other met row i 1 0 d

  kept : (i : ℕ) → get_or met i 0 ≡ 1 → get_or marked i 0 ≡ 1
  kept i m = elim (ℕ_discrete i row) [
    | yes e ↦ ap (λ (r : ℕ). get_or marked r 0) e ∙ here
    | no d ↦ there i d ∙ m
  ]

  placed : get_or longer last 0 ≡ taker
  placed = get_or-set_same queue last taker 0 (omega (arith, old.places, last_few old))

  earlier : (p : ℕ) → p < last → get_or longer p 0 ≡ get_or queue p 0
  earlier p l = get_or-set_other queue last p taker 0 (λ e. let z : ⊥ = omega arith in z)

  abbrev fresh : Bool
  fresh = unmet g.n inverse met row

  -- the row is not counted any more, and was before if its column is queued
  room : (b : Bool) → fresh ≡ b → last + bool_byte b + sum_to g.n (λ i. or_zero (unmet g.n inverse marked i) 1) ≡ g.n
  room b e =
      let gone : unmet g.n inverse marked row ≡ false = ap (λ (m : ℕ). eqb m 0 && ltb taker g.n) here in
      let same : (i : ℕ) → i < g.n → i ≢ row → or_zero (unmet g.n inverse marked i) 1 ≡ or_zero (unmet g.n inverse met i) 1 =
      λ i l d. ap (λ (m : ℕ). or_zero (eqb m 0 && ltb (get_or inverse i 0) g.n) 1) (there i d) in
      omega (
        arith,
        old.left,
        sum_change g.n (λ i. or_zero (unmet g.n inverse marked i) 1) (λ i. or_zero (unmet g.n inverse met i) 1) row row_below same,
        ap (λ (t : Bool). or_zero t 1) gone,
        ap (λ (t : Bool). or_zero t 1) e ∙ bit_byte b,
      )

  module _ (b : Bool) (e : fresh ≡ b) where
    abbrev next : ℕ
    next = last + bool_byte b

    still : {c : ℕ} → Waits queue last c → Waits longer next c
    still w = record { place = w.place; before = omega (arith, w.before); column = earlier w.place w.before ∙ w.column }

    -- a place behind the old ones is the new one's
    new : (p : ℕ) → p < next → (p < last → ⊥) → (p ≡ last) × (taker < g.n)
    new p l n = go b e l
      where
        go : (t : Bool) → fresh ≡ t → p < last + bool_byte t → (p ≡ last) × (taker < g.n)
        go true q m = (omega arith, ltb-true taker g.n (both (eqb (get_or met row 0) 0) (ltb taker g.n) q).1)
        go false q m = absurd (n (omega arith))

    columns : (p : ℕ) → p < next → (get_or longer p 0 < g.n) × Led g inverse (get_or longer p 0)
    columns p l = elim (dec_lt p last) [
      | yes m ↦ let c = old.columns p m in (omega (arith, earlier p m, c.0), subst (Led g inverse) (sym (earlier p m)) c.1)
      | no m ↦
          let q = new p l m in
          let at : get_or longer p 0 ≡ taker = ap (λ (i : ℕ). get_or longer i 0) q.0 ∙ placed in
          (omega (arith, at, q.1), subst (Led g inverse) (sym at) (Led.goes k entry_within led q.1 refl))
    ]

    queued : get_or met row 0 ≡ 0 → taker < g.n → Waits longer next taker
    queued m l = go b (sym e ∙ t)
      where
        t : fresh ≡ true
        t = rw (eq-eqb (get_or met row 0) 0 m, lt-ltb taker g.n l) refl

        go : (q : Bool) → q ≡ true → Waits longer (last + bool_byte q) taker
        go true z = record { place = last; before = omega arith; column = placed }
        go false z = let y : ⊥ = subst T (sym z) tt in absurd y

    waiting : (i : ℕ) → i < g.n → get_or marked i 0 ≡ 1 → get_or inverse i 0 < g.n → Waits longer next (get_or inverse i 0)
    waiting i l m t = elim (ℕ_discrete i row) [
      | yes q ↦
          let taken : taker < g.n = subst (λ (r : ℕ). get_or inverse r 0 < g.n) q t in
          subst (λ (r : ℕ). Waits longer next (get_or inverse r 0)) (sym q) (elim (ℕ_discrete (get_or met row 0) 0) [
            | yes z ↦ queued z taken
            | no z ↦ still (old.waiting row row_below (omega (arith, old.bits row)) taken)
          ])
      | no d ↦ still (old.waiting i l (sym (there i d) ∙ m) t)
    ]

    swept : Sweeping g inverse marked longer head (k + 1) next
    swept = record {
      marks = length-set met row 1 ∙ old.marks;
      places = length-set queue last taker ∙ old.places;
      before = omega (arith, s.waits);
      left = room b e;
      bits = λ i. elim (ℕ_discrete i row) [
        | yes q ↦ omega (arith, ap (λ (r : ℕ). get_or marked r 0) q, here)
        | no d ↦ omega (arith, there i d, old.bits i)
      ];
      columns = columns;
      frees = λ c l f. still (old.frees c l f);
      waiting = waiting;
      swept = λ p l m c. kept (row_of g l) (old.swept p l m (subst (λ (i : ℕ). InColumn g i l) (earlier p (omega (arith, s.waits))) c));
      begun = λ l m c.
          let d : InColumn g (get_or queue head 0) l = subst (λ (i : ℕ). InColumn g i l) (earlier head s.waits) c in
          elim (ℕ_discrete l k) [
            | yes q ↦ ap (λ (i : ℕ). get_or marked (row_of g i) 0) q ∙ here
            | no n ↦ kept (row_of g l) (old.begun l (omega arith) d)
          ];
      sound = λ i l m. elim (ℕ_discrete i row) [
        | yes q ↦ record { entry = k; within = entry_within; row = sym q; column = led }
        | no d ↦ old.sound i l (sym (there i d) ∙ m)
      ];
    }

  pub step : Scanning g inverse marked longer head j (k + 1) (last + bool_byte fresh)
  step = record {
    sweeping = swept fresh refl;
    waits = omega (arith, s.waits);
    column = earlier head s.waits ∙ s.column;
    above = omega (arith, s.above);
    below = omega arith;
  }

-- ---- the end
module _ {g : Pattern} (cols : Columns g.n g.col_ptr g.row_idx) {inverse met queue : List ℕ} {head last : ℕ}
    (s : Sweeping g inverse met queue head 0 last) (l : last ≤ head) where
  done : {c : ℕ} → Waits queue last c → (m : ℕ) → InColumn g c m → get_or met (row_of g m) 0 ≡ 1
  done {c} w m i = s.swept w.place m (omega (arith, w.before)) (subst (λ (d : ℕ). InColumn g d m) (sym w.column) i)

  -- every entry of a column that a path leads to is in a marked row
  closed : {c : ℕ} → Led g inverse c → (m : ℕ) → InColumn g c m → get_or met (row_of g m) 0 ≡ 1
  closed {c} (Led.begins h f) = done (s.frees c h f)
  closed {c} (Led.goes k b r h e) =
      let w = s.waiting (row_of g k) (cols.inside k b) (closed r k (in_column_lem g cols k b)) (subst (λ (d : ℕ). d < g.n) (sym e) h) in
      done (subst (Waits queue last) e w)

  pub sweep_ends : Swept g inverse met
  sweep_ends = record {
    marks = s.marks;
    bits = s.bits;
    exactly = λ i h. (
      s.sound i h,
      λ r. subst (λ (m : ℕ). get_or met m 0 ≡ 1) r.row
          (closed r.column r.entry (in_column_lem g cols r.entry r.within)),
    );
  }
