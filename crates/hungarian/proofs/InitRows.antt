-- Phase 1: u of a row is the least cost of its entries, of equal ones by the last; a row without entries has none. By the entries examined so far.
-- Then the duals that the searches start from: a row without entries has 0, any other keeps its own.
use mathlib.Core.Path.{◌≡◌, refl, sym, ap, ◌∙◌}
use mathlib.Core.Logic.{◌≢◌, ◌⊎◌, inl, inr}
use mathlib.Core.Bool.{Bool, true, false, cond}
use mathlib.Core.List.{List, [], ◌∷◌}
use Prim.Native.Nat.{ℕ, zero, suc, ◌≤◌, ◌<◌}
use native.Mathlib.Nat.{le_refl}
use native.Mathlib.Decide.{ℕ_discrete}
use native.Mathlib.Omega.{arith}
use borrow.Author.Tests.{leb-true, leb-false, lt-leb, le-leb}
use lib.Dec.{leb}
use lib.ListN.{length, set, replicate, length-set, length-replicate, get_or-replicate}
use lib.Seq.{get_or-set_same, get_or-set_other}
use lib.Ieee.{Float, nan, le}
use Rattle.limits.specs.Limits.{none}
use Rattle.float64.specs.inner.Keys.{Ordered, position}
use Rattle.float64.specs.Constants.{zero as fzero, rinf}
use Rattle.float64.proofs.Order.{le_key}
use Rattle.hungarian.specs.Loop.{each}
use Rattle.sparse.specs.Pattern.{row_of, start, end, entries, InColumn}
use Rattle.hungarian.specs.Graph.{CostGraph, cost_of}
use Rattle.hungarian.specs.Init.{RowMinima, lower, phase1}
use Rattle.hungarian.specs.Match.{empty_rows_zeroed}
use Rattle.hungarian.specs.inner.Setting.{Setting}
use Rattle.hungarian.specs.inner.Bounds.{Cost}
use Rattle.hungarian.specs.inner.Between.{at, dual}
use Rattle.hungarian.proofs.Loops.{each_keeps}
use Rattle.sparse.proofs.Columns.{in_entries, row_below}
use Rattle.hungarian.proofs.InitLaws.{one_more}
use Rattle.hungarian.proofs.InitCosts.{rinf_ordered, zero_cost, cost_of_lem, cost_ordered, cost_under_rinf}

-- row i, of dual x, column j and entry k, has no entry below `done`
pub record Bare (g : CostGraph) (done i : ℕ) (x : Float) (j k : ℕ) : Type 0 where
  pub dual : x ≡ rinf
  pub column : j ≡ none
  pub entry : k ≡ none
  pub empty : (l : ℕ) → l < done → row_of g.pattern l ≢ i

-- entry k of column j is the least of row i among those below `done`, and x its cost
pub record Lowest (g : CostGraph) (done i : ℕ) (x : Float) (j k : ℕ) : Type 0 where
  pub dual : x ≡ cost_of g k
  pub column : InColumn g.pattern j k
  pub row : row_of g.pattern k ≡ i
  pub least : (l : ℕ) → l < done → row_of g.pattern l ≡ i → position (cost_of g k) ≤ position (cost_of g l)

abbrev pub Row : CostGraph → ℕ → ℕ → Float → ℕ → ℕ → Type 0
Row g done i x j k = Bare g done i x j k ⊎ Lowest g done i x j k

pub record Minima (g : CostGraph) (done : ℕ) (s : RowMinima) : Type 0 where
  pub dual_count : length s.u ≡ g.pattern.n
  pub column_count : length s.iperm ≡ g.pattern.n
  pub entry_count : length s.least ≡ g.pattern.n
  pub rows : (i : ℕ) → i < g.pattern.n → Row g done i (dual s.u i) (at s.iperm i) (at s.least i)

-- an entry of another row changes nothing
pass : {g : CostGraph} {done i : ℕ} {x : Float} {j k : ℕ} → row_of g.pattern done ≢ i → Row g done i x j k → Row g (suc done) i x j k
pass {g} {done} {i} {x} {j} {k} d (inl r) =
    inl (record { dual = r.dual; column = r.column; entry = r.entry; empty = one_more (λ l. row_of g.pattern l ≢ i) done r.empty d })
pass {g} {done} {i} {x} {j} {k} d (inr r) =
    inr (record {
      dual = r.dual;
      column = r.column;
      row = r.row;
      least =
          one_more (λ l. row_of g.pattern l ≡ i → position (cost_of g k) ≤ position (cost_of g l)) done r.least (λ e. absurd (d e));
    })

-- before any entry is looked at
abbrev unread : CostGraph → RowMinima
unread g = record { u = replicate g.pattern.n rinf; iperm = replicate g.pattern.n none; least = replicate g.pattern.n none }

zeroed_length : (l : List Float) → length (empty_rows_zeroed l) ≡ length l
unfolding empty_rows_zeroed
zeroed_length [] = refl
zeroed_length (x ∷ l) = ap suc (zeroed_length l)

zeroed_at : (l : List Float) (i : ℕ) → i < length l → dual (empty_rows_zeroed l) i ≡ cond (le rinf (dual l i)) fzero (dual l i)
unfolding empty_rows_zeroed
zeroed_at [] i h = let z : ⊥ = omega arith in absurd z
zeroed_at (x ∷ l) zero h = refl
zeroed_at (x ∷ l) (suc i) h = zeroed_at l i (omega arith)

-- the duals of phase 1, and those that the searches start from
abbrev pub row_costs : CostGraph → List Float
row_costs g = (phase1 g).u

abbrev pub first_duals : CostGraph → List Float
first_duals g = empty_rows_zeroed (row_costs g)

-- row i, where phase 1 left the dual x: a row without entries has the dual y = 0, any other keeps its own
abbrev pub First : CostGraph → ℕ → Float → Float → ℕ → ℕ → Type 0
First g i x y j k = (Bare g (entries g.pattern) i x j k × (y ≡ fzero)) ⊎ (Lowest g (entries g.pattern) i x j k × (y ≡ x))

module _ {Good : Float → Type 0} {err C : ℕ} {g : CostGraph} (S : Setting Good err C g) where
  entry_ordered : {j k : ℕ} → InColumn g.pattern j k → Ordered (cost_of g k)
  entry_ordered {j} {k} c = cost_ordered S (cost_of g k) (cost_of_lem S k (in_entries g.pattern S.columns j k c))

  -- a row's dual is a cost or RINF, so the test of phase 1 is a test of keys
  test : {done i j k : ℕ} {x : Float} {j' k' : ℕ} → InColumn g.pattern j k → Row g done i x j' k'
      → le (cost_of g k) x ≡ leb (position (cost_of g k)) (position x)
  test {k = k} {x} c (inl o) = le_key (cost_of g k) x (entry_ordered c) (rw o.dual rinf_ordered)
  test {k = k} {x} c (inr o) = le_key (cost_of g k) x (entry_ordered c) (rw o.dual (entry_ordered o.column))

  -- entry k of column j and row i is at most the row's dual x: it is the least now
  taken : {i j k : ℕ} {x : Float} {j' k' : ℕ} → InColumn g.pattern j k → row_of g.pattern k ≡ i → position (cost_of g k) ≤ position x → Row g k i x j' k'
      → Row g (suc k) i (cost_of g k) j k
  taken {i} {j} {k} {x} {j'} {k'} c e b r =
      inr (record {
        dual = refl;
        column = c;
        row = e;
        least = one_more (λ l. row_of g.pattern l ≡ i → position (cost_of g k) ≤ position (cost_of g l)) k (older r)
            (λ f. le_refl (position (cost_of g k)));
      })
    where
      older : Row g k i x j' k' → (l : ℕ) → l < k → row_of g.pattern l ≡ i → position (cost_of g k) ≤ position (cost_of g l)
      older (inl o) l h f = absurd (o.empty l h f)
      older (inr o) l h f = omega (arith, b, ap position o.dual, o.least l h f)

  -- it is above x: the row keeps what it has
  kept : {i j k : ℕ} {x : Float} {j' k' : ℕ} → InColumn g.pattern j k → position x < position (cost_of g k) → Row g k i x j' k' → Row g (suc k) i x j' k'
  kept {i} {j} {k} {x} {j'} {k'} c b (inl o) =
      let z : ⊥ = omega (
        arith,
        b,
        ap position o.dual,
        cost_under_rinf S (omega (arith, c.column)) (cost_of g k)
            (cost_of_lem S k (in_entries g.pattern S.columns j k c)),
      ) in
      absurd z
  kept {i} {j} {k} {x} {j'} {k'} c b (inr o) =
      inr (record {
        dual = o.dual;
        column = o.column;
        row = o.row;
        least =
            one_more (λ l. row_of g.pattern l ≡ i → position (cost_of g k') ≤ position (cost_of g l)) k o.least
            (λ q. omega (arith, b, ap position o.dual));
      })

  lower_keeps : (j k : ℕ) (s : RowMinima) → InColumn g.pattern j k → Minima g k s → Minima g (suc k) (lower g j k s)
  unfolding lower
  lower_keeps j k s c m = go (le (cost_of g k) (dual s.u i)) (sym (test c (m.rows i below)))
    where
      i : ℕ
      i = row_of g.pattern k

      below : i < g.pattern.n
      below = row_below g.pattern S.columns j k c

      go : (b : Bool) → leb (position (cost_of g k)) (position (dual s.u i)) ≡ b
          → Minima g (suc k) (cond b (record { u = set s.u i (cost_of g k); iperm = set s.iperm i j; least = set s.least i k }) s)
      go true e = record {
        dual_count = length-set s.u i (cost_of g k) ∙ m.dual_count;
        column_count = length-set s.iperm i j ∙ m.column_count;
        entry_count = length-set s.least i k ∙ m.entry_count;
        rows = λ r h. row r h (ℕ_discrete r i);
      }
        where
          row : (r : ℕ) → r < g.pattern.n → Dec (r ≡ i) → Row g (suc k) r (dual (set s.u i (cost_of g k)) r) (at (set s.iperm i j) r)
              (at (set s.least i k) r)
          row r h (yes q) =
              let us = get_or-set_same s.u i (cost_of g k) nan (omega (arith, below, m.dual_count)) in
              let js = get_or-set_same s.iperm i j 0 (omega (arith, below, m.column_count)) in
              let ks = get_or-set_same s.least i k 0 (omega (arith, below, m.entry_count)) in
              rw (q, us, js, ks) (taken c refl (leb-true (position (cost_of g k)) (position (dual s.u i)) e) (m.rows i below))
          row r h (no q) = rw (get_or-set_other s.u i r (cost_of g k) nan q, get_or-set_other s.iperm i r j 0 q, get_or-set_other s.least i r k 0 q)
              (pass (λ f. q (sym f)) (m.rows r h))
      go false e = record { dual_count = m.dual_count; column_count = m.column_count; entry_count = m.entry_count; rows = λ r h. row r h (ℕ_discrete r i) }
        where
          row : (r : ℕ) → r < g.pattern.n → Dec (r ≡ i) → Row g (suc k) r (dual s.u r) (at s.iperm r) (at s.least r)
          row r h (yes q) = rw q (kept c (leb-false (position (cost_of g k)) (position (dual s.u i)) e) (m.rows i below))
          row r h (no q) = pass (λ f. q (sym f)) (m.rows r h)

  unread_minima : Minima g 0 (unread g)
  unread_minima = record {
    dual_count = length-replicate g.pattern.n rinf;
    column_count = length-replicate g.pattern.n none;
    entry_count = length-replicate g.pattern.n none;
    rows = λ i h. inl (record {
      dual = get_or-replicate g.pattern.n i rinf nan h;
      column = get_or-replicate g.pattern.n i none 0 h;
      entry =
          get_or-replicate g.pattern.n i none 0 h;
      empty = λ l z. omega arith;
    });
  }

  pub phase1_minima : Minima g (entries g.pattern) (phase1 g)
  unfolding phase1
  phase1_minima =
      let p = S.columns.pointers in
      rw p.last at (each_keeps (λ j. Minima g (start g.pattern j)) (λ j. each (start g.pattern j) (end g.pattern j) (lower g j)) 0 g.pattern.n
      (unread g) (omega arith)
      (λ j s a h m. each_keeps (Minima g) (lower g j) (start g.pattern j) (end g.pattern j) s (p.rises j h)
      (λ k t b d q. lower_keeps j k t (record { column = h; above = b; below = d }) q) m)
      (rw p.first unread_minima))

  -- the row of an entry has a least one
  pub lowest_at : (k : ℕ) → k < entries g.pattern → Lowest g (entries g.pattern) (row_of g.pattern k) (dual (row_costs g) (row_of g.pattern k))
      (at (phase1 g).iperm (row_of g.pattern k))
      (at (phase1 g).least (row_of g.pattern k))
  lowest_at k h = go (phase1_minima.rows (row_of g.pattern k) (S.columns.inside k h))
    where
      go : {x : Float} {j l : ℕ} → Row g (entries g.pattern) (row_of g.pattern k) x j l → Lowest g (entries g.pattern) (row_of g.pattern k) x j l
      go (inl r) = absurd (r.empty k h refl)
      go (inr r) = r

  -- a dual of phase 1 that is no RINF is a cost
  lowest_cost : {i : ℕ} {x : Float} {j k : ℕ} → Lowest g (entries g.pattern) i x j k → Cost Good C x
  lowest_cost {i} {x} {j} {k} r = rw r.dual (cost_of_lem S k (in_entries g.pattern S.columns j k r.column))

  -- ---- the duals that the searches start from

  pub first_count : length (first_duals g) ≡ g.pattern.n
  first_count = zeroed_length (row_costs g) ∙ phase1_minima.dual_count

  pub first_row : (i : ℕ) → i < g.pattern.n → First g i (dual (row_costs g) i) (dual (first_duals g) i) (at (phase1 g).iperm i) (at (phase1 g).least i)
  first_row i h = go (phase1_minima.rows i h) (zeroed_at (row_costs g) i (omega (arith, h, phase1_minima.dual_count)))
    where
      go : {x y : Float} {j k : ℕ} → Row g (entries g.pattern) i x j k → y ≡ cond (le rinf x) fzero x → First g i x y j k
      go {x} {y} {j} {k} (inl r) e =
          inl (
            r,
            e ∙ ap (λ (b : Bool). cond b fzero x)
                (ap (le rinf) r.dual ∙ le_key rinf rinf rinf_ordered rinf_ordered ∙ le-leb (position rinf) (position rinf) (le_refl (position rinf))),
          )
      go {x} {y} {j} {k} (inr r) e =
          let c : Cost Good C x = lowest_cost r in
          inr (
            r,
            e ∙ ap (λ (b : Bool). cond b fzero x)
                (le_key rinf x rinf_ordered (cost_ordered S x c) ∙ lt-leb (position rinf) (position x) (cost_under_rinf S (omega (arith, h)) x c)),
          )

  pub first_cost : (i : ℕ) → i < g.pattern.n → Cost Good C (dual (first_duals g) i)
  first_cost i h = go (first_row i h)
    where
      go : {x y : Float} {j k : ℕ} → First g i x y j k → Cost Good C y
      go {x} {y} {j} {k} (inl r) = rw r.1 (zero_cost S)
      go {x} {y} {j} {k} (inr r) = rw r.1 (lowest_cost r.0)

  -- of a row with entries
  pub first-kept : (k : ℕ) → k < entries g.pattern → dual (first_duals g) (row_of g.pattern k) ≡ dual (row_costs g) (row_of g.pattern k)
  first-kept k h = go (first_row (row_of g.pattern k) (S.columns.inside k h))
    where
      go : {x y : Float} {j l : ℕ} → First g (row_of g.pattern k) x y j l → y ≡ x
      go (inl r) = absurd (r.0.empty k h refl)
      go (inr r) = r.1

  pub dual_below : (k : ℕ) → k < entries g.pattern → position (dual (row_costs g) (row_of g.pattern k)) ≤ position (cost_of g k)
  dual_below k h =
      let r = lowest_at k h in
      rw r.dual (r.least k h refl)

  pub dual_cost : (k : ℕ) → k < entries g.pattern → Cost Good C (dual (row_costs g) (row_of g.pattern k))
  dual_cost k h = lowest_cost (lowest_at k h)
