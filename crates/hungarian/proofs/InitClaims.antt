-- Phase 2: each row in turn claims the column of its least entry. By the row: rows below i have their columns, rows from i on still hold the candidate
-- of phase 1.
use mathlib.Core.Path.{◌≡◌, refl, sym, ap, ◌∙◌}
use mathlib.Core.Logic.{◌≢◌, inl, inr}
use mathlib.Core.Bool.{Bool, true, false, not, cond, ◌||◌}
use mathlib.Core.List.{List}
use Prim.Native.Nat.{ℕ, suc, ◌+◌, ◌≤◌, ◌<◌}
use native.Mathlib.Decide.{ℕ_discrete}
use native.Mathlib.Omega.{arith}
use borrow.Author.Tests.{eqb-true, eqb-false, not-false}
use lib.Dec.{eqb}
use lib.ListN.{length, set, replicate, length-set, length-replicate, get_or-replicate}
use lib.Seq.{get_or-set_same, get_or-set_other}
use lib.Ieee.{Float}
use Rattle.limits.specs.Limits.{none}
use Rattle.matching.specs.Sum.{updated}
use Rattle.matching.specs.Matching.{Bipartite, InRange}
use Rattle.matching.specs.Pairing.{matched_count, OfRow, Outside, Paired}
use Rattle.matching.proofs.Updated.{updated_same, updated_other, get_d_set}
use Rattle.matching.proofs.Pairings.{empty_pairing, empty_count}
use Rattle.matching.proofs.Flip.{Joins, dangling, pair as pair-free, take_free_count}
use Rattle.sparse.specs.Pattern.{bipartite, row_of, entries, InColumn}
use Rattle.hungarian.specs.Graph.{CostGraph, cost_of}
use Rattle.hungarian.specs.Init.{RowMinima, Pairs, dense, pair, claim, phase1, phase2}
use Rattle.hungarian.specs.inner.Setting.{Setting}
use Rattle.hungarian.specs.inner.Between.{at, dual, Matched}
use Rattle.hungarian.proofs.Loops.{each_keeps}
use Rattle.sparse.proofs.Columns.{in_entries, column-is, in_range_lem}
use Rattle.slices.proofs.Bools.{neither}
use Rattle.hungarian.proofs.InitRows.{row_costs, Row, Lowest, phase1_minima, lowest_at}

-- pairs that say the same of the rows of the graph
same_paired : {g : Bipartite} {none : ℕ} {f iperm jperm : ℕ → ℕ} → InRange g → ((i : ℕ) → i < g.n → f i ≡ iperm i) → Paired g none f jperm
    → Paired g none iperm jperm
same_paired {g} {none} {f} {iperm} {jperm} ok same p = record {
  outside = p.outside;
  columns = λ j h e. let c = p.columns j h e in
      record { entry = c.entry; column = c.column; back = sym (same (g.row (jperm j)) (ok.rows (jperm j) c.entry)) ∙ c.back };
  rows = λ i h e.
      let q : iperm i ≡ f i = sym (same i h) in
      let r : OfRow g none f jperm i = p.rows i h (rw q at e) in
      record { range = rw q r.range; taken = rw q r.taken; back = rw q r.back };
}

pub record Claimed (g : CostGraph) (m : RowMinima) (i : ℕ) (s : Pairs) : Type 0 where
  pub row_count : length s.iperm ≡ g.pattern.n
  pub column_count : length s.jperm ≡ g.pattern.n
  -- the columns that the rows below i have
  pub column : ℕ → ℕ
  pub reached : (r : ℕ) → r < i → column r ≡ at s.iperm r
  pub waiting : (r : ℕ) → i ≤ r → column r ≡ none
  pub candidate : (r : ℕ) → i ≤ r → at s.iperm r ≡ at m.iperm r
  pub paired : Paired (bipartite g.pattern) none column (at s.jperm)
  pub counted : s.num ≡ matched_count none g.pattern.n (at s.jperm)
  -- a column that was claimed has the least entry of its row
  pub least : (j : ℕ) → j < g.pattern.n → at s.jperm j ≢ none → at s.jperm j ≡ at m.least (row_of g.pattern (at s.jperm j))

-- before any row claims
abbrev pub unclaimed : CostGraph → Pairs
unclaimed g = record { iperm = (phase1 g).iperm; jperm = replicate g.pattern.n none; num = 0 }

-- row i gets no column
skipped : {g : CostGraph} {m : RowMinima} {i : ℕ} {s : Pairs} (l : List ℕ) → length l ≡ g.pattern.n → at l i ≡ none
    → ((r : ℕ) → r ≢ i → at l r ≡ at s.iperm r) → Claimed g m i s → Claimed g m (suc i) (record { iperm = l; jperm = s.jperm; num = s.num })
skipped {g} {m} {i} {s} l long bare other c = record {
  row_count = long;
  column_count = c.column_count;
  column = c.column;
  reached = λ r h. old r h (ℕ_discrete r i);
  waiting = λ r h. c.waiting r (omega arith);
  candidate = λ r h. other r (omega arith) ∙ c.candidate r (omega arith);
  paired = c.paired;
  counted = c.counted;
  least = c.least;
}
  where
    old : (r : ℕ) → r < suc i → Dec (r ≡ i) → c.column r ≡ at l r
    old r h (yes e) = c.waiting r (omega arith) ∙ sym bare ∙ ap (at l) (sym e)
    old r h (no d) = c.reached r (omega arith) ∙ sym (other r d)

module _ {Good : Float → Type 0} {err C : ℕ} {g : CostGraph} (S : Setting Good err C g) where
  ok : InRange (bipartite g.pattern)
  ok = in_range_lem g.pattern S.columns

  outside : Outside (bipartite g.pattern) none
  outside = record { entries = omega (arith, S.few_entries); indices = omega (arith, S.few_columns) }

  -- entry k of column j joins it and its row
  pub joins : {j k : ℕ} → InColumn g.pattern j k → Joins (bipartite g.pattern) (row_of g.pattern k) j k
  joins {j} {k} c = record { entry = in_entries g.pattern S.columns j k c; row = refl; col = column-is g.pattern S.columns j k c }

  -- row i takes the free column of its least entry
  took : {m : RowMinima} {i : ℕ} {s : Pairs} {x : Float} {j : ℕ} → i < g.pattern.n → Lowest g (entries g.pattern) i x j (at m.least i)
      → at s.jperm j ≡ none
      → Claimed g m i s
      → Claimed g m (suc i) (record { iperm = set (set s.iperm i none) i j; jperm = set s.jperm j (at m.least i); num = s.num + 1 })
  took {m} {i} {s} {x} {j} h low free c = record {
    row_count = length-set (set s.iperm i none) i j ∙ length-set s.iperm i none ∙ c.row_count;
    column_count = length-set s.jperm j k ∙ c.column_count;
    column = updated c.column i j;
    reached = λ r b. old r b (ℕ_discrete r i);
    waiting = λ r b. updated_other c.column i j r (omega arith) ∙ c.waiting r (omega arith);
    candidate = λ r b. other r (omega arith) ∙ c.candidate r (omega arith);
    paired = rw bridge (pair-free ok c.paired joined (c.waiting i (omega arith)) free);
    counted = rw bridge (omega (arith, c.counted, take_free_count ok (dangling c.paired (c.waiting i (omega arith))) joined free));
    least = λ a b e. claimed a b e (ℕ_discrete a j);
  }
    where
      k : ℕ
      k = at m.least i

      joined : Joins (bipartite g.pattern) i j k
      joined = rw low.row at (joins low.column)

      bridge : at (set s.jperm j k) ≡ updated (at s.jperm) j k
      bridge = get_d_set s.jperm j k 0 (omega (arith, low.column.column, c.column_count))

      other : (r : ℕ) → r ≢ i → at (set (set s.iperm i none) i j) r ≡ at s.iperm r
      other r d = get_or-set_other (set s.iperm i none) i r j 0 d ∙ get_or-set_other s.iperm i r none 0 d

      old : (r : ℕ) → r < suc i → Dec (r ≡ i) → updated c.column i j r ≡ at (set (set s.iperm i none) i j) r
      old r b (yes e) = rw e (updated_same c.column i j
          ∙ sym (get_or-set_same (set s.iperm i none) i j 0 (omega (arith, h, c.row_count, length-set s.iperm i none))))
      old r b (no d) = updated_other c.column i j r d ∙ c.reached r (omega arith) ∙ sym (other r d)

      claimed : (a : ℕ) → a < g.pattern.n → at (set s.jperm j k) a ≢ none → Dec (a ≡ j) → at (set s.jperm j k) a ≡ at m.least
          (row_of g.pattern (at (set s.jperm j k) a))
      claimed a b e (yes q) =
          let z : at (set s.jperm j k) a ≡ k =
          ap (at (set s.jperm j k)) q ∙ get_or-set_same s.jperm j k 0 (omega (arith, low.column.column, c.column_count)) in
          rw z (sym (ap (at m.least) low.row))
      claimed a b e (no d) =
          let z : at (set s.jperm j k) a ≡ at s.jperm a = get_or-set_other s.jperm j a k 0 d in
          rw z (c.least a b (rw z at e))

  pub claim_keeps : (i : ℕ) (s : Pairs) → i < g.pattern.n → Claimed g (phase1 g) i s → Claimed g (phase1 g) (suc i) (claim g (phase1 g).least i s)
  unfolding claim pair
  claim_keeps i s h c = bare (eqb j none) refl
    where
      m : RowMinima
      m = phase1 g

      j : ℕ
      j = at s.iperm i

      freed : Pairs
      freed = record { iperm = set s.iperm i none; jperm = s.jperm; num = s.num }

      takes : {x : Float} {a : ℕ} → Row g (entries g.pattern) i x a (at m.least i) → j ≡ a → j ≢ none → at s.jperm j ≡ none
          → Claimed g m (suc i) (pair i j (at m.least i) freed)
      takes (inl r) e d f = absurd (d (e ∙ r.column))
      takes (inr r) e d f = took h (rw (← e) at r) f c

      free : (b : Bool) → j ≢ none → (not (eqb (at s.jperm j) none) || dense g j) ≡ b → Claimed g m (suc i) (cond b freed (pair i j (at m.least i) freed))
      free true d e = skipped (set s.iperm i none) (length-set s.iperm i none ∙ c.row_count)
          (get_or-set_same s.iperm i none 0 (omega (arith, h, c.row_count))) (λ r o. get_or-set_other s.iperm i r none 0 o) c
      free false d e = takes ((phase1_minima S).rows i h) (c.candidate i (omega arith)) d
          (eqb-true (at s.jperm j) none (not-false (eqb (at s.jperm j) none) (neither (not (eqb (at s.jperm j) none)) (dense g j) e).0))

      bare : (b : Bool) → eqb j none ≡ b
          → Claimed g m (suc i) (cond b s (cond (not (eqb (at s.jperm j) none) || dense g j) freed (pair i j (at m.least i) freed)))
      bare true e = skipped s.iperm c.row_count (eqb-true j none e) (λ r d. refl) c
      bare false e = free (not (eqb (at s.jperm j) none) || dense g j) (eqb-false j none e) refl

  pub phase2_start : Claimed g (phase1 g) 0 (unclaimed g)
  phase2_start = record {
    row_count = (phase1_minima S).column_count;
    column_count = length-replicate g.pattern.n none;
    column = λ r. none;
    reached = λ r h. omega arith;
    waiting = λ r h. refl;
    candidate = λ r h. refl;
    paired = empty_pairing outside (λ i h. refl) free;
    counted = sym (empty_count none g.pattern.n (at (replicate g.pattern.n none)) free);
    least = λ j h e. absurd (e (free j h));
  }
    where
      free : (j : ℕ) → j < g.pattern.n → at (replicate g.pattern.n none) j ≡ none
      free j h = get_or-replicate g.pattern.n j none 0 h

  pub phase2_claimed : Claimed g (phase1 g) g.pattern.n (phase2 g (phase1 g))
  unfolding phase2
  phase2_claimed = each_keeps (Claimed g (phase1 g)) (claim g (phase1 g).least) 0 g.pattern.n (unclaimed g) (omega arith)
      (λ i s b h c. claim_keeps i s h c) phase2_start

  pub phase2_matched : Matched g (phase2 g (phase1 g))
  phase2_matched =
      let c = phase2_claimed in
      record { row_count = c.row_count; column_count = c.column_count; paired = same_paired ok c.reached c.paired; counted = c.counted }

  -- a column that was claimed has an entry whose cost is its row's dual
  pub phase2_cost : (j : ℕ) → j < g.pattern.n → at (phase2 g (phase1 g)).jperm j ≢ none
      → dual (row_costs g) (row_of g.pattern (at (phase2 g (phase1 g)).jperm j))
      ≡ cost_of g (at (phase2 g (phase1 g)).jperm j)
  phase2_cost j h e =
      let c = phase2_claimed in
      let k : ℕ = at (phase2 g (phase1 g)).jperm j in
      (lowest_at S k (c.paired.columns j h e).entry).dual ∙ ap (cost_of g) (sym (c.least j h e))
