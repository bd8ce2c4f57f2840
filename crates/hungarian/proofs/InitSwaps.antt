-- What a step of phase 3 changes, part by part: the pairs stay a matching, the places from which columns are searched stay within them, and the
-- entries that columns hold stay the least. By cases on the column that changes.
use mathlib.Core.Path.{◌≡◌, refl, sym, ◌∙◌}
use mathlib.Core.Logic.{◌≢◌}
use mathlib.Core.List.{List}
use Prim.Native.Nat.{ℕ, ◌+◌, ◌≤◌, ◌<◌}
use native.Mathlib.Nat.{le_refl, le_trans}
use native.Mathlib.Omega.{arith}
use lib.ListN.{length, set, length-set}
use lib.Seq.{get_or-set_same, get_or-set_other}
use lib.Ieee.{Float, nan}
use Rattle.limits.specs.Limits.{none}
use Rattle.float64.specs.inner.Keys.{position}
use Rattle.matching.specs.Matching.{InRange}
use Rattle.matching.proofs.Updated.{get_d_set}
use Rattle.matching.proofs.Flip.{dangling, pair as pair-free, take_free_count, swap as swap-two, swap_count}
use Rattle.sparse.specs.Pattern.{bipartite, row_of, start, end, InColumn}
use Rattle.hungarian.specs.Graph.{CostGraph}
use Rattle.hungarian.specs.Init.{Pairs, pair, swap, reduced}
use Rattle.hungarian.specs.inner.Setting.{Setting}
use Rattle.hungarian.specs.inner.Between.{at, dual, Matched}
use Rattle.sparse.proofs.Columns.{in_entries, row_below, in_range_lem}
use Rattle.hungarian.proofs.InitLaws.{set_cases, set_twice}
use Rattle.hungarian.proofs.InitClaims.{joins}

-- ---- the pairs

module _ {Good : Float → Type 0} {err C : ℕ} {g : CostGraph} (S : Setting Good err C g) where
  ok : InRange (bipartite g.pattern)
  ok = in_range_lem g.pattern S.columns

  row_of_lem : {j k : ℕ} → InColumn g.pattern j k → row_of g.pattern k < g.pattern.n
  row_of_lem {j} {k} c = row_below g.pattern S.columns j k c

  -- a free column takes a free row
  pub matched_pair_lem : {s : Pairs} {j k : ℕ} → Matched g s → InColumn g.pattern j k → at s.iperm (row_of g.pattern k) ≡ none → at s.jperm j ≡ none
      → Matched g (pair (row_of g.pattern k) j k s)
  unfolding pair
  matched_pair_lem {s} {j} {k} m c row column =
      let i = row_of g.pattern k in
      let f = get_d_set s.iperm i j 0 (omega (arith, row_of_lem c, m.row_count)) in
      let h = get_d_set s.jperm j k 0 (omega (arith, c.column, m.column_count)) in
      record {
        row_count = length-set s.iperm i j ∙ m.row_count;
        column_count = length-set s.jperm j k ∙ m.column_count;
        paired = rw (f, h) (pair-free ok m.paired (joins S c) row column);
        counted = rw h (omega (arith, m.counted, take_free_count ok (dangling m.paired row) (joins S c) column));
      }

  -- the free column j takes the row of its entry k from column jj, which takes the free row of its entry kk
  pub matched_swap : {s : Pairs} {j k jj kk : ℕ} → Matched g s → InColumn g.pattern j k → InColumn g.pattern jj kk
      → at s.iperm (row_of g.pattern kk) ≡ none → at s.iperm (row_of g.pattern k) ≡ jj → at s.jperm j ≡ none → Matched g (swap g j k jj kk s)
  unfolding swap pair
  matched_swap {s} {j} {k} {jj} {kk} m c d row middle column =
      let i = row_of g.pattern k in
      let ii = row_of g.pattern kk in
      let f = set_twice s.iperm ii jj i j (omega (arith, row_of_lem d, m.row_count)) (omega (arith, row_of_lem c, m.row_count)) in
      let h = set_twice s.jperm jj kk j k (omega (arith, d.column, m.column_count)) (omega (arith, c.column, m.column_count)) in
      record {
        row_count = length-set (set s.iperm ii jj) i j ∙ length-set s.iperm ii jj ∙ m.row_count;
        column_count = length-set (set s.jperm jj kk) j k ∙ length-set s.jperm jj kk ∙ m.column_count;
        paired = rw (f, h) (swap-two ok m.paired (joins S d) (joins S c) row middle column);
        counted = rw h (omega (arith, m.counted, swap_count ok m.paired (joins S d) (joins S c) row middle column));
      }

-- ---- where columns are still to be searched

pub record Searched (g : CostGraph) (jperm from : List ℕ) : Type 0 where
  pub column_count : length jperm ≡ g.pattern.n
  pub from_count : length from ≡ g.pattern.n
  pub above : (j : ℕ) → j < g.pattern.n → start g.pattern j ≤ at from j
  pub below : (j : ℕ) → j < g.pattern.n → at from j ≤ end g.pattern j
  -- a free column was never searched
  pub fresh : (j : ℕ) → j < g.pattern.n → at jperm j ≡ none → at from j ≡ start g.pattern j

-- column j, which is matched in the new pairs, is searched from x on
moved : {g : CostGraph} {jperm new from : List ℕ} {j x : ℕ} → length new ≡ g.pattern.n → j < g.pattern.n → start g.pattern j ≤ x → x ≤ end g.pattern j
    → at new j ≢ none
    → ((a : ℕ) → a ≢ j → at new a ≡ at jperm a) → Searched g jperm from → Searched g new (set from j x)
moved {g} {jperm} {new} {from} {j} {x} long h a b held same s = record {
  column_count = long;
  from_count = length-set from j x ∙ s.from_count;
  above = set_cases (λ c y. c < g.pattern.n → start g.pattern c ≤ y) from j x 0 (omega (arith, s.from_count)) (λ r. a) (λ c d. s.above c);
  below = set_cases (λ c y. c < g.pattern.n → y ≤ end g.pattern c) from j x 0 (omega (arith, s.from_count)) (λ r. b) (λ c d. s.below c);
  fresh = set_cases (λ c y. c < g.pattern.n → at new c ≡ none → y ≡ start g.pattern c) from j x 0 (omega (arith, s.from_count)) (λ r e. absurd (held e))
      (λ c d r e. s.fresh c r (sym (same c d) ∙ e));
}

-- a column that gets its entry k is searched from the next place on
pub placed : {Good : Float → Type 0} {err C : ℕ} {g : CostGraph} {jperm from : List ℕ} {j k : ℕ} → Setting Good err C g → InColumn g.pattern j k
    → Searched g jperm from → Searched g (set jperm j k) (set from j (k + 1))
placed {g = g} {jperm} {from} {j} {k} S c s =
    moved (length-set jperm j k ∙ s.column_count) c.column (omega (arith, c.above)) (omega (arith, c.below))
    (λ e. omega (arith, get_or-set_same jperm j k 0 (omega (arith, c.column, s.column_count)), in_entries g.pattern S.columns j k c, S.few_entries))
    (λ a d. get_or-set_other jperm j a k 0 d) s

-- a matched column that was searched to its end
pub exhausted : {g : CostGraph} {jperm from : List ℕ} {j : ℕ} → j < g.pattern.n → start g.pattern j ≤ end g.pattern j → at jperm j ≢ none
    → Searched g jperm from
    → Searched g jperm (set from j (end g.pattern j))
exhausted {g} {j = j} h r held s = moved s.column_count h r (le_refl (end g.pattern j)) held (λ a d. refl) s

-- ---- where sums are exact: a matched column's entry is the least of its column, and what is stored for it is at most that

pub record Least (g : CostGraph) (u : List Float) (jperm : List ℕ) (least : List Float) : Type 0 where
  pub chosen : (j k : ℕ) → InColumn g.pattern j k → at jperm j ≢ none → position (reduced g u (at jperm j)) ≤ position (reduced g u k)
  pub stored : (j k : ℕ) → InColumn g.pattern j k → at jperm j ≢ none → position (dual least j) ≤ position (reduced g u k)

-- a value is stored for a free column
pub least_stored : {g : CostGraph} {u : List Float} {jperm : List ℕ} {least : List Float} {j : ℕ} (v : Float) → j < length least → at jperm j ≡ none
    → Least g u jperm least → Least g u jperm (set least j v)
least_stored {g} {u} {jperm} {least} {j} v h e o = record {
  chosen = o.chosen;
  stored = set_cases (λ a x. (k : ℕ) → InColumn g.pattern a k → at jperm a ≢ none → position x ≤ position (reduced g u k)) least j v nan h
      (λ k c f. absurd (f e))
      (λ a d. o.stored a);
}

-- column j gets entry k, whose value is at most what is stored for j, which is at most all values of the column
pub least_placed : {g : CostGraph} {u : List Float} {jperm : List ℕ} {least : List Float} {j : ℕ} (k : ℕ) → j < length jperm
    → position (reduced g u k) ≤ position (dual least j)
    → ((l : ℕ) → InColumn g.pattern j l → position (dual least j) ≤ position (reduced g u l)) → Least g u jperm least → Least g u (set jperm j k) least
least_placed {g} {u} {jperm} {least} {j} k h low all o = record {
  chosen = set_cases (λ a x. (l : ℕ) → InColumn g.pattern a l → x ≢ none → position (reduced g u x) ≤ position (reduced g u l)) jperm j k 0 h
      (λ l c e. le_trans low (all l c)) (λ a d. o.chosen a);
  stored = set_cases (λ a x. (l : ℕ) → InColumn g.pattern a l → x ≢ none → position (dual least a) ≤ position (reduced g u l)) jperm j k 0 h
      (λ l c e. all l c)
      (λ a d. o.stored a);
}
