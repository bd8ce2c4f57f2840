-- The theorem: with whole logs, a complete match and no factor held, the factors of an entry and its log add up to at most 0, and to exactly 0 on
-- every matched pair.
-- The duals are below the costs of an entry and of its mirror; add the two and halve. On a matched pair both are equal: its own by the match, the
-- mirror's since the mirrored matching is of least total too.
use mathlib.Core.Path.{◌≡◌, refl, sym, ap, ap₂, ◌∙◌, subst}
use mathlib.Core.Bool.{Bool, true, false, false≢true}
use mathlib.Core.List.{List}
use mathlib.Core.Logic.{◌⊎◌, ◌≢◌, inl, inr}
use Prim.Native.Nat.{ℕ, zero, suc, ◌+◌, ◌*◌, ◌^◌, ◌≤◌, ◌<◌}
use native.Mathlib.Nat.{add-mul, not-suc-le-zero, mul-le-mul_right}
use native.Mathlib.Decide.{ℕ_discrete}
use native.Mathlib.Omega.{arith}
use borrow.Author.Tests.{ne_eqb, eqb-false, leb-true, le-leb}
use lib.Dec.{T, eqb, eqb→eq}
use lib.Ieee.Bits.{is_true}
use lib.Ieee.Fits.{eq→eqb}
use lib.IntN.{ℤ, pos, nat_abs, ◌+ℤ◌}
use lib.Signed.{◌≤ℤ◌, le_z_yes}
use lib.Ieee.{Float, nan, binary64, fits, of_bits, lt}
use lib.ListN.{length, get_or}
use Rattle.limits.specs.Limits.{none}
use Rattle.slices.proofs.Bools.{neither}
use Rattle.float64.specs.Number.{Number, whole_of, negative, signed, units_per_one, origin, magnitude, IsWhole}
use Rattle.float64.specs.inner.Keys.{place, position}
use Rattle.float64.specs.Constants.{log_huge, minus_log_huge}
use Rattle.float64.specs.Functions.{clamp_log}
use Rattle.float64.proofs.Scale.{mag_lt}
use Rattle.float64.proofs.Integers.{plus, minus, same_integer, sum_parts, neg_parts, at_most_parts}
use Rattle.float64.proofs.WholeNumbers.{number_whole}
use Rattle.cost_limit.specs.Range.{in_log_range}
use Rattle.sparse.specs.Matrix.{Matrix}
use Rattle.matching.specs.Matching.{Complete}
use Rattle.matching.specs.Pairing.{paired_entries}
use Rattle.matching.proofs.Matchings.{Potentials}
use Rattle.matching.proofs.Pairings.{all_matched}
use Rattle.matching.proofs.Mirror.{Mirror, Mirrors, mirror_tight, rows_covered}
use Rattle.matching.specs.Match.{Match, match_of}
use Rattle.sparse.specs.Pattern.{bipartite, row_of, column_of, entries}
use Rattle.hungarian.specs.Graph.{CostGraph, cost_of}
use Rattle.hungarian.specs.Accepted.{Accepted}
use Rattle.hungarian.specs.Match.{Matching, hungarian_match}
use Rattle.hungarian.specs.Optimal.{Optimal, WholeCosts, IsEntry, matched_entries, row_for, row_dual, column_dual}
use Rattle.sparse.proofs.Columns.{in_range_lem, simple}
use Rattle.hungarian.proofs.Optimum.{number_key}
use Rattle.hungarian.proofs.Theorems.{match_optimal, match_small}
use Rattle.mc64_columns.specs.Graphs.{Slices, graph_largest}
use Rattle.mc64_symmetric.specs.Graph.{places_of, other_end, mirrored_columns}
use Rattle.mc64_symmetric.specs.Call.{lengths_fit, input_fault}
use Rattle.mc64_symmetric.specs.inner.Steps.{Triangle}
use Rattle.mc64_symmetric.proofs.Calling.{ready}
use Rattle.mc64_symmetric.proofs.Theorems.{Takes, graph_rises, graph_matched, kept_in_range}
use Rattle.factors_mc64.specs.Factors.{is_matched_row, matched_both, argument, log_factor, factor_at, symmetric_factors}
use Rattle.factors_mc64.proofs.Exact.{within_number, argument_exact, factor_free, doubles_at}
use Rattle.factors_balance.specs.Balance.{exact, KeptEntry, WholeLogs, NoneHeld, Joins, balance, Balanced}
use Rattle.factors_balance.proofs.Entries.{symmetric_graph, top_of, MadeOf, made, makes, mirror_made, mirrors, from_row, from_column}
use Rattle.factors_balance.proofs.Costs.{Short, top_short, largest_at, cost_key, costs_whole}

-- ---- held factors
-- no factor is 709 or -709
pub record OffEnds (n : ℕ) (factors : List Float) : Type 0 where
  pub above : (i : ℕ) → i < n → get_or factors i nan ≢ log_huge
  pub under : (i : ℕ) → i < n → get_or factors i nan ≢ minus_log_huge

-- a held factor differs from what it was
pub held_differs : (x : Float) → (lt x minus_log_huge ≡ true) ⊎ (lt log_huge x ≡ true) → clamp_log x ≢ x
unfolding clamp_log lt of_bits
held_differs x held q = go (lt x minus_log_huge) refl held
  where
    go : (b : Bool) → lt x minus_log_huge ≡ b → (lt x minus_log_huge ≡ true) ⊎ (lt log_huge x ≡ true) → ⊥
    go true f h =
        let y : x ≡ minus_log_huge = sym q ∙ rw f refl in
        false≢true (subst (λ (z : Float). lt z minus_log_huge ≡ true) y f)
    go false f (inl e) = false≢true (sym f ∙ e)
    go false f (inr e) =
        let y : x ≡ log_huge = sym q ∙ rw (f, e) refl in
        false≢true (subst (λ (z : Float). lt log_huge z ≡ true) y e)

-- ---- keys and exact numbers
exact_key : (x : Float) → Number x → position x + minus (exact x) ≡ origin + plus (exact x)
unfolding position exact place
exact_key x p = go (negative x) (magnitude x) (mag_lt x p)
  where
    go : (s : Bool) (a : ℕ) → a < origin → place s a + minus (signed s a) ≡ origin + plus (signed s a)
    go true a h = omega (arith, neg_parts (pos a))
    go false a h = omega arith

module _ (x y z : Float) (p : Number x) (q : Number y) (r : Number z) where
  -- three numbers add up to at most 0
  pub at_most : position x + position y + position z ≤ origin + origin + origin → ((exact x +ℤ exact y) +ℤ exact z) ≤ℤ pos 0
  at_most h =
      let s = (exact x +ℤ exact y) +ℤ exact z in
      le_z_yes (subst T (sym (at_most_parts s (pos 0) ∙ le-leb (plus s + 0) (0 + minus s)
      (omega (arith, h, exact_key x p, exact_key y q, exact_key z r, sum_parts (exact x) (exact y), sum_parts (exact x +ℤ exact y) (exact z))))) tt)

  -- to exactly 0
  pub exactly : position x + position y + position z ≡ origin + origin + origin → (exact x +ℤ exact y) +ℤ exact z ≡ pos 0
  exactly h =
      same_integer ((exact x +ℤ exact y) +ℤ exact z) (pos 0)
      (omega (arith, h, exact_key x p, exact_key y q, exact_key z r, sum_parts (exact x) (exact y), sum_parts (exact x +ℤ exact y) (exact z)))

-- ---- whole numbers and keys
module _ (x y c : Float) (p : IsWhole x) (q : IsWhole y) (r : IsWhole c) where
  sums : plus (whole_of x +ℤ whole_of y) * units_per_one + (minus (whole_of x) * units_per_one + minus (whole_of y) * units_per_one) ≡ plus
      (whole_of x) * units_per_one + plus (whole_of y) * units_per_one + minus (whole_of x +ℤ whole_of y) * units_per_one
  sums = simp add-mul at (ap (λ (n : ℕ). n * units_per_one) (sum_parts (whole_of x) (whole_of y)))

  keys_below : (whole_of x +ℤ whole_of y) ≤ℤ whole_of c → position x + position y ≤ position c + origin
  keys_below h =
      let s = whole_of x +ℤ whole_of y in
      let l : plus s + minus (whole_of c) ≤ plus (whole_of c) + minus s = leb-true _ _ (sym (at_most_parts s (whole_of c)) ∙ is_true _ h.le) in
      let k = simp add-mul at (mul-le-mul_right units_per_one l) in
      omega (arith, k, sums, number_key x p, number_key y q, number_key c r)

  keys_equal : whole_of x +ℤ whole_of y ≡ whole_of c → position x + position y ≡ position c + origin
  keys_equal h =
      let k : plus (whole_of x +ℤ whole_of y) * units_per_one ≡ plus (whole_of c) * units_per_one = ap (λ (z : ℤ). plus z * units_per_one) h in
      let l : minus (whole_of x +ℤ whole_of y) * units_per_one ≡ minus (whole_of c) * units_per_one = ap (λ (z : ℤ). minus z * units_per_one) h in
      omega (arith, k, l, sums, number_key x p, number_key y q, number_key c r)

-- perm does not contain a row that is not marked
unmarked : (perm : List ℕ) (i k : ℕ) → is_matched_row perm i k ≡ false → (j : ℕ) → j < k → get_or perm j 0 ≢ i
unfolding is_matched_row
unmarked perm i zero e j h = absurd (not-suc-le-zero h)
unmarked perm i (suc k) e j h = go (ℕ_discrete j k) (unmarked perm i k (neither (is_matched_row perm i k) _ e).0 j)
  where
    go : Dec (j ≡ k) → (j < k → get_or perm j 0 ≢ i) → get_or perm j 0 ≢ i
    go (yes q) f = subst (λ (x : ℕ). get_or perm x 0 ≢ i) (sym q) (eqb-false (get_or perm k 0) i (neither (is_matched_row perm i k) _ e).1)
    go (no d) f = f (omega arith)

-- ---- a complete match of the graph
module _ (m : Matrix) (logs : List Float) (t : Triangle m) (whole : WholeLogs m logs)
    (ranges : (k : ℕ) → KeptEntry m k → in_log_range m.pattern.n (get_or logs k nan) ≡ true)
    (M : Matching) (O : Optimal (symmetric_graph m logs) M) (full : M.matched ≡ m.pattern.n)
    (rows_small : (i : ℕ) → i < m.pattern.n → nat_abs (whole_of (row_dual M i)) ≤ 2 ^ 50)
    (columns_small : (j : ℕ) → j < m.pattern.n → nat_abs (whole_of (column_dual M j)) ≤ 2 ^ 50) where
  abbrev graph : CostGraph
  graph = symmetric_graph m logs

  abbrev matched : ℕ → Bool
  matched = matched_entries graph.pattern M

  complete : Complete (bipartite graph.pattern) matched
  complete = record { matching = O.ranged.matching; full = O.ranged.pair_count ∙ full }

  -- every column has a row, and every row a column
  has_row_lem : (j : ℕ) → j < m.pattern.n → row_for M j ≢ none
  has_row_lem = all_matched none m.pattern.n (row_for M) (sym O.ranged.counted ∙ full)

  matched_row : (k : ℕ) → T (matched k) → row_for M (column_of graph.pattern k) ≡ row_of graph.pattern k
  unfolding matched_entries paired_entries
  matched_row k u = eqb→eq (row_for M (column_of graph.pattern k)) (row_of graph.pattern k) u

  has_column : (i : ℕ) → i < m.pattern.n → is_matched_row M.perm i m.pattern.n ≡ true
  has_column i h = go (is_matched_row M.perm i m.pattern.n) refl
    where
      go : (b : Bool) → is_matched_row M.perm i m.pattern.n ≡ b → is_matched_row M.perm i m.pattern.n ≡ true
      go true e = e
      go false e =
          absurd (rows_covered (in_range_lem graph.pattern (graph_rises m t)) complete i h
          (λ k l u q. unmarked M.perm i m.pattern.n e (column_of graph.pattern k) ((in_range_lem graph.pattern (graph_rises m t)).cols k l)
          (matched_row k u ∙ q)))

  -- so no column is empty
  some_place : (c : ℕ) → c < m.pattern.n → 0 < length (places_of m c)
  some_place c h =
      let e : IsEntry graph.pattern (row_for M c) c = O.ranged.pairs c h (has_row_lem c h) in
      let (p, E) = made m logs t e.entry e.within in
      subst (λ (x : ℕ). 0 < length (places_of m x)) e.column E.some

  top : (c : ℕ) → c < m.pattern.n → Short (top_of m logs c)
  top c h = top_short m logs t whole ranges c h (some_place c h)

  -- ---- duals in keys
  potentials : Potentials (bipartite graph.pattern) (λ k. position (cost_of graph k)) matched (λ i. position (row_dual M i))
      (λ j. position (column_dual M j)) origin
  potentials = record {
    below = λ k h. keys_below (row_dual M (row_of graph.pattern k)) (column_dual M (column_of graph.pattern k)) (cost_of graph k) (rows k h) (columns k h)
        (costs k h)
        (O.feasible k h);
    tight = λ k h u. keys_equal (row_dual M (row_of graph.pattern k)) (column_dual M (column_of graph.pattern k)) (cost_of graph k) (rows k h) (columns k h)
        (costs k h)
        (O.tight k h u);
  }
    where
      rows : (k : ℕ) → k < entries graph.pattern → IsWhole (row_dual M (row_of graph.pattern k))
      rows k h = O.rows_whole (row_of graph.pattern k) ((in_range_lem graph.pattern (graph_rises m t)).rows k h)

      columns : (k : ℕ) → k < entries graph.pattern → IsWhole (column_dual M (column_of graph.pattern k))
      columns k h = O.columns_whole (column_of graph.pattern k) ((in_range_lem graph.pattern (graph_rises m t)).cols k h)

      costs : (k : ℕ) → k < entries graph.pattern → IsWhole (cost_of graph k)
      costs = costs_whole m logs t whole ranges

  -- the entries whose mirrors are matched
  turned : ℕ → Bool
  turned k = eqb (row_for M (row_of graph.pattern k)) (column_of graph.pattern k)

  turned_mirrors : Mirrors (bipartite graph.pattern) matched turned
  unfolding matched_entries paired_entries turned
  turned_mirrors k l h q = ap₂ eqb (ap (row_for M) (sym q.col)) (sym q.row)

  -- a cost and its mirror's differ as the largest logs of their rows do
  costs_mirrored : (k l : ℕ) → k < entries graph.pattern → Mirror (bipartite graph.pattern) k l
      → position (cost_of graph k) + position (top_of m logs (row_of graph.pattern k)) ≡ position
      (cost_of graph l) + position (top_of m logs (row_of graph.pattern l))
  costs_mirrored k l h q =
      let (p, E) = made m logs t k h in
      let (l', q', L) = mirror_made m logs t k p E in
      let same : l' ≡ l = simple graph.pattern (graph_rises m t) l' l q'.within q.within (q'.row ∙ sym q.row) (q'.col ∙ sym q.col) in
      let e = cost_key m logs t whole ranges E in
      let f = cost_key m logs t whole ranges L in
      let s : position (cost_of graph l') ≡ position (cost_of graph l) = ap (λ (x : ℕ). position (cost_of graph x)) same in
      let r : position (top_of m logs (column_of graph.pattern k)) ≡ position (top_of m logs (row_of graph.pattern l)) = ap
      (λ (x : ℕ). position (top_of m logs x)) (sym q.row) in
      omega (arith, e, f, s, r)

  turned_tight : (k : ℕ) → k < entries graph.pattern → T (turned k) → position (row_dual M (row_of graph.pattern k)) + position
      (column_dual M (column_of graph.pattern k)) ≡ position
      (cost_of graph k) + origin
  turned_tight = mirror_tight (in_range_lem graph.pattern (graph_rises m t)) (simple graph.pattern (graph_rises m t))
      (mirrors m logs t) turned_mirrors (λ i. position (top_of m logs i)) costs_mirrored complete potentials

  -- ---- the factors
  abbrev tops : List Float
  tops = graph_largest (mirrored_columns m) logs m.pattern.n

  abbrev pairs : Match Float
  pairs = match_of M.perm M.u M.v tops

  abbrev factors : List Float
  factors = symmetric_factors m.pattern.n pairs

  factor_is : (i : ℕ) → i < m.pattern.n → get_or factors i nan ≡ log_factor true (row_dual M i) (column_dual M i) (top_of m logs i)
  factor_is i h =
      doubles_at (factor_at m.pattern.n pairs) m.pattern.n i h
      ∙ ap₂ (λ (b : Bool) (c : Float). log_factor b (row_dual M i) (column_dual M i) c) marked (largest_at m logs t whole ranges i h)
    where
      marked : matched_both m.pattern.n M.perm i ≡ true
      marked = rw (ne_eqb (row_for M i) none (has_row_lem i h), has_column i h) refl

  argument_is : (i : ℕ) → i < m.pattern.n → Number (argument (row_dual M i) (column_dual M i) (top_of m logs i))
      × (2 * position (argument (row_dual M i) (column_dual M i) (top_of m logs i)) + position (top_of m logs i) ≡ position (row_dual M i) + position
      (column_dual M i) + origin)
  argument_is i h =
      let u = row_dual M i in
      let v = column_dual M i in
      let wu = O.rows_whole i h in
      let wv = O.columns_whole i h in
      let T' = top i h in
      argument_exact u v (top_of m logs i) wu wv T'.whole (within_number (2 ^ 50) u wu (rows_small i h))
      (within_number (2 ^ 50) v wv (columns_small i h)) T'.within

  module _ (free : NoneHeld m.pattern.n pairs factors) where
    factor_exact : (i : ℕ) → i < m.pattern.n → Number (get_or factors i nan)
        × (2 * position (get_or factors i nan) + position (top_of m logs i) ≡ position (row_dual M i) + position (column_dual M i) + origin)
    factor_exact i h =
        let u = row_dual M i in
        let v = column_dual M i in
        let c = top_of m logs i in
        let f : get_or factors i nan ≡ argument u v c = free.unheld i h ∙ ap (argument u v) (largest_at m logs t whole ranges i h) in
        subst (λ (x : Float). Number x × (2 * position x + position c ≡ position u + position v + origin)) (sym f) (argument_is i h)

    -- ---- one entry
    module _ (k : ℕ) (K : KeptEntry m k) where
      abbrev row : ℕ
      row = row_of m.pattern k

      abbrev column : ℕ
      column = column_of m.pattern k

      own : (e : ℕ) × MadeOf m logs t e column k
      own = makes m logs t column k K (inr refl)

      other : (e : ℕ) × MadeOf m logs t e row k
      other = makes m logs t row k K (inl refl)

      own_row : row_of graph.pattern own.0 ≡ row
      own_row = own.1.row ∙ from_column m k

      other_row : row_of graph.pattern other.0 ≡ column
      other_row = other.1.row ∙ from_row m k

      row_inside : row < m.pattern.n
      row_inside = other.1.inside

      column_inside : column < m.pattern.n
      column_inside = own.1.inside

      abbrev sum : ℕ
      sum = position (get_or factors row nan) + position (get_or factors column nan) + position (get_or logs k nan)

      own_keys : position (row_dual M (row_of graph.pattern own.0)) + position (column_dual M (column_of graph.pattern own.0)) ≡ position
          (row_dual M row) + position
          (column_dual M column)
      own_keys = ap₂ (λ (i j : ℕ). position (row_dual M i) + position (column_dual M j)) own_row own.1.column

      other_keys : position (row_dual M (row_of graph.pattern other.0)) + position (column_dual M (column_of graph.pattern other.0)) ≡ position
          (row_dual M column) + position (column_dual M row)
      other_keys = ap₂ (λ (i j : ℕ). position (row_dual M i) + position (column_dual M j)) other_row other.1.column

      sum_most : sum ≤ origin + origin + origin
      sum_most =
          omega (
            arith,
            own_keys,
            other_keys,
            potentials.below own.0 own.1.within,
            potentials.below other.0 other.1.within,
            cost_key m logs t whole ranges own.1,
            cost_key m logs t whole ranges other.1,
            (factor_exact row row_inside).1,
            (factor_exact column column_inside).1,
          )

      -- where both the entry and its mirror are tight
      sum_exact : position (row_dual M row) + position (column_dual M column) ≡ position (cost_of graph own.0) + origin → position (row_dual M column) + position
          (column_dual M row) ≡ position (cost_of graph other.0) + origin → sum ≡ origin + origin + origin
      sum_exact e f =
          omega (
            arith,
            e,
            f,
            cost_key m logs t whole ranges own.1,
            cost_key m logs t whole ranges other.1,
            (factor_exact row row_inside).1,
            (factor_exact column column_inside).1,
          )

      -- matched as (row, column), or as (column, row)
      sum_matched : (j : ℕ) → Joins m k (row_for M j) j → sum ≡ origin + origin + origin
      unfolding matched_entries paired_entries turned
      sum_matched j (inl (e, f)) =
          sum_exact
          (sym own_keys ∙ potentials.tight own.0 own.1.within (eq→eqb (ap (row_for M) (own.1.column ∙ f) ∙ sym e ∙ sym own_row)))
          (sym other_keys ∙ turned_tight other.0 other.1.within (eq→eqb (ap (row_for M) (other_row ∙ f) ∙ sym e ∙ sym other.1.column)))
      sum_matched j (inr (e, f)) =
          sum_exact
          (sym own_keys ∙ turned_tight own.0 own.1.within (eq→eqb (ap (row_for M) (own_row ∙ e) ∙ sym f ∙ sym own.1.column)))
          (sym other_keys ∙ potentials.tight other.0 other.1.within (eq→eqb (ap (row_for M) (other.1.column ∙ e) ∙ sym f ∙ sym other_row)))

      number_log : Number (get_or logs k nan)
      number_log = let w = whole k K in number_whole (get_or logs k nan) w.0 w.1

      entry_most : balance m logs factors k ≤ℤ pos 0
      entry_most = at_most (get_or factors row nan) (get_or factors column nan) (get_or logs k nan) (factor_exact row row_inside).0
          (factor_exact column column_inside).0 number_log sum_most

      entry_matched : (j : ℕ) → Joins m k (row_for M j) j → balance m logs factors k ≡ pos 0
      entry_matched j q = exactly (get_or factors row nan) (get_or factors column nan) (get_or logs k nan) (factor_exact row row_inside).0
          (factor_exact column column_inside).0 number_log (sum_matched j q)

    -- the pair of a column is an entry
    pair_entry_lem : (j : ℕ) → j < m.pattern.n → (k : ℕ) × KeptEntry m k × Joins m k (row_for M j) j
    pair_entry_lem j h =
        let e : IsEntry graph.pattern (row_for M j) j = O.ranged.pairs j h (has_row_lem j h) in
        let (k, E) = made m logs t e.entry e.within in
        (k, E.place, joins k (column_of graph.pattern e.entry) (row_of graph.pattern e.entry) E.takes E.row e.row e.column)
      where
        joins : (k c r : ℕ) → Takes m c k → r ≡ other_end m c k → r ≡ row_for M j → c ≡ j → Joins m k (row_for M j) j
        joins k c r (inl q) e f g = inr (q ∙ g, sym (ap (λ (x : ℕ). other_end m x k) (sym q) ∙ from_row m k) ∙ sym e ∙ f)
        joins k c r (inr q) e f g = inl (sym (ap (λ (x : ℕ). other_end m x k) (sym q) ∙ from_column m k) ∙ sym e ∙ f, q ∙ g)

    pub balanced : Balanced m logs M.perm factors
    balanced = record {
      finite = λ i h. (factor_exact i h).0;
      finite_logs = number_log;
      most = entry_most;
      pairs = pair_entry_lem;
      matched = λ j k h K q. entry_matched k K j q;
    }

  pub off_ends : OffEnds m.pattern.n factors → NoneHeld m.pattern.n pairs factors
  off_ends o = record {
    unheld = λ i h.
        let e = factor_is i h in
        let w = (top i h).whole in
        let c : get_or tops i nan ≡ top_of m logs i = largest_at m logs t whole ranges i h in
        e
        ∙ factor_free (row_dual M i) (column_dual M i) (top_of m logs i) (number_whole (top_of m logs i) w.0 w.1) (argument_is i h).0
        (subst (λ (x : Float). x ≢ log_huge) e (o.above i h)) (subst (λ (x : Float). x ≢ minus_log_huge) e (o.under i h))
        ∙ ap (argument (row_dual M i) (column_dual M i)) (sym c);
  }

-- ---- the calls, one after the other
module _ (m : Matrix) (logs : List Float) (s : Slices) (fine : input_fault m logs (lengths_fit m logs s) ≡ 0)
    (doubles : (k : ℕ) → k < length logs → T (fits binary64 (get_or logs k nan))) (whole : WholeLogs m logs) where
  triangle : Triangle m
  triangle = (ready m logs s fine).0

  ranges : (k : ℕ) → KeptEntry m k → in_log_range m.pattern.n (get_or logs k nan) ≡ true
  ranges k K = kept_in_range m logs s fine k K.stored K.is_kept

  accepted : Accepted (symmetric_graph m logs)
  accepted = graph_matched m logs s fine doubles

  costs : WholeCosts (symmetric_graph m logs)
  costs = costs_whole m logs triangle whole ranges

  -- what the building leaves, the match of it, and the factors of the match
  pub symmetric_balanced : let M = hungarian_match (symmetric_graph m logs) in
      let c = match_of M.perm M.u M.v (graph_largest (mirrored_columns m) logs m.pattern.n) in
      let factors = symmetric_factors m.pattern.n c in
      M.matched ≡ m.pattern.n → NoneHeld m.pattern.n c factors → Balanced m logs M.perm factors
  symmetric_balanced full =
      let d = match_small (symmetric_graph m logs) accepted costs in
      balanced m logs triangle whole ranges (hungarian_match (symmetric_graph m logs)) (match_optimal (symmetric_graph m logs) accepted costs)
      full d.rows d.columns

  -- a factor that is neither 709 nor -709 is not held
  pub off_ends_unheld : let M = hungarian_match (symmetric_graph m logs) in
      let c = match_of M.perm M.u M.v (graph_largest (mirrored_columns m) logs m.pattern.n) in
      let factors = symmetric_factors m.pattern.n c in
      M.matched ≡ m.pattern.n → OffEnds m.pattern.n factors → NoneHeld m.pattern.n c factors
  off_ends_unheld full =
      let d = match_small (symmetric_graph m logs) accepted costs in
      off_ends m logs triangle whole ranges (hungarian_match (symmetric_graph m logs)) (match_optimal (symmetric_graph m logs) accepted costs)
      full d.rows d.columns
