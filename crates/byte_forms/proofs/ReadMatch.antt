-- The match of an accepted graph, written as bytes, reads back as that match: its lists have n places, a row is a word, a dual is a finite double,
-- and a count is below 2 ^ 64.
use mathlib.Core.Path.{◌≡◌, refl, ◌∙◌, subst}
use mathlib.Core.Logic.{⊎_elim}
use mathlib.Core.Bool.{Bool, true, false, cond}
use mathlib.Core.List.{List}
use Prim.Native.Nat.{ℕ, zero, suc, ◌*◌, ◌^◌, ◌≤◌, ◌<◌}
use native.Mathlib.Nat.{le_refl, mul-le-mul}
use native.Mathlib.Omega.{arith}
use lib.Dec.{T, eqb}
use lib.ListN.{length, get_or}
use lib.Ieee.{Float, nan, binary64, fits, of_bits}
use lib.Ieee.Bits.{of_bits-fits}
use Rattle.float64.specs.Number.{Number, units_per_one}
use Rattle.hungarian.specs.declared.HungarianStats.{HungarianStats}
use Rattle.sparse.specs.Pattern.{entries}
use Rattle.hungarian.specs.Graph.{CostGraph}
use Rattle.hungarian.specs.Accepted.{Accepted, Doubles}
use Rattle.hungarian.specs.Init.{Pairs}
use Rattle.hungarian.specs.Match.{Matching, finish, initial, searched, hungarian_match}
use Rattle.hungarian.specs.Work.{Work}
use Rattle.cost_limit.specs.Range.{cost_limit}
use Rattle.hungarian.specs.inner.Setting.{Setting}
use Rattle.hungarian.specs.inner.Between.{Matched, Bounded}
use Rattle.hungarian.proofs.InitRows.{first_duals}
use Rattle.hungarian.proofs.Initial.{initial_matched, initial_bounded}
use Rattle.hungarian.proofs.Finish.{rows_good, columns_good, perm_range, count_range}
use Rattle.hungarian.proofs.Accepts.{near_setting}
use Rattle.hungarian.proofs.Theorems.{turns, exact_start, match_work}
use Rattle.hungarian_match.specs.Call.{match_counts, counts_of}
use Rattle.hungarian_match.proofs.Finishing.{perm_length, duals_length, rows_length}
use Rattle.byte_numbers.specs.Bytes.{list_of, words, longs, doubles, all_bytes, word_bytes, double_bytes, number_at}
use Rattle.byte_numbers.proofs.ReadBack.{words_back, longs_back, doubles_back}
use Rattle.byte_forms.specs.MatchBytes.{word_count, GraphBytes, graph_read, match_laid, match_read}

-- ---- what the bytes of a match must hold
record Held (n : ℕ) (m : Matching) : Type 0 where
  perm_count : length m.perm ≡ n
  row_count : length m.u ≡ n
  column_count : length m.v ≡ n
  rows : (j : ℕ) → j < n → get_or m.perm j 0 < 2 ^ 32
  row_dual : (i : ℕ) → i < n → T (fits binary64 (get_or m.u i nan))
  column_dual : (j : ℕ) → j < n → T (fits binary64 (get_or m.v j nan))
  matched : m.matched < 2 ^ 64

-- ---- a finished match is so
module _ {g : CostGraph} (S : Setting Number units_per_one (cost_limit g.pattern.n) g) where
  finished : {s : Pairs} {u : List Float} (c : HungarianStats) → Matched g s → Bounded Number (cost_limit g.pattern.n) g s u
      → Held g.pattern.n (finish g s u c)
  unfolding finish
  finished {s} {u} c M B = record {
    perm_count = perm_length g s.jperm ∙ M.column_count;
    row_count = rows_length s.iperm u ∙ B.dual_count;
    column_count = duals_length g u s.jperm ∙ M.column_count;
    rows = λ j h. ⊎_elim (λ e. omega arith) (λ l. omega (arith, S.few_columns)) (perm_range S M B j h);
    row_dual = λ i h. (rows_good S M B i h).double;
    column_dual = λ j h. (columns_good S M B j h).double;
    matched = omega (arith, count_range M, S.few_columns);
  }

module _ (g : CostGraph) (a : Accepted g) (f : Doubles g) where
  S : Setting Number units_per_one (cost_limit g.pattern.n) g
  S = near_setting g a f

  held : Held g.pattern.n (hungarian_match g)
  unfolding hungarian_match searched
  held = go (eqb (initial g).pairs.num g.pattern.n)
    where
      go : (b : Bool)
          → Held g.pattern.n (cond b (finish g (initial g).pairs (first_duals g) (initial g).stats)
          (finish g (searched g (first_duals g) (initial g)).pairs (searched g (first_duals g) (initial g)).u
          (searched g (first_duals g) (initial g)).stats))
      go true = finished S (initial g).stats (initial_matched S) (initial_bounded S)
      go false = let R = turns S (exact_start S) g.pattern.n (le_refl g.pattern.n) in
          finished S (searched g (first_duals g) (initial g)).stats R.matched R.bounded

  -- ---- the counts
  counts_held : (m : Matching) → m.matched < 2 ^ 64 → Work g m.stats → (i : ℕ) → i < 8 → get_or (counts_of (match_counts m)) i 0 < 2 ^ 64
  counts_held m h w i l = go i l
    where
      touched : m.stats.touched_total ≤ 4096 * 4096
      touched = let p = mul-le-mul {n₁ = m.stats.augment_searches} {m₁ = g.pattern.n} {n₂ = 4096} {m₂ = 4096} (omega (arith, w.searches, S.few_columns))
          S.few_columns in omega (arith, w.touched)

      scans : m.stats.main_loop_edge_scans ≤ 4096 * 262144
      scans = let p = mul-le-mul {n₁ = m.stats.augment_searches} {m₁ = entries g.pattern} {n₂ = 4096} {m₂ = 262144}
          (omega (arith, w.searches, S.few_columns)) S.few_entries in omega (arith, w.scans)

      slots : m.stats.heap_init_slots < 2 ^ 64
      slots = ⊎_elim (λ e. omega arith) (λ e. omega (arith, touched, S.few_columns)) w.slots

      go : (i : ℕ) → i < 8 → get_or (counts_of (match_counts m)) i 0 < 2 ^ 64
      go zero l = h
      go (suc zero) l = slots
      go (suc (suc zero)) l = omega (arith, w.searches, S.few_columns)
      go (suc (suc (suc zero))) l = omega (arith, touched)
      go (suc (suc (suc (suc zero)))) l = omega (arith, w.inner, S.few_entries)
      go (suc (suc (suc (suc (suc zero))))) l = omega (arith, scans)
      go (suc (suc (suc (suc (suc (suc zero)))))) l = omega (arith, w.pops_touched, touched)
      go (suc (suc (suc (suc (suc (suc (suc zero))))))) l = omega (arith, w.heap, S.few_columns)
      go (suc (suc (suc (suc (suc (suc (suc (suc i)))))))) l = absurd (omega arith)

  pub match_reads_back : match_read g.pattern.n (match_laid (hungarian_match g)) ≡ hungarian_match g
  unfolding match_read match_laid
  match_reads_back =
      let m = hungarian_match g in
      let p : words (word_bytes m.perm) g.pattern.n ≡ m.perm =
      subst (λ (n : ℕ). words (word_bytes m.perm) n ≡ m.perm) held.perm_count
      (words_back m.perm (λ i h. held.rows i (omega (arith, held.perm_count)))) in
      let u : doubles (double_bytes m.u) g.pattern.n ≡ m.u =
      subst (λ (n : ℕ). doubles (double_bytes m.u) n ≡ m.u) held.row_count
      (doubles_back m.u (λ i h. held.row_dual i (omega (arith, held.row_count)))) in
      let v : doubles (double_bytes m.v) g.pattern.n ≡ m.v =
      subst (λ (n : ℕ). doubles (double_bytes m.v) n ≡ m.v) held.column_count
      (doubles_back m.v (λ i h. held.column_dual i (omega (arith, held.column_count)))) in
      let c : longs (all_bytes 8 (counts_of (match_counts m))) 8 ≡ counts_of (match_counts m) =
      longs_back (counts_of (match_counts m)) (counts_held m held.matched (match_work g a f)) in
      rw (p, u, v, c) refl

-- ---- whatever is read is a double
double_at_lem : (n : ℕ) (f : ℕ → ℕ) (k : ℕ) → T (fits binary64 (get_or (list_of n (λ (i : ℕ). of_bits binary64 (f i))) k nan))
unfolding list_of fits
double_at_lem zero f k = tt
double_at_lem (suc n) f zero = of_bits-fits binary64 (f 0)
double_at_lem (suc n) f (suc k) = double_at_lem n (λ (i : ℕ). f (suc i)) k

pub read_doubles : (b : GraphBytes) → Doubles (graph_read b)
unfolding graph_read doubles
read_doubles b k h = double_at_lem (word_count (length b.rows)) (λ (i : ℕ). number_at 8 b.cost (8 * i)) k
