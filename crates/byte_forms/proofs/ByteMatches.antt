-- suontarvi_match_bytes: the cases of the match's answer as bytes, what sizes without a fault say, and what the bytes left stand for.
use mathlib.Core.Path.{◌≡◌, refl, sym, ap, ◌∙◌, subst}
use mathlib.Core.Logic.{◌≢◌}
use mathlib.Core.Bool.{true}
use Rattle.std.proofs.Common.{Result, Ok, Err}
use mathlib.Core.List.{List}
use Prim.Native.Nat.{ℕ, zero, suc, ◌+◌, ◌*◌, ◌≤◌}
use native.Mathlib.Omega.{arith}
use borrow.Author.Tests.{eqb-true, eq-eqb, leb-true}
use lib.Dec.{eqb, leb}
use lib.ListN.{length}
use lib.Ieee.{Float}
use Rattle.refusal.specs.Refusal.{too_many_columns, too_many_entries, slice_length}
use Rattle.refusal.specs.Number.{fault_of}
use Rattle.slices.specs.Outcome.{outcome_is, Outcome, refusing}
use Rattle.sparse.specs.Fault.{unless, or_else}
use Rattle.sparse.proofs.First.{or-none, or_some, or-zero, unless_holds}
use Rattle.slices.proofs.Bools.{both}
use Rattle.hungarian.specs.Graph.{CostGraph, graph_of}
use Rattle.hungarian.specs.Test.{graph_fault, graph_lengths}
use Rattle.hungarian.specs.Accepted.{Accepted}
use Rattle.hungarian.specs.Match.{Matching, hungarian_match}
use Rattle.hungarian.specs.Optimal.{LargestMatch, Optimal}
use Rattle.hungarian.specs.Work.{Work}
use Rattle.hungarian.proofs.Theorems.{match_largest, match_optimal, match_work}
use Rattle.hungarian.specs.declared.Counts.{Counts}
use Rattle.hungarian_match.specs.Call.{Slices, match_outcome, match_lengths, finished, match_after}
use Rattle.byte_numbers.specs.Bytes.{list_of, words, doubles}
use Rattle.byte_forms.specs.MatchBytes.{byte_columns, byte_entries, word_count, byte_lengths, byte_sizes, GraphBytes, graph_read, MatchBytes}
use Rattle.byte_forms.specs.MatchBytes.{match_laid, result_by, bytes_fault, match_read, match_bytes_result, BytesMatch, BytesPromised}
use Rattle.byte_forms.specs.MatchBytes.{BytesCounted}
use Rattle.byte_forms.specs.inner.Steps.{graph_result, Laying, Roomy, Fitting, Small, Sized}
use Rattle.byte_forms.proofs.ReadMatch.{match_reads_back, read_doubles}

-- ---- the cases of the answer
abbrev Answered : Type 0
Answered = Outcome (Result Counts ℕ) Slices

-- a refusal is no match
not_matched : {k : ℕ} {m : Counts} → ◌≡◌ {A = Result Counts ℕ} (Err k) (Ok m) → ⊥
not_matched e = let z : ◌≡◌ {A = ℕ} 0 1 = cc in omega arith

same : {m m' : Counts} → ◌≡◌ {A = Result Counts ℕ} (Ok m) (Ok m') → m ≡ m'
same q = cc

module _ (g : CostGraph) (s after : Slices) (old : MatchBytes) where
  refused_by : (f k : ℕ) → outcome_is (Err k) after ≡ refusing Err f (finished g s) s → outcome_is k old ≡ result_by f g old
  unfolding finished result_by
  refused_by zero k e = absurd (not_matched (ap (λ (o : Answered). o.answer) e))
  refused_by (suc f) k e = rw (ap (λ (o : Answered). fault_of o.answer) e) refl

  leaves : {m : Counts} → outcome_is (Ok m) after ≡ finished g s → match_after m after ≡ hungarian_match g
  unfolding finished
  leaves e = rw (same (ap (λ (o : Answered). o.answer) e), ap (λ (o : Answered). o.after) e) refl

  matched_by_lem : (f : ℕ) (m : Counts) {bytes : MatchBytes} → outcome_is (Ok m) after ≡ refusing Err f (finished g s) s
      → bytes ≡ match_laid (match_after m after) → outcome_is 0 bytes ≡ result_by f g old
  unfolding result_by
  matched_by_lem zero m e b = ap (outcome_is 0) (b ∙ ap match_laid (leaves e))
  matched_by_lem (suc f) m e b = absurd (not_matched (sym (ap (λ (o : Answered). o.answer) e)))

fits : {g : CostGraph} {s : Slices} → Fitting g s → match_lengths g s ≡ true
unfolding match_lengths
fits f = rw (f.graph, eq-eqb _ _ f.perm, eq-eqb _ _ f.u, eq-eqb _ _ f.v, eq-eqb _ _ f.work, eq-eqb _ _ f.fwork) refl

module _ {g : CostGraph} {s : Slices} (f : Fitting g s) (old : MatchBytes) where
  tested : match_outcome g s ≡ refusing Err (graph_fault g true) (finished g s) s
  unfolding match_outcome
  tested = rw (fits f) refl

  pub refused_bytes : {k : ℕ} {after : Slices} → outcome_is (Err k) after ≡ match_outcome g s → outcome_is k old ≡ graph_result g old
  unfolding graph_result
  refused_bytes {k} {after} e = refused_by g s after old (graph_fault g true) k (e ∙ tested)

  pub matched_bytes : {m : Counts} {after : Slices} {bytes : MatchBytes} → outcome_is (Ok m) after ≡ match_outcome g s → bytes ≡ match_laid (match_after m after)
      → outcome_is 0 bytes ≡ graph_result g old
  unfolding graph_result
  matched_bytes {m} {after} e b = matched_by_lem g s after old (graph_fault g true) m (e ∙ tested) b

-- room for a match of n columns is room for lists of n
pub laying : {n : ℕ} {rows_of : List ℕ} {row_duals col_duals : List Float} {s : MatchBytes} → Roomy n s → length rows_of ≡ n → length row_duals ≡ n
    → length col_duals ≡ n → Laying rows_of row_duals col_duals s
laying r p u v = record {
  duals = u ∙ sym v;
  perm = r.perm ∙ ap (λ (k : ℕ). 4 * k) (sym p);
  u = r.u ∙ ap (λ (k : ℕ). 8 * k) (sym u);
  v =
      r.v ∙ ap (λ (k : ℕ). 8 * k) (sym v);
  answer = r.answer;
}

-- ---- the graph that is read
list_length : {A : Type 0} (k : ℕ) (f : ℕ → A) → length (list_of k f) ≡ k
unfolding list_of
list_length zero f = refl
list_length (suc k) f = ap suc (list_length k (λ (i : ℕ). f (suc i)))

pub words_length : (bytes : List ℕ) (k : ℕ) → length (words bytes k) ≡ k
unfolding words
words_length bytes k = list_length k _

pub doubles_length : (bytes : List ℕ) (k : ℕ) → length (doubles bytes k) ≡ k
unfolding doubles
doubles_length bytes k = list_length k _

pub read_lengths : (b : GraphBytes) → graph_lengths (graph_read b) ≡ true
unfolding graph_read
read_lengths b = rw (
  eq-eqb _ _ (words_length b.col_ptr (b.n + 1)),
  eq-eqb _ _ (doubles_length b.cost (word_count (length b.rows)) ∙ sym (words_length b.rows (word_count (length b.rows)))),
) refl

pub small : {n : ℕ} (entries : ℕ) {col_ptr rows : List ℕ} {cost : List Float} → n ≤ byte_columns → length col_ptr ≡ n + 1 → length rows ≡ entries
    → length cost ≡ entries → Small (graph_of n col_ptr rows cost)
small entries h p r c = record { columns = h; lengths = rw (eq-eqb _ _ p, eq-eqb _ _ (c ∙ sym r)) refl }

pub result_read : (b : GraphBytes) (old : MatchBytes) {t : Outcome ℕ MatchBytes} {col_ptr rows : List ℕ} {cost : List Float}
    → t ≡ graph_result (graph_of b.n col_ptr rows cost) old → col_ptr ≡ words b.col_ptr (b.n + 1) → rows ≡ words b.rows
    (word_count (length b.rows)) → cost ≡ doubles b.cost (word_count (length b.rows)) → t ≡ graph_result (graph_read b) old
unfolding graph_read
result_read b old e p r c = e ∙ ap (λ (g : CostGraph). graph_result g old) (rw (p, r, c) refl)

-- the bytes of its match stand for the match
read_back : (b : GraphBytes) → Accepted (graph_read b) → match_read b.n (match_laid (hungarian_match (graph_read b))) ≡ hungarian_match (graph_read b)
unfolding graph_read
read_back b a = match_reads_back (graph_read b) a (read_doubles b)

-- ---- sizes
module _ (b : GraphBytes) (s : MatchBytes) {sizes : ℕ}
    (e : sizes ≡ byte_sizes b.n (length b.col_ptr) (length b.rows) (length b.cost) (length s.perm) (length s.u) (length s.v)
    (length s.answer)) where
  pub sizes_fit : sizes ≡ 0 → Sized b × Roomy b.n s
  unfolding byte_sizes byte_lengths
  sizes_fit z =
      let c = or-zero (unless (leb b.n byte_columns) too_many_columns) _ (sym e ∙ z) in
      let t = or-zero (unless (leb (word_count (length b.rows)) byte_entries) too_many_entries) _ c.1 in
      let l0 = both (eqb (length b.col_ptr) (4 * (b.n + 1))) _ (unless_holds _ slice_length (omega arith) t.1) in
      let l1 = both (eqb (length b.rows) (4 * word_count (length b.rows))) _ l0.1 in
      let l2 = both (eqb (length b.cost) (8 * word_count (length b.rows))) _ l1.1 in
      let l3 = both (eqb (length s.perm) (4 * b.n)) _ l2.1 in
      let l4 = both (eqb (length s.u) (8 * b.n)) _ l3.1 in
      let l5 = both (eqb (length s.v) (8 * b.n)) (eqb (length s.answer) 64) l4.1 in (
        record {
          columns = leb-true _ _ (unless_holds _ too_many_columns (omega arith) c.0);
          entries = leb-true _ _ (unless_holds _ too_many_entries (omega arith) t.0);
          col_ptr = eqb-true _ _ l0.0;
          rows = eqb-true _ _ l1.0;
          cost = eqb-true _ _ l2.0;
        },
        record { perm = eqb-true _ _ l3.0; u = eqb-true _ _ l4.0; v = eqb-true _ _ l5.0; answer = eqb-true _ _ l5.1 },
      )

  -- a fault of the sizes is the answer
  pub unsized : sizes ≢ 0 → let t = outcome_is sizes s in (t ≡ match_bytes_result b s) × (BytesMatch b t × (BytesPromised b t × BytesCounted b t))
  unfolding match_bytes_result bytes_fault result_by
  unsized z = (
    changed sizes z ∙ ap (λ (f : ℕ). result_by f (graph_read b) s)
        (sym (or_some sizes (graph_fault (graph_read b) true) z) ∙ ap (λ (k : ℕ). or_else k (graph_fault (graph_read b) true)) e),
    (λ n. absurd (z n), (λ n. absurd (z n), λ n. absurd (z n))),
  )
    where
      changed : (f : ℕ) → f ≢ 0 → outcome_is f s ≡ result_by f (graph_read b) s
      changed zero z = absurd (z refl)
      changed (suc f) z = refl

  -- with none it is the graph's
  module _ (z : sizes ≡ 0) {t : Outcome ℕ MatchBytes} (h : t ≡ graph_result (graph_read b) s) where
    by_graph : t ≡ match_bytes_result b s
    unfolding match_bytes_result bytes_fault graph_result
    by_graph = h ∙ ap (λ (f : ℕ). result_by f (graph_read b) s) (sym (or-none {b = graph_fault (graph_read b) true} (sym e ∙ z)))

    -- an accepted call leaves bytes that stand for the match of an accepted graph
    stands : t.answer ≡ 0 → Accepted (graph_read b) × (match_read b.n t.after ≡ hungarian_match (graph_read b))
    unfolding graph_result result_by
    stands n = go (graph_fault (graph_read b) true) refl h
      where
        go : (f : ℕ) → graph_fault (graph_read b) true ≡ f → t ≡ result_by f (graph_read b) s → Accepted (graph_read b)
            × (match_read b.n t.after ≡ hungarian_match (graph_read b))
        go zero q p =
            let a : Accepted (graph_read b) = rw (read_lengths b) q in
            (a, ap (λ (x : Outcome ℕ MatchBytes). match_read b.n x.after) p ∙ read_back b a)
        go (suc f) q p = let y : 0 ≡ suc f = sym n ∙ ap (λ (x : Outcome ℕ MatchBytes). x.answer) p in absurd (omega arith)

    pub sized : (t ≡ match_bytes_result b s) × (BytesMatch b t × (BytesPromised b t × BytesCounted b t))
    sized = (
      by_graph,
      (
        λ n. subst (λ (m : Matching). LargestMatch (graph_read b).pattern m) (sym (stands n).1) (match_largest (graph_read b) (stands n).0 (read_doubles b)),
        (
          λ n w. subst (λ (m : Matching). Optimal (graph_read b) m) (sym (stands n).1) (match_optimal (graph_read b) (stands n).0 w),
          λ n. subst (λ (m : Matching). Work (graph_read b) m.stats) (sym (stands n).1) (match_work (graph_read b) (stands n).0 (read_doubles b)),
        ),
      ),
    )
