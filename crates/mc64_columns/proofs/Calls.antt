-- The call of a builder: how its answer and what is left are what it promises, what the lengths are when they are right, which numbers it
-- answers, and that it is the same for logs that agree at the places of the graph.
use mathlib.Core.Path.{◌≡◌, refl, sym, ap, fun_ext, ◌∙◌, subst}
use mathlib.Core.Bool.{true}
use mathlib.Core.List.{List, [], ◌∷◌, ◌++◌}
use mathlib.Core.Logic.{◌≢◌}
use Prim.Native.Nat.{ℕ, zero, suc, ◌+◌, ◌*◌}
use borrow.Author.Tests.{eqb-true}
use lib.Dec.{eqb}
use lib.Ieee.{Float}
use lib.ListN.{length, drop, replicate}
use Rattle.std.specs.Prelude.{Result, Ok, Err}
use Rattle.refusal.specs.Listed.{OneOf}
use Rattle.refusal.specs.Number.{fault_of}
use Rattle.slices.specs.Outcome.{outcome_is}
use Rattle.sparse.specs.Matrix.{Matrix}
use Rattle.slices.proofs.Bools.{both}
use Rattle.sparse.proofs.Listed.{Listed}
use Rattle.mc64_columns.specs.Graphs.{Slices, slices_fit, AnswersBy, GraphColumns, logs_of, kept_before, graph_pointers, graph_rows}
use Rattle.mc64_columns.specs.Graphs.{costs_of, joined, built, outcome}
use Rattle.mc64_columns.specs.inner.Steps.{GraphBuilt}

-- ---- the number
-- of an answer by its fault the number is one of the list, where the fault is
pub in_list : {numbers : List ℕ} {fault kept : ℕ} {answer : Result ℕ ℕ} → Listed numbers fault → AnswersBy fault kept answer → OneOf numbers (fault_of answer)
in_list {numbers} l a = subst (OneOf numbers) (sym a.number) l.is

-- ---- outcomes
module _ (n : ℕ) (g : GraphColumns) (logs : List Float) (s : Slices) where
  -- what the call promises of its answer and the slices left
  abbrev Promised : Result ℕ ℕ → Slices → ℕ → Type 0
  Promised a after fault = (outcome_is a after ≡ outcome fault n g logs s) × AnswersBy fault (kept_before g n) a

  pub refused : (x fault : ℕ) → x ≡ fault → x ≢ 0 → Promised (Err x) s fault
  refused zero fault e h = absurd (h refl)
  refused (suc x) fault e h = (ap (λ (f : ℕ). outcome f n g logs s) e, record { number = e; count = λ z. absurd (h z) })

  pub accepted : (after : Slices) (kept fault : ℕ) → 0 ≡ fault → GraphBuilt n g logs s after kept → Promised (Ok kept) after fault
  accepted after kept fault e b =
      let o : outcome_is (Ok kept) after ≡ outcome 0 n g logs s = λ i. record { answer = Ok (b.count i); after = b.slices i } in
      (o ∙ ap (λ (f : ℕ). outcome f n g logs s) e, record { number = e; count = λ z. b.count })

  -- the number is the fault
  pub outcome_listed : {numbers : List ℕ} (fault : ℕ) → Listed numbers fault → Listed numbers (fault_of (outcome fault n g logs s).answer)
  outcome_listed zero p = p
  outcome_listed (suc fault) p = p

  -- ---- logs that agree at the places of the graph
  module _ (other : List Float) (alike : (c : ℕ) → logs_of g logs c ≡ logs_of g other c) where
    columns_alike : logs_of g logs ≡ logs_of g other
    columns_alike = fun_ext alike

    built_alike : built n g logs s ≡ built n g other s
    unfolding built
    built_alike = λ i. record {
      graph_ptr = graph_pointers g n;
      graph_idx = graph_rows g n ++ drop (kept_before g n) s.graph_idx;
      cost = costs_of (columns_alike i) n ++ drop (kept_before g n) s.cost;
      cmax = joined (λ c. g.top (columns_alike i c) ∷ []) n;
      work = replicate (length s.work) 0;
    }

    pub outcome_alike : (fault : ℕ) → outcome fault n g logs s ≡ outcome fault n g other s
    outcome_alike zero = rw built_alike refl
    outcome_alike (suc fault) = refl

-- ---- lengths
pub record Fitting (room : ℕ) (m : Matrix) (logs : List Float) (s : Slices) : Type 0 where
  pub colptrs : length m.pattern.col_ptr ≡ m.pattern.n + 1
  pub valued : length m.values ≡ length m.pattern.row_idx
  pub logged : length logs ≡ length m.pattern.row_idx
  pub pointers : length s.graph_ptr ≡ m.pattern.n + 1
  pub row_room : length s.graph_idx ≡ room
  pub cost_room : length s.cost ≡ room
  pub cmax_room : length s.cmax ≡ m.pattern.n
  pub work_room : length s.work ≡ 2 * m.pattern.n + 2 + length m.pattern.row_idx

pub lengths_fitting : (room : ℕ) (m : Matrix) (logs : List Float) (s : Slices) → slices_fit room m logs s ≡ true → Fitting room m logs s
unfolding slices_fit
lengths_fitting room m logs s e =
    let p = both (eqb (length m.pattern.col_ptr) (m.pattern.n + 1)) _ e in
    let v = both (eqb (length m.values) (length m.pattern.row_idx)) _ p.1 in
    let l = both (eqb (length logs) (length m.pattern.row_idx)) _ v.1 in
    let g = both (eqb (length s.graph_ptr) (m.pattern.n + 1)) _ l.1 in
    let r = both (eqb (length s.graph_idx) room) _ g.1 in
    let c = both (eqb (length s.cost) room) _ r.1 in
    let x = both (eqb (length s.cmax) m.pattern.n) _ c.1 in
    record {
      colptrs = eqb-true _ _ p.0;
      valued = eqb-true _ _ v.0;
      logged = eqb-true _ _ l.0;
      pointers = eqb-true _ _ g.0;
      row_room = eqb-true _ _ r.0;
      cost_room = eqb-true _ _ c.0;
      cmax_room = eqb-true _ _ x.0;
      work_room = eqb-true _ _ x.1;
    }
