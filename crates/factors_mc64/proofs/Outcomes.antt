-- The calls' answers: a refusal leaves what was lent, an accepted call has what its steps ask, and each answer has its number and count.
use mathlib.Core.Path.{◌≡◌, refl, sym, ap, ◌∙◌}
use mathlib.Core.Logic.{◌≢◌}
use mathlib.Core.Bool.{Bool, true, false, cond, ◌&&◌}
use mathlib.Core.List.{List}
use Prim.Native.Nat.{ℕ, ◌-◌, ◌≤◌}
use native.Mathlib.Omega.{arith}
use borrow.Author.Tests.{eqb-true, leb-true}
use lib.Dec.{eqb, leb}
use lib.ListN.{length, get_or, replicate}
use lib.Ieee.{Float}
use Rattle.std.specs.Prelude.{Result, Ok, Err}
use Rattle.refusal.specs.Refusal.{matching_range}
use Rattle.refusal.specs.Number.{fault_of}
use Rattle.slices.specs.Outcome.{outcome_is, as_number}
use Rattle.slices.proofs.Refusing.{refused_is}
use Rattle.sparse.specs.Fault.{unless, or_else, first_of}
use Rattle.sparse.proofs.First.{or-zero, unless_holds, all_zero}
use Rattle.slices.proofs.Bools.{both}
use Rattle.sparse.proofs.Accepted.{sizes_accepted}
use Rattle.matching.specs.Match.{Match}
use Rattle.factors_mc64.specs.declared.Scaled.{Scaled}
use Rattle.factors_mc64.specs.declared.Scaled.TheVariants.{Applied, PartialSingular}
use Rattle.factors_mc64.specs.Factors.{symmetric_factors, row_factors, column_factors}
use Rattle.factors_mc64.specs.Calls.{Slices, slices, sizes, lengths, row_or_none, matching_fault, log_factors_fault, unmatched_of, AnswersBy}
use Rattle.factors_mc64.specs.Calls.{applied_or_partial, symmetric_outcome, sides, side_lengths, unsymmetric_outcome, scaled, sides_scaled}
use Rattle.factors_mc64.specs.inner.Steps.{Accepted, SideRoom}

-- one test more of a chain of lengths
next : {a n : ℕ} {rest : Bool} → (eqb a n && rest) ≡ true → (a ≡ n) × (rest ≡ true)
next {a} {n} {rest} t = let b = both (eqb a n) rest t in (eqb-true a n b.0, b.1)

-- ---- the number and the count of an answer
unmatched_is : (n matched : ℕ) → unmatched_of (Ok (applied_or_partial n matched)) ≡ n - matched
unmatched_is n matched = go (eqb matched n) refl
  where
    go : (t : Bool) → eqb matched n ≡ t → unmatched_of (Ok (cond t Applied (PartialSingular (n - matched)))) ≡ n - matched
    go true e = let q : matched ≡ n = eqb-true matched n e in omega arith
    go false e = refl

pub answered_scaled : (n matched : ℕ) {fault : ℕ} {answer : Result Scaled ℕ} → answer ≡ Ok (applied_or_partial n matched)
    → fault ≡ 0 → AnswersBy fault (n - matched) answer
answered_scaled n matched e z =
    record { number = ap fault_of e ∙ sym z; count = λ i. ap unmatched_of e ∙ unmatched_is n matched }

answered_refused : {found fault : ℕ} (unmatched : ℕ) → found ≡ fault → found ≢ 0 → AnswersBy fault unmatched (Err found)
answered_refused unmatched e h = record { number = e; count = λ z. absurd (h z) }

-- ---- symmetric
module _ (n matched : ℕ) (c : Match Float) (s : Slices) where
  abbrev fault : ℕ
  fault = log_factors_fault n matched c s

  -- what the call promises of its answer and the slices left
  abbrev Promised : Result Scaled ℕ → Slices → Type 0
  Promised answer after = (outcome_is answer after ≡ symmetric_outcome n matched c s) × AnswersBy fault (n - matched) answer

  pub fault_is : {found : ℕ} {fit : Bool} → found ≡ or_else (sizes n fit) (matching_fault n matched c.perm) → fit ≡ lengths n c s → found ≡ fault
  fault_is e f = e ∙ ap (λ (b : Bool). or_else (sizes n b) (matching_fault n matched c.perm)) f

  pub refuses : {found : ℕ} → found ≡ fault → found ≢ 0 → Promised (Err found) s
  unfolding symmetric_outcome
  refuses e z = (refused_is Err (scaled n matched c) s e z, answered_refused (n - matched) e z)

  module _ (e : fault ≡ 0) where
    none_wrong : (matched ≤ n) × (first_of (length c.perm) (λ k. unless (row_or_none n (get_or c.perm k 0)) matching_range) 0 ≡ 0)
    unfolding matching_fault
    none_wrong =
        let z = or-zero (unless (leb matched n) matching_range) _ (or-zero (sizes n (lengths n c s)) _ e).1 in
        (leb-true matched n (unless_holds (leb matched n) matching_range (omega arith) z.0), z.1)

    pub few_matched : matched ≤ n
    few_matched = none_wrong.0

    pub accepted : Accepted n c s
    unfolding lengths
    accepted =
        let z = (sizes_accepted n 0 0 (lengths n c s)).0 (or-zero (sizes n (lengths n c s)) _ e).0 in
        let perms = next z.2 in
        let duals = next perms.1 in
        let columns = next duals.1 in
        let largest = next columns.1 in
        let room = next largest.1 in
        record {
          small = z.0;
          perms = perms.0;
          row_duals = duals.0;
          column_duals = columns.0;
          largest = largest.0;
          factors = room.0;
          words = eqb-true (length s.work) n room.1;
          rows = λ k h. unless_holds (row_or_none n (get_or c.perm k 0)) matching_range (omega arith)
              ((all_zero _ (length c.perm)).0 none_wrong.1 k (omega (arith, perms.0)));
        }

    pub applies : {answer : Scaled} {after : Slices} → answer ≡ applied_or_partial n matched → after ≡ slices (symmetric_factors n c) (replicate n 0)
        → Promised (Ok answer) after
    unfolding symmetric_outcome
    applies a f = (rw (a, f, e) refl, answered_scaled n matched (ap Ok a) e)

-- ---- unsymmetric
module _ (n : ℕ) (u v cmax rows columns : List Float) where
  pub sides_refuse : {found : ℕ} {fit : Bool} → found ≡ sizes n fit → fit ≡ side_lengths n u v cmax rows columns → found ≢ 0
      → outcome_is found (sides rows columns) ≡ unsymmetric_outcome n u v cmax rows columns
  unfolding unsymmetric_outcome
  sides_refuse e f z = refused_is as_number (sides_scaled n u v cmax) (sides rows columns) (e ∙ ap (sizes n) f) z

  module _ (e : sizes n (side_lengths n u v cmax rows columns) ≡ 0) where
    pub side_room : SideRoom n u v cmax rows columns
    unfolding side_lengths
    side_room =
        let z = (sizes_accepted n 0 0 (side_lengths n u v cmax rows columns)).0 e in
        let duals = next z.2 in
        let column_duals = next duals.1 in
        let largest = next column_duals.1 in
        let room = next largest.1 in
        record {
          small = z.0;
          row_duals = duals.0;
          column_duals = column_duals.0;
          largest = largest.0;
          row_room = room.0;
          column_room = eqb-true (length columns) n room.1;
        }

    pub sides_apply : {rows' columns' : List Float} → rows' ≡ row_factors n u → columns' ≡ column_factors n v cmax
        → outcome_is 0 (sides rows' columns') ≡ unsymmetric_outcome n u v cmax rows columns
    unfolding unsymmetric_outcome
    sides_apply p q = rw (p, q, e) refl
