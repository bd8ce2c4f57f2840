-- suontarvi_match: the number and the counts of each case of the match's answer, and of what is left what the match promises.
use Rattle.std.proofs.Common.{◌≡◌, ◌≢◌, ◌∙◌, Bool, true, false, cond, eqb, List, ℕ, zero, suc, Result, Ok, Err, length, refl, sym, ap, subst}
use borrow.Author.Tests.{eq-eqb, ne_eqb}
use mathlib.Core.Bool.{true≢false}
use Rattle.limits.specs.Limits.{max_general}
use Rattle.refusal.specs.Refusal.{accepted}
use Rattle.refusal.specs.Listed.{listed, OneOf, graph_numbers}
use Rattle.slices.specs.Outcome.{outcome_is, Outcome, refusing, as_number}
use Rattle.slices.proofs.Refusing.{refused_is, refusing_over}
use Rattle.sparse.specs.Validate.{size_fault}
use Rattle.sparse.proofs.Accepted.{sizes_accepted}
use Rattle.sparse.proofs.Listed.{within, part}
use Rattle.sparse.proofs.Theorems.{size_numbers, sizes_listed}
use Rattle.sparse.specs.Pattern.{entries}
use Rattle.hungarian.specs.Graph.{CostGraph}
use Rattle.hungarian.specs.declared.Counts.{Counts}
use Rattle.hungarian_match.specs.Call.{Slices, counts_of, match_outcome, match_fault}
use Rattle.hungarian_match.specs.Call as call
use Rattle.suontarvi.specs.Match.{match_result_of, match_result, Lent, lent, result_fault, MatchPromises}

abbrev Answered : Type 0
Answered = Outcome (Result Counts ℕ) Slices

-- the match as a number and counts
pub match_over : (g : CostGraph) (s : Slices) (old : List ℕ) → match_result_of (match_outcome g s) old ≡ refusing as_number (match_fault g s)
    (match_result_of (call.finished g s) old) (lent s old)
unfolding match_outcome
match_over g s old = refusing_over (λ (o : Answered). match_result_of o old) Err as_number (match_fault g s) (call.finished g s) s
    (lent s old) (λ k. refl)

-- a result that answers 0 is that of the native call
pub natively : (g : CostGraph) (s : Slices) (old : List ℕ) → (match_result g s old).answer ≡ accepted
    → match_result g s old ≡ match_result_of (match_outcome g s) old
unfolding match_result result_fault call.finished
natively g s old = go (eqb (length old) 8)
  where
    by : ℕ → Outcome ℕ Lent
    by f = refusing as_number f (match_result_of (call.finished g s) old) (lent s old)

    -- the number is the fault
    number_is : (f : ℕ) → (by f).answer ≡ f
    number_is zero = refl
    number_is (suc f) = refl

    go : (b : Bool) → let t = by (cond b (match_fault g s) (size_fault g.pattern.n max_general (entries g.pattern) false)) in
        t.answer ≡ accepted → t ≡ match_result_of (match_outcome g s) old
    go true z = sym (match_over g s old)
    go false z = absurd
        (true≢false (sym ((sizes_accepted g.pattern.n max_general (entries g.pattern) false).0
        (sym (number_is (size_fault g.pattern.n max_general (entries g.pattern) false)) ∙ z)).2))

module _ (g : CostGraph) (s : Slices) (old : List ℕ) where
  -- a refusal promises nothing of a match
  only_numbered : (t : Outcome ℕ Lent) → t ≡ match_result g s old → t.answer ≢ 0 → OneOf graph_numbers t.answer → MatchPromises g s old t
  only_numbered t e n p =
      record { outcome = e; number = p; matching = λ z. absurd (n z); optimal = λ z. absurd (n z); counts = λ z. absurd (n z) }

  -- the answer has not eight places
  pub unfit : {number : ℕ} → length old ≢ 8 → number ≢ 0 → number ≡ size_fault g.pattern.n max_general (entries g.pattern) false
      → MatchPromises g s old (outcome_is number (lent s old))
  unfolding match_result result_fault listed within
  unfit {number} h some e =
      let wrong : number ≡ result_fault g s old = rw (ne_eqb (length old) 8 h) e in
      let o = refused_is as_number (match_result_of (call.finished g s) old) (lent s old) wrong some in
      let l : OneOf graph_numbers number = subst (OneOf graph_numbers) (sym e) (part {l = graph_numbers} size_numbers
      (sizes_listed g.pattern.n max_general (entries g.pattern) false) refl).is in
      only_numbered (outcome_is number (lent s old)) o some l

  module _ (h : length old ≡ 8) {after : Slices} where
    result_of_lem : {a : Result Counts ℕ} → outcome_is a after ≡ match_outcome g s → match_result_of (outcome_is a after) old ≡ match_result g s old
    unfolding match_result result_fault
    result_of_lem e =
        let same : match_fault g s ≡ result_fault g s old = rw (eq-eqb (length old) 8 h) refl in
        ap (λ (o : Answered). match_result_of o old) e
        ∙ match_over g s old
        ∙ ap (λ (f : ℕ). refusing as_number f (match_result_of (call.finished g s) old) (lent s old)) same

    pub refused : {k : ℕ} → k ≢ 0 → call.Promises g s (Err k) after → MatchPromises g s old (outcome_is k (lent after old))
    refused {k} some P = only_numbered (outcome_is k (lent after old)) (result_of_lem P.outcome) some P.number

    pub matched : {m : Counts} → call.Promises g s (Ok m) after → MatchPromises g s old (outcome_is 0 (lent after (counts_of m)))
    matched P =
        record {
          outcome = result_of_lem P.outcome;
          number = P.number;
          matching = λ z. P.matching _ refl;
          optimal = λ z f. P.optimal _ refl f;
          counts = λ z. P.counts _ refl;
        }
