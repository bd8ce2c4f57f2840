-- The call by a number: what each case of the answer leaves, that a refusal is no acceptance, and that the number is listed.
use mathlib.Core.Path.{◌≡◌, refl, sym, ap, ◌∙◌, subst}
use mathlib.Core.Logic.{◌≢◌}
use mathlib.Core.Bool.{Bool, true, false, cond, true≢false}
use mathlib.Core.List.{List, [], ◌∷◌}
use Prim.Native.Nat.{ℕ, ◌≤◌, ◌<◌}
use native.Mathlib.Omega.{arith}
use borrow.Author.Tests.{leb-true, leb-false, le-leb, lt-leb, eq-eqb, ne_eqb}
use lib.Dec.{leb}
use lib.ListN.{length, set}
use Rattle.std.specs.Prelude.{Result, Ok, Err}
use Rattle.limits.specs.Limits.{max_symmetric}
use Rattle.refusal.specs.Refusal.{index_range}
use Rattle.refusal.specs.Listed.{listed, OneOf, rule_numbers}
use Rattle.slices.proofs.Lists.{only}
use Rattle.slices.specs.Outcome.{outcome_is, Outcome, as_number, refusing}
use Rattle.slices.proofs.Refusing.{refused_is, refusing_over}
use Rattle.sparse.proofs.Accepted.{sizes_accepted}
use Rattle.sparse.proofs.Listed.{Listed, within, part}
use Rattle.sparse.proofs.Theorems.{size_numbers, sizes_listed}
use Rattle.factors_mc64.specs.declared.Scaled.{Scaled}
use Rattle.factors_mc64.specs.Calls.{Slices, unmatched_of, symmetric_outcome}
use Rattle.factors_flat.specs.declared.Rule.{Rule}
use Rattle.factors_flat.specs.declared.Rule.TheVariants.{Identity, Flat}
use Rattle.factors_flat.specs.Flat.{Input, columns}
use Rattle.factors_flat.specs.Call.{rule_outcome, rule_fault, rule_scaled, flat_outcome, Promises}
use Rattle.factors_flat.specs.ByNumber.{rule_of, rule_by, unfit_fault, result_of, result_by, lent, number_fault, NumberPromises}

-- ---- the rule of a number
-- a number that has a rule is 0 or 1
pub rule_found : (number : ℕ) {rule : Rule} → Ok rule ≡ rule_by number → (number ≤ 1) × (rule ≡ rule_of number)
rule_found number {rule} e = go (leb number 1) refl e
  where
    go : (b : Bool) → leb number 1 ≡ b → Ok rule ≡ cond b (Ok (rule_of number)) (Err index_range)
        → (number ≤ 1) × (rule ≡ rule_of number)
    go true t e = (leb-true number 1 t, cc)
    go false t e = cc

-- any other is refused
pub rule_missing : (number : ℕ) {fault : ℕ} → Err fault ≡ rule_by number → (1 < number) × (fault ≡ index_range)
rule_missing number {fault} e = go (leb number 1) refl e
  where
    go : (b : Bool) → leb number 1 ≡ b → Err fault ≡ cond b (Ok (rule_of number)) (Err index_range)
        → (1 < number) × (fault ≡ index_range)
    go true t e = cc
    go false t e = (leb-false number 1 t, cc)

-- wrong lengths are never accepted
unfit_refuses : (rule : Rule) (n count : ℕ) → unfit_fault rule n count ≢ 0
unfit_refuses Identity n count e = let z = (sizes_accepted n 0 0 false).0 e in true≢false (sym z.2)
unfit_refuses Flat n count e = let z = (sizes_accepted n max_symmetric count false).0 e in true≢false (sym z.2)

-- and their numbers are listed
unfit_listed : (rule : Rule) (n count : ℕ) → Listed rule_numbers (unfit_fault rule n count)
unfolding listed within
unfit_listed Identity n count = part size_numbers (sizes_listed n 0 0 false) refl
unfit_listed Flat n count = part size_numbers (sizes_listed n max_symmetric count false) refl

module _ (number matched : ℕ) (g : Input) (s : Slices) (old : List ℕ) where
  -- what the call promises of its number and what is left
  abbrev Promised : ℕ → Slices → List ℕ → Type 0
  Promised = NumberPromises number matched g s old

  -- the rule's call as a number and a count
  rule_result : (rule : Rule) → result_of (rule_outcome rule matched g s) old ≡ refusing as_number (rule_fault rule matched g s)
      (result_of (rule_scaled rule matched g) old) (lent s old)
  unfolding symmetric_outcome flat_outcome
  rule_result Identity = refusing_over (λ (o : Outcome (Result Scaled ℕ) Slices). result_of o old) Err as_number (rule_fault Identity matched g s)
      (rule_scaled Identity matched g) s (lent s old) (λ k. refl)
  rule_result Flat = refusing_over (λ (o : Outcome (Result Scaled ℕ) Slices). result_of o old) Err as_number (rule_fault Flat matched g s)
      (rule_scaled Flat matched g) s (lent s old) (λ k. refl)

  pub no_rule : 1 < number → Promised index_range s old
  unfolding result_by number_fault listed
  no_rule h = record { result = rw (lt-leb number 1 h) refl; shared = λ e. let z : ⊥ = omega arith in absurd z; number = refl }

  module _ (low : number ≤ 1) where
    pub unfit : {found : ℕ} → length old ≢ 1 → found ≡ unfit_fault (rule_of number) (columns g) (length g.stored.pattern.row_idx) → Promised found s old
    unfolding result_by number_fault
    unfit {found} h e =
        let some : found ≢ 0 = λ z. unfit_refuses (rule_of number) (columns g) (length g.stored.pattern.row_idx) (sym e ∙ z) in
        let wrong : found ≡ number_fault number matched g s old = rw (le-leb number 1 low, ne_eqb (length old) 1 h) e in
        record {
          result = refused_is as_number (result_of (rule_scaled (rule_of number) matched g) old) (lent s old) wrong some;
          shared = λ z. absurd (some z);
          number = subst (OneOf rule_numbers) (sym e) (unfit_listed (rule_of number) (columns g) (length g.stored.pattern.row_idx)).is;
        }

    module _ (h : length old ≡ 1) {rule : Rule} {a : Result Scaled ℕ} {after : Slices} (r : rule ≡ rule_of number) (P : Promises rule matched g s a after) where
      result_of_lem : result_of (outcome_is a after) old ≡ result_by number matched g s old
      unfolding result_by number_fault
      result_of_lem =
          let same : rule_fault (rule_of number) matched g s ≡ number_fault number matched g s old = rw (le-leb number 1 low, eq-eqb (length old) 1 h) refl in
          ap (λ (o : Outcome (Result Scaled ℕ) Slices). result_of o old) (P.outcome ∙ ap (λ (x : Rule). rule_outcome x matched g s) r)
          ∙ rule_result (rule_of number)
          ∙ ap (λ (f : ℕ). refusing as_number f (result_of (rule_scaled (rule_of number) matched g) old) (lent s old)) same

    module _ (h : length old ≡ 1) {rule : Rule} {after : Slices} (r : rule ≡ rule_of number) where
      pub done : {a : Scaled} → Promises rule matched g s (Ok a) after → (count : ℕ) → count ≡ unmatched_of (Ok a)
          → Promised 0 after (set old 0 count)
      done P count q =
          record {
            result = ap (λ (l : List ℕ). outcome_is 0 (lent after l)) (only old count h ∙ ap (λ (k : ℕ). k ∷ []) q) ∙ result_of_lem h r P;
            shared = P.shared;
            number = P.number;
          }

      pub refused : {found : ℕ} → Promises rule matched g s (Err found) after → Promised found after old
      refused P = record { result = result_of_lem h r P; shared = P.shared; number = P.number }
