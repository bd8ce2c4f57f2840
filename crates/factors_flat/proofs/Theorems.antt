-- What both rules share: matched indices have the factors of the identity rule, all have where none is unmatched, every factor lies between -709 and
-- 709; which numbers a call answers. By the fault of each rule.
use mathlib.Core.Path.{◌≡◌, refl, sym, ap, ◌∙◌, subst}
use mathlib.Core.Bool.{Bool, true, false}
use Prim.Native.Nat.{ℕ, zero, suc, ◌-◌, ◌<◌}
use native.Mathlib.Omega.{arith}
use lib.Ieee.{Float}
use Rattle.std.specs.Prelude.{Result, Err}
use Rattle.refusal.specs.Number.{fault_of}
use Rattle.refusal.specs.Listed.{listed, OneOf, symmetric_graph_numbers, log_factor_numbers, rule_numbers}
use Rattle.slices.specs.Outcome.{outcome_is, Outcome, refusing}
use Rattle.sparse.proofs.Listed.{Listed, or_listed, within, part}
use Rattle.matching.specs.Match.{Match}
use Rattle.mc64_symmetric.proofs.Theorems.{input_listed}
use Rattle.factors_mc64.specs.declared.Scaled.{Scaled}
use Rattle.factors_mc64.specs.Factors.{factor_at, symmetric_factors}
use Rattle.factors_mc64.specs.Calls.{Slices, log_factors_fault, AnswersBy, symmetric_outcome, scaled}
use Rattle.factors_mc64.proofs.Outcomes.{answered_scaled}
use Rattle.factors_mc64.proofs.Theorems.{matching_listed, log_factors_listed}
use Rattle.factors_flat.specs.declared.Rule.{Rule}
use Rattle.factors_flat.specs.declared.Rule.TheVariants.{Identity, Flat}
use Rattle.factors_flat.specs.Flat.{Input, columns, is_matched, sums_of, kept_or_flat, flat_factor_at, flat_factors}
use Rattle.factors_flat.specs.Call.{flat_lengths, flat_fault, rule_fault, flat_outcome, rule_outcome, Within, Shared, Shares, flat_scaled, Promises}
use Rattle.factors_mc64.proofs.Exact.{doubles_at}
use Rattle.factors_flat.proofs.Ends.{doubles_same}
use Rattle.factors_flat.proofs.Bounds.{factor_within, sums_within, logs_finite}
use Rattle.factors_flat.proofs.Calling.{values_fine, values_stored, identity_fine}

-- ---- the factors
-- those of the identity rule
identity_shared : (n : ℕ) (c : Match Float) → Shared n c (symmetric_factors n c)
identity_shared n c =
    record {
      kept = λ i l e. doubles_at (factor_at n c) n i l;
      agree = λ a. refl;
      within = λ i l. subst Within (sym (doubles_at (factor_at n c) n i l)) (factor_within _ _ _ _);
    }

-- without an unmatched index both rules give the same factors
pub flat_agrees : (g : Input) → ((i : ℕ) → i < columns g → is_matched (columns g) g.pairs i ≡ true) → flat_factors g ≡ symmetric_factors (columns g) g.pairs
flat_agrees g a = doubles_same (flat_factor_at g) (factor_at (columns g) g.pairs) (columns g)
    (λ i l. ap (λ (b : Bool). kept_or_flat b (factor_at (columns g) g.pairs i) (sums_of g i)) (a i l))

module _ (matched : ℕ) (g : Input) (s : Slices) (fine : flat_fault matched g s ≡ 0) where
  flat_between : (i : ℕ) (b : Bool) → Within (kept_or_flat b (factor_at (columns g) g.pairs i) (sums_of g i))
  flat_between i true = factor_within _ _ _ _
  flat_between i false = sums_within g (logs_finite g.stored g.logs (values_fine matched g s fine) (values_stored matched g s fine)) i

  flat_shared : Shared (columns g) g.pairs (flat_factors g)
  flat_shared =
      record {
        kept = λ i l e. doubles_at (flat_factor_at g) (columns g) i l ∙ ap (λ (b : Bool). kept_or_flat b (factor_at (columns g) g.pairs i) (sums_of g i)) e;
        agree = flat_agrees g;
        within = λ i l. subst Within (sym (doubles_at (flat_factor_at g) (columns g) i l)) (flat_between i (is_matched (columns g) g.pairs i));
      }

  -- both rules leave the same of a call that the flat rule accepts, if no index is unmatched
  pub rules_agree : ((i : ℕ) → i < columns g → is_matched (columns g) g.pairs i ≡ true) → rule_outcome Flat matched g s ≡ rule_outcome Identity matched g s
  unfolding flat_outcome symmetric_outcome
  rules_agree a = rw (fine, identity_fine matched g s fine, flat_agrees g a) refl

-- ---- the call, by either rule
module _ (matched : ℕ) (g : Input) (s : Slices) where
  identity_shares : (f : ℕ) → Shares (columns g) g.pairs (refusing Err f (scaled (columns g) matched g.pairs) s).answer
      (refusing Err f (scaled (columns g) matched g.pairs) s).after.factors
  identity_shares zero e = identity_shared (columns g) g.pairs
  identity_shares (suc f) e = let z : ⊥ = omega arith in absurd z

  flat_shares : (f : ℕ) → flat_fault matched g s ≡ f → Shares (columns g) g.pairs (refusing Err f (flat_scaled matched g) s).answer
      (refusing Err f (flat_scaled matched g) s).after.factors
  flat_shares zero q e = flat_shared matched g s q
  flat_shares (suc f) q e = let z : ⊥ = omega arith in absurd z

  rule_shares : (rule : Rule) → Shares (columns g) g.pairs (rule_outcome rule matched g s).answer (rule_outcome rule matched g s).after.factors
  unfolding symmetric_outcome flat_outcome
  rule_shares Identity = identity_shares (log_factors_fault (columns g) matched g.pairs s)
  rule_shares Flat = flat_shares (flat_fault matched g s) refl

  -- ---- the number and the count
  identity_answered : (f : ℕ) → AnswersBy f (columns g - matched) (refusing Err f (scaled (columns g) matched g.pairs) s).answer
  identity_answered zero = answered_scaled (columns g) matched refl refl
  identity_answered (suc f) = record { number = refl; count = λ e. let z : ⊥ = omega arith in absurd z }

  flat_answered : (f : ℕ) → AnswersBy f (columns g - matched) (refusing Err f (flat_scaled matched g) s).answer
  flat_answered zero = answered_scaled (columns g) matched refl refl
  flat_answered (suc f) = record { number = refl; count = λ e. let z : ⊥ = omega arith in absurd z }

  rule_answered : (rule : Rule) → AnswersBy (rule_fault rule matched g s) (columns g - matched) (rule_outcome rule matched g s).answer
  unfolding symmetric_outcome flat_outcome
  rule_answered Identity = identity_answered (log_factors_fault (columns g) matched g.pairs s)
  rule_answered Flat = flat_answered (flat_fault matched g s)

  pub rule_fault_listed : (rule : Rule) → Listed rule_numbers (rule_fault rule matched g s)
  unfolding listed within symmetric_outcome
  rule_fault_listed Identity = subst (Listed rule_numbers) (identity_answered (log_factors_fault (columns g) matched g.pairs s)).number
      (part log_factor_numbers (log_factors_listed (columns g) matched g.pairs s) refl)
  rule_fault_listed Flat =
      or_listed (part symmetric_graph_numbers (input_listed g.stored g.logs (flat_lengths g s)) refl)
      (part log_factor_numbers (matching_listed (columns g) matched g.pairs.perm) refl)

  pub rule_listed : (rule : Rule) → OneOf rule_numbers (fault_of (rule_outcome rule matched g s).answer)
  rule_listed rule = subst (OneOf rule_numbers) (sym (rule_answered rule).number) (rule_fault_listed rule).is

  -- all that the call promises, from the outcome of the rule
  pub promised : (rule known : Rule) → rule ≡ known → {answer : Result Scaled ℕ} {after : Slices} → outcome_is answer after ≡ rule_outcome known matched g s
      → Promises rule matched g s answer after
  promised rule known q {answer} {after} w =
      let e : outcome_is answer after ≡ rule_outcome rule matched g s = w ∙ ap (λ (r : Rule). rule_outcome r matched g s) (sym q) in
      record {
        outcome = e;
        answered = subst (λ (o : Outcome (Result Scaled ℕ) Slices). AnswersBy (rule_fault rule matched g s) (columns g - matched) o.answer) (sym e) (rule_answered rule);
        number = subst (λ (o : Outcome (Result Scaled ℕ) Slices). OneOf rule_numbers (fault_of o.answer)) (sym e) (rule_listed rule);
        shared = subst (λ (o : Outcome (Result Scaled ℕ) Slices). Shares (columns g) g.pairs o.answer o.after.factors) (sym e) (rule_shares rule);
      }
