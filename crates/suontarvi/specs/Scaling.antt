-- SPECIFICATION 10.2: The chooser over the C interface: the choice as a number, and what was done as two numbers in
-- `info`.
use Rattle.std.specs.Prelude.{◌≡◌, false, cond, ◌||◌, List, ℕ, eqb, leb, Float, Result, length, get_or}
use Rattle.limits.specs.Limits.{max_symmetric}
use Rattle.refusal.specs.Refusal.{accepted}
use Rattle.refusal.specs.Listed.{OneOf, chooser_numbers}
use Rattle.refusal.specs.Number.{fault_of}
use Rattle.slices.specs.Outcome.{Outcome, outcome_is, refusing, as_number}
use Rattle.sparse.specs.Validate.{size_fault}
use Rattle.sparse.specs.Matrix.{Matrix}
use Rattle.factors_balance.specs.Balance.{WholeLogs, NoneHeld, Balanced}
use Rattle.scaling.specs.Choice.{Slices, cache_of, last_choice, strategy_for, no_choice, choice_fault, chosen}
use Rattle.scaling.specs.Choice.{info_of}
use Rattle.scaling.specs.declared.Scaling.{Scaling}

-- what is lent: the slices of the chooser, and two places for what was done
pub record Lent : Type 0 where
  pub slices : Slices
  pub info : List ℕ

abbrev pub lent : Slices → List ℕ → Lent
lent slices info = record { slices = slices; info = info }

-- an outcome of the chooser as a number and what was done
abbrev pub scaling_result_of : Outcome (Result Scaling ℕ) Slices → List ℕ → Outcome ℕ Lent
scaling_result_of o old = outcome_is (fault_of o.answer) (lent o.after (info_of o.answer old))

-- the first thing wrong, or 0. A wrong length of `info` is a wrong length: 1 and 2 come before it. The external choice,
-- the last one, tests no length
unfoldable pub number_fault : ℕ → Matrix → List Float → List Float → Slices → List ℕ → ℕ
number_fault choice m external logs s old =
    cond (eqb choice last_choice || eqb (length old) 2)
    (cond (leb choice last_choice) (choice_fault (strategy_for choice) m external logs s) (no_choice m s.factors))
    (size_fault m.pattern.n max_symmetric (length m.pattern.row_idx) false)

-- what `suontarvi_scaling` does
unfoldable pub scaling_by_number : ℕ → Matrix → List Float → List Float → Slices → List ℕ → Outcome ℕ Lent
unfolding number_fault
scaling_by_number choice m external logs s old =
    refusing as_number (number_fault choice m external logs s old)
    (scaling_result_of (chosen (strategy_for choice) m logs s) old) (lent s old)

-- what the factors of the MC64 choice, 2, achieve if 0 is answered, `info` says that every column is matched, the logs
-- read are whole and no factor is held
abbrev pub Balances : ℕ → Matrix → List Float → Outcome ℕ Lent → Type 0
Balances choice m logs t =
    let after = t.after.slices in
    choice ≡ 2 → t.answer ≡ accepted → get_or t.after.info 0 0 ≡ 0 → WholeLogs m logs
    → NoneHeld m.pattern.n (cache_of after) after.factors → Balanced m logs after.pairs.perm after.factors

-- ---- all that `suontarvi_scaling` promises, of the choice, the matrix, what was lent and the result t
pub record ScalingPromises (choice : ℕ) (m : Matrix) (external logs : List Float) (before : Slices) (old : List ℕ)
    (t : Outcome ℕ Lent) : Type 0 where
  -- the number and every slice left are the definition's
  pub outcome : t ≡ scaling_by_number choice m external logs before old
  -- the number is one of the call's list
  pub number : OneOf chooser_numbers t.answer
  -- if every column is matched, the MC64 factors of whole logs balance the entries
  pub balanced : Balances choice m logs t
