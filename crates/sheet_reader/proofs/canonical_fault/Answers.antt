-- `canonical_fault` meets its contract: the first of its two faults.
use Rattle.std.proofs.Common.{◌≡◌, refl, ◌∙◌, rules}
use Rattle.refusal.specs.Number.{number, number_of}
use Rattle.refusal.proofs.Numbers.{number_ne_zero}
use Rattle.sheet_reader.proofs.Tested.{needless_first, rising_second}
use Rattle.sheet_reader.proofs.canonical_fault.Goals as goal

pub returns-in_err-needless_fault : goal.returns-in_err-needless_fault
returns-in_err-needless_fault c =
    let same : number_of c.from_residual.result ≡ number c.in_err-needless_fault.field-0.0 = search rules in
    same ∙ needless_first _ _ c.in_err-needless_fault.ensures (number_ne_zero _)

pub returns : goal.returns
returns c = rising_second _ _ c.in_ok-needless_fault.ensures refl c.rising_fault.ensures
