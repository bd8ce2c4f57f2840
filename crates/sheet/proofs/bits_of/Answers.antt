-- `bits_of` meets its contract: each bit of the code is the definition's.
use Rattle.std.proofs.Common.{refl, ◌∙◌}
use Rattle.limits.specs.Limits.{none}
use Rattle.sheet.specs.Format.{bits_of}
use Rattle.sheet.proofs.Fields.{byte_stands}
use Rattle.sheet.proofs.bits_of.Goals as goal

pub returns : goal.returns
unfolding bits_of
returns c = let a = c.args in
    rw (
      c.from.ensures ∙ byte_stands none a.row,
      c.from-2.ensures ∙ byte_stands 0 a.u,
      c.from-3.ensures ∙ byte_stands 0 a.v,
      c.from-4.ensures ∙ byte_stands 0 a.cmax,
    ) refl
