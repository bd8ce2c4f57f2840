-- `put_patch` meets its contract: nothing for an empty map, else its record.
use Rattle.std.proofs.Common.{sym, ◌∙◌, arith}
use Rattle.sheet.proofs.Lengths.{bits_small}
use Rattle.sheet_writer.proofs.Writing.{patch_none, patch_there}
use Rattle.sheet_writer.proofs.put_patch.Goals as goal

pub returns-then-bits-eq0 : goal.returns-then-bits-eq0
returns-then-bits-eq0 c = patch_none _ _ _ _ _ (sym c.bits_of-bits.ensures ∙ c.if-bits-eq0.true)

pub put_record-requires-clause-bits_bound : goal.put_record-requires-clause-bits_bound
put_record-requires-clause-bits_bound c = let a = c.args in
    rw c.bits_of-bits.ensures (omega (arith, bits_small a.row a.u a.v a.cmax))

pub returns : goal.returns
returns c =
    patch_there _ _ _ _ _ (λ e. c.if-bits-eq0.false (c.bits_of-bits.ensures ∙ e))
    (rw (c.record_size.ensures, c.bits_of-bits.ensures) at c.put_record.ensures)
