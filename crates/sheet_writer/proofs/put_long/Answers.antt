-- `put_long` meets its contract: by its bit.
use Rattle.std.proofs.Common.{ℕ, ◌+◌, sym, ap}
use Rattle.byte_numbers.proofs.Words.{bytes_length}
use Rattle.sheet_writer.proofs.Writing.{part_none, part_there}
use Rattle.sheet_writer.proofs.put_long.Goals as goal

pub returns-then-bit-eq0 : goal.returns-then-bit-eq0
returns-then-bit-eq0 c = part_none _ 8 _ c.if-bit-eq0.true

pub returns : goal.returns
returns c = let a = c.args in
    part_there _ 8 _ c.if-bit-eq0.false
    (record { bytes = c.put_u64.ensures; place = ap (λ (k : ℕ). a.at + k) (sym (bytes_length 8 a.value)) })
