-- The library's number of a part of the slice is the definition's.
use Rattle.std.proofs.Common.{◌≡◌, ◌+◌, ◌-◌, ◌∙◌, arith}
use Rattle.byte_numbers.proofs.Words.{word_is}
use Rattle.byte_numbers.proofs.get_u32.Goals as goal

pub returns : goal.returns
returns c =
    let count : c.args.at + 4 - c.args.at ≡ 4 = omega arith in
    rw (c.copy_from_slice.ensures.after, count) at c.from_le_bytes.ensures ∙ word_is c.args.bytes.now c.args.at
