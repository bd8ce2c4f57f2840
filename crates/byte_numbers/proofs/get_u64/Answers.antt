-- The library's number of a part of the slice is the definition's.
use Rattle.std.proofs.Common.{◌≡◌, ◌+◌, ◌-◌, ◌∙◌, arith}
use Rattle.byte_numbers.proofs.Words.{long_is}
use Rattle.byte_numbers.proofs.get_u64.Goals as goal

pub returns : goal.returns
returns c =
    let count : c.args.at + 8 - c.args.at ≡ 8 = omega arith in
    rw (c.copy_from_slice.ensures.after, count) at c.from_le_bytes.ensures ∙ long_is c.args.bytes.now c.args.at
