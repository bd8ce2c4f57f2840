-- The library's bytes of the number are the definition's, written over a part of the slice.
use Rattle.std.proofs.Common.{◌∙◌}
use Rattle.byte_numbers.proofs.Words.{bytes_length, four_bytes, written}
use Rattle.byte_numbers.proofs.put_u32.Goals as goal

pub returns : goal.returns
returns c =
    let bytes = c.copy_from_slice.ensures.after ∙ c.to_le_bytes.ensures ∙ four_bytes c.args.word in
    written c.args.out.now _ _ c.args.at 4 c.requires (bytes_length 4 c.args.word) bytes
