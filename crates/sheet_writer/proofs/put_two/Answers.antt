-- `put_two` meets its contract: the low byte first.
use Rattle.std.proofs.Common.{ℕ, ◌+◌, sym, ap}
use Rattle.byte_numbers.proofs.Words.{bytes_length}
use Rattle.sheet_writer.proofs.Writing.{two_stores}
use Rattle.sheet_writer.proofs.put_two.Goals as goal

pub returns : goal.returns
returns c = record {
  bytes = two_stores c.args.out.now c.args.at c.args.value;
  place = ap (λ (k : ℕ). c.args.at + k) (sym (bytes_length 2 c.args.value));
}
