-- `numbers::read_number` meets its contract. The loop's invariant: the digits from here on, behind those of the value, make the number.
use Rattle.text_matrix_market.proofs.Digits.{Read}
use Rattle.text_matrix_market.proofs.numbers.read_number.Given as goal

abbrev pub invariant-loop-digit : goal.invariant-loop-digit
invariant-loop-digit l = Read l.word l.value l.digit-index
