-- `numbers::read_number` meets its contract: by the length of the word, then digit by digit.
use Rattle.std.proofs.Common.{sym, ◌∙◌, length, arith}
use borrow.Author.Tests.{eqb-true, eqb-false}
use Rattle.text_matrix_market.proofs.Digits.{too_short, too_long, read_none, no_digit, digit, small, read_all}
use Rattle.text_matrix_market.proofs.numbers.read_number.Goals as goal
use Rattle.text_matrix_market.proofs.numbers.read_number.Goals.{then-is_empty-via-then-is_empty, then-is_empty-via-else-is_empty+then-word-gt-MAX_DIGITS}

pub returns-then-is_empty : goal.returns-then-is_empty
returns-then-is_empty c =
    elim c.then-is_empty.branch [
      | then-is_empty-via-then-is_empty w ↦ too_short _ (eqb-true (length c.args.word.now) 0 (sym c.is_empty.ensures ∙ w.if-is_empty.true))
      | then-is_empty-via-else-is_empty+then-word-gt-MAX_DIGITS w ↦ too_long _ w.if-word-gt-MAX_DIGITS.true
    ]

pub loop-digit-init : goal.loop-digit-init
loop-digit-init c =
    read_none c.args.word.now (eqb-false (length c.args.word.now) 0 (sym c.is_empty.ensures ∙ c.if-is_empty.false)) c.if-word-gt-MAX_DIGITS.false

pub returns-then-not-is_ascii_digit : goal.returns-then-not-is_ascii_digit
returns-then-not-is_ascii_digit c =
    no_digit c.args.word.now c.loop-digit.invariant c.loop-digit-test.true (sym c.if-not-is_ascii_digit.ensures.value)

pub overflow_mul-value : goal.overflow_mul-value
overflow_mul-value c = omega (arith, small c.args.word.now c.loop-digit.invariant c.loop-digit-test.true)

pub overflow_add-value : goal.overflow_add-value
overflow_add-value c = omega (arith, small c.args.word.now c.loop-digit.invariant c.loop-digit-test.true, c.type_inv.word c.loop-digit.digit-index)

pub loop-digit-preserved : goal.loop-digit-preserved
loop-digit-preserved c =
    rw c.from.ensures (digit c.args.word.now c.loop-digit.invariant c.loop-digit-test.true (sym c.if-not-is_ascii_digit.ensures.value))

pub returns : goal.returns
returns c = read_all c.args.word.now c.loop-digit.invariant (omega arith)
