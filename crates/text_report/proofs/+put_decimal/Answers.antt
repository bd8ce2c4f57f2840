-- `put_decimal` meets its contract: a number of one digit, or a tenth of it and then its last digit.
use mathlib.Core.Path.{refl, sym}
use Prim.Native.Nat.{◌+◌, ◌%◌}
use native.Mathlib.Omega.{arith}
use Rattle.text_report.proofs.Digits.{decimal_one, decimal_more, one_length, more_length}
use Rattle.text_report.proofs.Writes.{byte, byte_last, restated}
use Rattle.text_report.proofs.+put_decimal.Goals as goal

pub bounds-out-at : goal.bounds-out-at
bounds-out-at t c = omega (arith, one_length c.args.value c.if-value-lt10.true)

pub overflow_add-result : goal.overflow_add-result
overflow_add-result t c = omega (arith, one_length c.args.value c.if-value-lt10.true)

pub returns-then-value-lt10 : goal.returns-then-value-lt10
returns-then-value-lt10 t c =
    let v = c.args.value in
    restated (sym (decimal_one v c.if-value-lt10.true)) refl (byte c.args.out.now c.args.at (48 + v))

pub put_decimal-last-requires : goal.put_decimal-last-requires
put_decimal-last-requires t c = omega (arith, more_length c.args.value c.if-value-lt10.false)

pub bounds-out-last : goal.bounds-out-last
bounds-out-last t c =
    omega (
      arith,
      more_length c.args.value c.if-value-lt10.false,
      c.put_decimal-last.ensures.place,
      c.put_decimal-last.auto.out,
    )

pub overflow_add-result-2 : goal.overflow_add-result-2
overflow_add-result-2 t c =
    omega (
      arith,
      more_length c.args.value c.if-value-lt10.false,
      c.put_decimal-last.ensures.place,
      c.put_decimal-last.auto.out,
    )

pub returns : goal.returns
returns t c =
    let v = c.args.value in
    restated (sym (decimal_more v c.if-value-lt10.false)) refl (byte_last (48 + v % 10) c.put_decimal-last.ensures)
