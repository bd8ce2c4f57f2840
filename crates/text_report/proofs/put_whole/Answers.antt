-- `put_whole` meets its contract: the size casts without loss, and the test says whether a minus comes first.
use Rattle.std.proofs.Common.{refl, sym, ap, ◌∙◌, length, length-set, arith}
use Rattle.text_report.proofs.Writes.{byte_first, restated}
use Rattle.text_report.proofs.Wholes.{size_casts, negative_text, other_text}
use Rattle.text_report.proofs.put_whole.Goals as goal

pub float_to_int-size : goal.float_to_int-size
float_to_int-size c = rw c.abs-size.ensures (size_casts c.args.x c.requires.printable)

pub bounds-out-at : goal.bounds-out-at
bounds-out-at c =
    omega (arith, ap length (negative_text c.args.x c.requires.printable (sym c.has_minus.ensures ∙ c.if-has_minus.true)))

pub put_decimal-requires : goal.put_decimal-requires
put_decimal-requires c =
    let text = negative_text c.args.x c.requires.printable (sym c.has_minus.ensures ∙ c.if-has_minus.true) in
    rw c.abs-size.ensures (simp length-set (omega (arith, ap length text)))

pub returns-then-has_minus : goal.returns-then-has_minus
returns-then-has_minus c =
    let text = negative_text c.args.x c.requires.printable (sym c.has_minus.ensures ∙ c.if-has_minus.true) in
    restated (sym text) refl (byte_first 45 (rw c.abs-size.ensures at c.put_decimal.ensures))

pub put_decimal-requires-2 : goal.put_decimal-requires-2
put_decimal-requires-2 c =
    let text = other_text c.args.x c.requires.printable (sym c.has_minus.ensures ∙ c.if-has_minus.false) in
    rw c.abs-size.ensures (omega (arith, ap length text))

pub returns : goal.returns
returns c =
    let text = other_text c.args.x c.requires.printable (sym c.has_minus.ensures ∙ c.if-has_minus.false) in
    restated (sym text) refl (rw c.abs-size.ensures at c.put_decimal-2.ensures)
