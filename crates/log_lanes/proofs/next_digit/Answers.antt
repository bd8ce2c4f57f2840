-- The three products make the upper word of the square and the digit behind it (`word`); the digit has two cases.
use Rattle.std.proofs.Common.{◌+◌, ◌*◌, ◌/◌, ◌%◌, ◌^◌, arith}
use Rattle.log_lanes.proofs.Lanes.{Word, word, digit_one, digit_none}
use Rattle.log_lanes.proofs.next_digit.Goals as goal
use Rattle.log_lanes.proofs.next_digit.Goals.{After-product-2}

-- the upper word of the square, and the digit behind it
here : (c : After-product-2) → let m = c.args.leading in
    let hl = c.product-middle.result in
    let carried = c.product.result / 2 ^ 17 + hl % 2 ^ 15 in
    Word (m * m) (c.product-2.result + hl / 2 ^ 15 + carried / 2 ^ 15) carried
here c =
    word c.args.leading c.product-2.result c.product-middle.result c.product.result
    c.ranges.leading.fits c.product-2.ensures c.product-middle.ensures c.product.ensures

pub overflow_add-upper : goal.overflow_add-upper
overflow_add-upper c = let w = here c in omega (arith, w.is_upper_lem, w.short)

pub overflow_add-upper-2 : goal.overflow_add-upper-2
overflow_add-upper-2 c = let w = here c in omega (arith, w.is_upper_lem, w.short)

pub returns-then-digit-ne0 : goal.returns-then-digit-ne0
returns-then-digit-ne0 c =
    let w = here (goal.at.returns-then-digit-ne0 c).After-product-2 in
    let d = digit_one _ _ w.is_upper_lem w.short c.if-digit-ne0.true in
    (d.0, omega (arith, d.1))

pub returns : goal.returns
returns c =
    let d = digit_none _ _ _ (here (goal.at.returns c).After-product-2) c.if-digit-ne0.false in
    (d.0, omega (arith, d.1))
