-- Each lane gets its digit in its own turn.
use Rattle.std.proofs.Common.{arith}
use Rattle.log_lanes.proofs.Lanes.{pass_start, pass_here, pass_next}
use Rattle.log_lanes.proofs.next_digits.Goals as goal

pub loop-i-init : goal.loop-i-init
loop-i-init c = pass_start _ _

pub next_digit-lane-requires : goal.next_digit-lane-requires
next_digit-lane-requires c =
    let l = c.loop-i in
    pass_here c.args.leading.now c.args.known.now l.leading l.known l.i c.loop-i-test.true l.invariant c.requires.every

pub loop-i-preserved : goal.loop-i-preserved
loop-i-preserved c =
    let l = c.loop-i in
    let lane = c.next_digit-lane in
    let wide = c.requires.wide in
    pass_next c.args.leading.now c.args.known.now l.leading l.known l.i lane.result.leading lane.result.known c.loop-i-test.true
    (omega (arith, wide)) (omega (arith, wide)) l.invariant lane.ensures

pub returns : goal.returns
returns c = λ j h. (c.loop-i.invariant j h).done (omega arith)
