-- Each turn squares the leading digits and takes one digit of the logarithm.
use Rattle.std.proofs.Common.{◌≡◌, ◌+◌, ◌-◌, arith}
use Rattle.whole_log.proofs.Loop.{start, Turn, turn_facts, turn, stop}
use Rattle.whole_log.proofs.log_from.Goals as goal
use Rattle.whole_log.proofs.log_from.Goals.{After-square-s}

-- the square's digits, and what is known so far
here : (c : After-square-s) → Turn 2098 c.loop.e c.square-s.result
here c =
    let l = c.loop in
    turn_facts 2098 c.args.leading c.args.known (16 - l.counter) l.m l.e c.square-s.result l.invariant c.square-s.ensures

pub loop-init : goal.loop-init
loop-init c = start 2098 c.args.leading c.args.known c.requires.0 c.ranges.leading.fits c.requires.1

pub overflow_add-e : goal.overflow_add-e
overflow_add-e c = omega (arith, here c)

pub overflow_add-e-in-loop : goal.overflow_add-e-in-loop
overflow_add-e-in-loop c = omega (arith, here c)

pub loop-preserved : goal.loop-preserved
loop-preserved c =
    let l = c.loop in
    let s = c.square-s.result in
    let less : 16 - l.counter - 1 ≡ 16 - (l.counter + 1) = omega arith in
    rw (← less) (turn 2098 c.args.leading c.args.known (16 - l.counter) l.m l.e s l.invariant (omega arith) c.square-s.ensures)

pub returns : goal.returns
returns c = stop 2098 c.args.leading c.args.known (16 - c.loop.counter) c.loop.m c.loop.e c.loop.invariant (omega arith)
