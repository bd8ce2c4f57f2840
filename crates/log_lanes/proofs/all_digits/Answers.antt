-- Each pass takes one digit in every lane.
use Rattle.std.proofs.Common.{◌≡◌, ◌+◌, ◌-◌, arith}
use Rattle.whole_log.proofs.Loop.{stop}
use Rattle.log_lanes.proofs.Lanes.{lane_start, lane_turn, lane_known}
use Rattle.log_lanes.proofs.all_digits.Goals as goal

pub loop-init : goal.loop-init
loop-init c = λ j h. lane_start _ _ (c.requires.every j h)

pub next_digits-requires-clause-every : goal.next_digits-requires-clause-every
next_digits-requires-clause-every c = λ j h. lane_known _ _ _ _ _ (c.loop.invariant j h)

pub loop-preserved : goal.loop-preserved
loop-preserved c = λ j h.
    let less : 16 - c.loop.counter - 1 ≡ 16 - (c.loop.counter + 1) = omega arith in
    let next = c.next_digits.ensures j h in
    rw (← less) (lane_turn _ _ _ _ _ _ _ (c.loop.invariant j h) (omega arith) next.0 next.1)

pub returns : goal.returns
returns c = λ j h. (stop 2099 _ _ _ _ _ (c.loop.invariant j h) (omega arith)).0
