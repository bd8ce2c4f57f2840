-- `write_rows` meets its contract: each turn writes one more mark.
use Rattle.std.proofs.Common.{length, get_or, refl, arith}
use Rattle.match_largest.proofs.Writing.{write_goes_on, write_ends}
use Rattle.match_largest.proofs.write_rows.Goals as goal

pub loop-i-init : goal.loop-i-init
loop-i-init c = refl

pub loop-i-preserved : goal.loop-i-preserved
loop-i-preserved c = let a = c.args in let l = c.loop-i in
    write_goes_on (length a.rows.now) (λ r. get_or a.met.now r 0) l.rows l.i (omega arith) l.auto.rows c.from.ensures l.invariant

pub returns : goal.returns
returns c = let a = c.args in let l = c.loop-i in
    write_ends (length a.rows.now) (λ r. get_or a.met.now r 0) l.rows l.i (omega arith) l.auto.rows l.invariant
