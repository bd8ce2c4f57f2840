-- `all_held` meets its contract: each turn is one of the definition.
use Rattle.std.proofs.Common.{not, ◌||◌, eqb, get_or, arith}
use lib.Dec.{ltb}
use Rattle.match_check.proofs.Every.{every_goes_on, every_all}
use Rattle.match_largest.proofs.all_held.Goals as goal

pub loop-i-preserved : goal.loop-i-preserved
loop-i-preserved c = let a = c.args in let l = c.loop-i in
    every_goes_on (λ r. not (eqb (get_or a.met.now r 0) 1) || ltb (get_or a.inverse.now r 0) a.n) 0 a.n l.fine l.i
    (omega arith) l.invariant

pub returns : goal.returns
returns c = let a = c.args in let l = c.loop-i in
    every_all (λ r. not (eqb (get_or a.met.now r 0) 1) || ltb (get_or a.inverse.now r 0) a.n) a.n l.fine l.i
    (omega arith) l.invariant
