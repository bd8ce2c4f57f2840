-- `all_held`: the result of the test over the rows before i.
use Rattle.std.proofs.Common.{not, ◌||◌, eqb, get_or}
use lib.Dec.{ltb}
use Rattle.match_check.proofs.Every.{Every}
use Rattle.match_largest.proofs.all_held.Given as goal

abbrev pub invariant-loop-i : goal.invariant-loop-i
invariant-loop-i l =
    Every (λ r. not (eqb (get_or l.met r 0) 1) || ltb (get_or l.inverse r 0) l.n) 0 l.n l.fine l.i
