-- `small_wholes` meets its contract: each turn is one of the definition.
use Rattle.std.proofs.Common.{ℕ, length, get_or, arith}
use Rattle.std.specs.Float.{nan}
use Rattle.match_check.specs.Check.{small_whole, small_wholes}
use Rattle.match_check.proofs.Every.{every_goes_on, every_all}
use Rattle.match_check.proofs.small_wholes.Goals as goal

pub loop-x-preserved : goal.loop-x-preserved
loop-x-preserved c = let l = c.loop-x in
    rw c.small_whole-fine.ensures
    (every_goes_on (λ i. small_whole (get_or c.args.list.now i nan)) 0 (length c.args.list.now) l.fine l.x-index
    (omega arith) l.invariant)

pub returns : goal.returns
unfolding small_wholes
returns c = let l = c.loop-x in
    every_all (λ i. small_whole (get_or c.args.list.now i nan)) (length c.args.list.now) l.fine l.x-index (omega arith)
    l.invariant
