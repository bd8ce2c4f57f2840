-- `rows_below` meets its contract: each turn is one of the definition.
use Rattle.std.proofs.Common.{ℕ, length, get_or, ap, ◌∙◌, arith}
use lib.Dec.{ltb}
use Rattle.match_check.specs.Check.{every_of, rows_below}
use Rattle.match_check.proofs.Every.{every_goes_on, every_all}
use Rattle.match_check.proofs.rows_below.Goals as goal

pub loop-row-preserved : goal.loop-row-preserved
loop-row-preserved c = let a = c.args in let l = c.loop-row in
    every_goes_on (λ j. ltb (get_or a.perm.now j 0) a.n) 0 (length a.perm.now) l.fine l.row-index (omega arith) l.invariant

pub returns : goal.returns
unfolding rows_below
returns c = let a = c.args in let l = c.loop-row in let test = λ (j : ℕ). ltb (get_or a.perm.now j 0) a.n in
    every_all test (length a.perm.now) l.fine l.row-index (omega arith) l.invariant
    ∙ ap (λ (m : ℕ). every_of m test 0) c.requires
