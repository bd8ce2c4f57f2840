-- `pairs_stand` meets its contract: each turn is one of the definition.
use Rattle.std.proofs.Common.{Bool, ◌+◌, ◌&&◌, eqb, get_or, subst, arith}
use Rattle.sparse.specs.Pattern.{pattern}
use Rattle.match_check.specs.Check.{pair_stands, pairs_stand}
use Rattle.match_check.proofs.Every.{Every, every_goes_on, every_all}
use Rattle.match_check.proofs.Columns.{rises, within, some_column}
use Rattle.match_check.proofs.pairs_stand.Goals as goal

pub has_row-fine-requires : goal.has_row-fine-requires
has_row-fine-requires c = let p = c.requires.fact_1 in (rises p c.loop-j.j (omega arith), within p c.loop-j.j (omega arith))

pub loop-j-preserved : goal.loop-j-preserved
loop-j-preserved c =
    let a = c.args in
    let l = c.loop-j in
    let test = pair_stands (pattern a.n a.col_ptr.now a.row_idx.now) a.perm.now in
    let column = some_column a.col_ptr.now (λ k. eqb (get_or a.row_idx.now k 0) (get_or a.perm.now l.j 0)) l.j c.has_row-fine.ensures in
    subst (λ (t : Bool). Every test 0 a.n (l.fine && t) (l.j + 1)) column
    (every_goes_on test 0 a.n l.fine l.j (omega arith) l.invariant)

pub returns : goal.returns
unfolding pairs_stand
returns c = let a = c.args in let l = c.loop-j in
    every_all (pair_stands (pattern a.n a.col_ptr.now a.row_idx.now) a.perm.now) a.n l.fine l.j (omega arith) l.invariant
