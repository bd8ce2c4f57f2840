-- `write_columns` meets its contract: each turn writes one more mark.
use Rattle.std.proofs.Common.{length, get_or, eqb, cond, refl, ◌∙◌, arith}
use Rattle.limits.specs.Limits.{none}
use Rattle.match_largest.specs.Marks.{row_at}
use Rattle.match_largest.proofs.Writing.{write_goes_on, write_ends}
use Rattle.match_largest.proofs.write_columns.Goals as goal

pub loop-j-init : goal.loop-j-init
loop-j-init c = refl

pub loop-j-preserved : goal.loop-j-preserved
loop-j-preserved c = let a = c.args in let l = c.loop-j in
    write_goes_on (length a.perm.now)
    (λ i. cond (eqb (row_at a.perm.now i) none) 1 (get_or a.met.now (row_at a.perm.now i) 0)) l.columns l.j
    (omega (arith, c.requires.columns_len)) (l.auto.columns ∙ c.requires.columns_len.0) c.column_mark.ensures l.invariant

pub returns : goal.returns
returns c = let a = c.args in let l = c.loop-j in
    write_ends (length a.perm.now)
    (λ i. cond (eqb (row_at a.perm.now i) none) 1 (get_or a.met.now (row_at a.perm.now i) 0)) l.columns l.j
    (omega (arith, c.requires.columns_len)) (l.auto.columns ∙ c.requires.columns_len.0) l.invariant
