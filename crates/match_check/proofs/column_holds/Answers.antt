-- `column_holds` meets its contract: each turn is one of the definition.
use Rattle.std.proofs.Common.{Bool, ℕ, eqb, ◌+◌, get_or, sym, subst, ◌&&◌, arith}
use Rattle.std.specs.Float.{nan, binary64}
use Rattle.std.specs.Float.Ieee.{add}
use Rattle.match_check.proofs.Every.{Every, every_goes_on, every_ends}
use Rattle.match_check.proofs.column_holds.Goals as goal

pub loop-k-preserved : goal.loop-k-preserved
loop-k-preserved g c =
    let a = c.args in
    let l = c.loop-k in
    let at = λ (k : ℕ). g.holds (eqb (get_or a.row_idx.now k 0) a.pair)
    (add binary64 (get_or a.u.now (get_or a.row_idx.now k 0) nan) a.dual) (get_or a.cost.now k nan) in
    subst (λ (t : Bool). Every at a.from a.to (l.fine && t) (l.k + 1)) (sym (c.requires.1.1.1 _ _ _ _ c.test-fine.ensures))
    (every_goes_on at a.from a.to l.fine l.k (omega arith) l.invariant)

pub returns : goal.returns
returns g c = let a = c.args in let l = c.loop-k in
    every_ends (λ k. g.holds (eqb (get_or a.row_idx.now k 0) a.pair)
    (add binary64 (get_or a.u.now (get_or a.row_idx.now k 0) nan) a.dual) (get_or a.cost.now k nan)) a.from a.to l.fine l.k (omega arith) l.invariant
