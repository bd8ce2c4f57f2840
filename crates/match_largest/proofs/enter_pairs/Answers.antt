-- `enter_pairs` meets its contract: each turn is one of the definition.
use Rattle.std.proofs.Common.{Bool, ◌+◌, ◌&&◌, sym, subst, arith}
use Rattle.match_check.proofs.Every.{Every, every_begins, every_goes_on, every_all}
use Rattle.sparse.specs.Pattern.{pattern}
use Rattle.match_largest.specs.Marks.{pair_fits, pairs_fit}
use Rattle.match_largest.proofs.Entering.{enter_begins}
use Rattle.match_largest.proofs.enter_pairs.Goals as goal

pub loop-j-init : goal.loop-j-init
loop-j-init c = let a = c.args in record {
  entered = enter_begins a.n a.perm.now c.requires.accepted_pattern_1.few c.requires.inverse_value;
  test = every_begins (pair_fits (pattern a.n a.col_ptr.now a.row_idx.now) a.perm.now) 0 a.n;
}

pub loop-j-preserved : goal.loop-j-preserved
loop-j-preserved c =
    let a = c.args in
    let l = c.loop-j in
    let test = pair_fits (pattern a.n a.col_ptr.now a.row_idx.now) a.perm.now in
    record {
      entered = c.enter_pair-fine.ensures.entered;
      test = subst (λ (t : Bool). Every test 0 a.n (l.fine && t) (l.j + 1)) (sym c.enter_pair-fine.ensures.result_value)
          (every_goes_on test 0 a.n l.fine l.j (omega arith) l.invariant.test);
    }

pub returns-clause-result_value : goal.returns-clause-result_value
unfolding pairs_fit
returns-clause-result_value c = let a = c.args in let l = c.loop-j in
    every_all (pair_fits (pattern a.n a.col_ptr.now a.row_idx.now) a.perm.now) a.n l.fine l.j (omega arith) l.invariant.test
