-- The test of the length, then the root's answer by its cases.
use Rattle.std.proofs.Common.{sym, rules, arith}
use Rattle.std.proofs.lemmas.Result.{err_from_is_err_and}
use Rattle.byte_numbers.proofs.Roots.{other_length, answered, no_root_lem}
use Rattle.byte_numbers.proofs.sqrt.Goals as goal

pub returns-then-root-ne8 : goal.returns-then-root-ne8
returns-then-root-ne8 c = other_length c.args.x c.args.root.now c.if-root-ne8.true

pub returns-in_err-y : goal.returns-in_err-y
returns-in_err-y c =
    let p = err_from_is_err_and c.from_residual.result c.from_residual.ensures.1 in
    rw (p.1, p.2) (no_root_lem c.args.x c.args.root.now _ (search rules) (omega arith) (sym c.in_err-y.ensures.root))

pub returns : goal.returns
returns c = rw c.put_double.ensures (answered c.args.x c.args.root.now c.in_ok-y.y (search rules) (omega arith) (sym c.in_ok-y.ensures.root))
