-- By the slice's length, then by the answer.
use Rattle.std.proofs.Common.{sym, rules, arith}
use Rattle.std.proofs.lemmas.Int.{to_z-of_z}
use Rattle.std.proofs.lemmas.Result.{err_from_is_err_and}
use Rattle.std.specs.Int.{w32}
use Rattle.whole_log.proofs.Theorems.{in_i32}
use Rattle.whole_log.proofs.Storing.{other_length, found, refused}
use Rattle.whole_log.proofs.store_log.Goals as goal

pub returns-then-p-ne1 : goal.returns-then-p-ne1
returns-then-p-ne1 c = other_length c.args.x c.args.p.now c.if-p-ne1.true

pub returns-in_err-p : goal.returns-in_err-p
returns-in_err-p c =
    let p = err_from_is_err_and c.from_residual.result c.from_residual.ensures.1 in
    rw (p.1, p.2) (refused c.args.x c.args.p.now _ (omega arith) (sym c.in_err-p.ensures.log))

pub returns : goal.returns
returns c =
    let x = c.args.x in
    let log = c.in_ok-p.field-0 in
    let is = sym c.in_ok-p.ensures.log in
    found x c.args.p.now log _ (search rules) (omega arith) is (to_z-of_z w32 log (in_i32 x log (search rules) is))
