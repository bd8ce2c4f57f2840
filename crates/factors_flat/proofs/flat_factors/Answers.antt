-- `flat_factors`: a fault is refused with nothing changed, an accepted call writes the factors.
use Rattle.std.proofs.Common.{◌≡◌, sym, ◌∙◌, rules}
use Rattle.std.specs.Prelude.{Err}
use Rattle.refusal.proofs.Numbers.{number_ne_zero}
use Rattle.sparse.specs.Matrix.{matrix}
use Rattle.matching.specs.Match.{match_of}
use Rattle.factors_mc64.specs.Calls.{Slices, slices}
use Rattle.factors_flat.specs.Flat.{Input, input}
use Rattle.factors_flat.proofs.Calling.{logs_fit, fault_is, refuses, accepted, ready, few_matched, applies}
use Rattle.factors_flat.proofs.flat_factors.Goals as goal
use Rattle.factors_flat.proofs.flat_factors.Goals.{After-lengths_fit-fit}

-- what is given, and what is lent
abbrev given : After-lengths_fit-fit → Input
given c =
    let a = c.args in
    input (match_of a.perm.now a.u.now a.v.now a.cmax.now) (matrix a.n a.col_ptr.now a.row_idx.now a.values.now) a.logs.now

abbrev lent : After-lengths_fit-fit → Slices
lent c = slices c.args.factors.now c.args.work.now

pub call_fault-requires : goal.call_fault-requires
call_fault-requires c t =
    let s = (goal.at.call_fault-requires c).After-lengths_fit-fit in
    let f = logs_fit (given s) (lent s) (sym c.lengths_fit-fit.ensures ∙ t) in
    f.0 ∙ sym f.1

pub returns-in_err-call_fault : goal.returns-in_err-call_fault
returns-in_err-call_fault c =
    let s = (goal.at.returns-in_err-call_fault c).After-lengths_fit-fit in
    let fault = fault_is c.args.matched (given s) (lent s) c.in_err-call_fault.ensures c.lengths_fit-fit.ensures in
    let same : c.from_residual.result ≡ Err c.in_err-call_fault.field-0.0 = search rules in
    rw same (refuses c.args.matched (given s) (lent s) fault (number_ne_zero _))

pub write_flat-requires : goal.write_flat-requires
write_flat-requires c =
    let s = (goal.at.write_flat-requires c).After-lengths_fit-fit in
    let fine = sym (fault_is c.args.matched (given s) (lent s) c.in_ok-call_fault.ensures c.lengths_fit-fit.ensures) in
    record { accepted = accepted c.args.matched (given s) (lent s) fine; ready = ready c.args.matched (given s) (lent s) fine }

pub answer-requires : goal.answer-requires
answer-requires c =
    let s = (goal.at.answer-requires c).After-lengths_fit-fit in
    few_matched c.args.matched (given s) (lent s)
    (sym (fault_is c.args.matched (given s) (lent s) c.in_ok-call_fault.ensures c.lengths_fit-fit.ensures))

pub returns : goal.returns
returns c =
    let s = (goal.at.returns c).After-lengths_fit-fit in
    let fine = sym (fault_is c.args.matched (given s) (lent s) c.in_ok-call_fault.ensures c.lengths_fit-fit.ensures) in
    applies c.args.matched (given s) (lent s) fine c.answer.ensures c.write_flat.ensures
