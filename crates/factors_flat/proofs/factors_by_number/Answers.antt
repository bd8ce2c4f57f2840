-- `factors_by_number`: no rule, a wrong length, the refusal of the rule's call, or its unmatched count.
use Rattle.std.proofs.Common.{◌≡◌, sym, ap, ◌∙◌, rules}
use Rattle.std.specs.Prelude.{Ok, Err}
use Rattle.sparse.specs.Matrix.{matrix}
use Rattle.matching.specs.Match.{match_of}
use Rattle.factors_mc64.specs.Calls.{Slices, slices, unmatched_of}
use Rattle.factors_mc64.specs.declared.Scaled.{Scaled}
use Rattle.factors_flat.specs.Flat.{Input, input}
use Rattle.factors_flat.proofs.Numbers.{rule_found, rule_missing, no_rule, unfit, refused, done}
use Rattle.factors_flat.proofs.factors_by_number.Goals as goal
use Rattle.factors_flat.proofs.factors_by_number.Goals.{After-rule_for, in-Applied, in-PartialSingular}

-- what is given, and what is lent
abbrev given : After-rule_for → Input
given c =
    let a = c.args in
    input (match_of a.perm.now a.u.now a.v.now a.cmax.now) (matrix a.n a.col_ptr.now a.row_idx.now a.values.now) a.logs.now

abbrev lent : After-rule_for → Slices
lent c = slices c.args.factors.now c.args.work.now

pub returns-in_err-rule : goal.returns-in_err-rule
returns-in_err-rule c =
    let s = (goal.at.returns-in_err-rule c).After-rule_for in
    let m = rule_missing c.args.number c.in_err-rule.ensures in
    let same : c.from_residual.result ≡ Err c.in_err-rule.field-0.0 = search rules in
    rw (same, m.1) (no_rule c.args.number c.args.matched (given s) (lent s) c.args.unmatched.now m.0)

pub returns-then-unmatched-ne1 : goal.returns-then-unmatched-ne1
returns-then-unmatched-ne1 c =
    let s = (goal.at.returns-then-unmatched-ne1 c).After-rule_for in
    let r = rule_found c.args.number c.in_ok-rule.ensures in
    unfit c.args.number c.args.matched (given s) (lent s) c.args.unmatched.now r.0 c.if-unmatched-ne1.true
    (rw r.1 at c.unfit_fault.ensures)

pub returns-in_err-scaled : goal.returns-in_err-scaled
returns-in_err-scaled c =
    let s = (goal.at.returns-in_err-scaled c).After-rule_for in
    let r = rule_found c.args.number c.in_ok-rule.ensures in
    let same : c.from_residual-in_err-scaled.result ≡ Err c.in_err-scaled.field-0.0 = search rules in
    rw same (refused c.args.number c.args.matched (given s) (lent s) c.args.unmatched.now r.0 c.if-unmatched-ne1.false
    r.1 c.in_err-scaled.ensures)

pub returns : goal.returns
returns c =
    let s = (goal.at.returns c).After-rule_for in
    let r = rule_found c.args.number c.in_ok-rule.ensures in
    let count : c.match-scaled.unmatched ≡ unmatched_of (Ok c.in_ok-scaled.scaled) =
    elim c.match-scaled.branch [
      | in-Applied w ↦ w.unmatched-is ∙ sym (ap (λ (a : Scaled). unmatched_of (Ok a)) w.in-Applied.is)
      | in-PartialSingular w ↦ w.unmatched-is ∙ sym (ap (λ (a : Scaled). unmatched_of (Ok a)) w.in-PartialSingular.is)
    ] in
    done c.args.number c.args.matched (given s) (lent s) c.args.unmatched.now r.0 c.if-unmatched-ne1.false r.1
    c.in_ok-scaled.ensures _ count
