-- `finish::finish_rows`: one more dual is zeroed or stays, by Finishing.
use Rattle.std.proofs.Common.{sym, ◌∙◌, arith}
use borrow.Author.Tests.{eq-eqb, ne_eqb}
use Rattle.hungarian.specs.inner.Layout.{region, iperm_at}
use Rattle.hungarian_match.proofs.Finishing.{row_count, column_at_lem, row_stays, row_freed, rows_done}
use Rattle.hungarian_match.proofs.finish.finish_rows.Goals.{then-work-i, else-work-i}
use Rattle.hungarian_match.proofs.finish.finish_rows.Goals as goal

pub loop-i-preserved : goal.loop-i-preserved
loop-i-preserved c =
    let l = c.loop-i in
    let js = region iperm_at c.args.n c.args.work.now in
    let r = row_count c.args.n c.args.work.now c.requires.fact_1 in
    let e = column_at_lem c.args.n c.args.work.now l.i (omega arith) in
    elim c.if-work-i.branch [
      | then-work-i w ↦ rw w.u-is
          (row_freed l.i js l.u (omega arith) (omega arith) (eq-eqb _ _ (e ∙ w.if-work-i.true)) ∙ l.invariant)
      | else-work-i w ↦ rw w.u-is
          (row_stays l.i js l.u (omega arith) (omega arith) (ne_eqb _ _ (λ z. w.if-work-i.false (sym e ∙ z)))
          ∙ l.invariant)
    ]

pub returns : goal.returns
returns c =
    let l = c.loop-i in
    let r = row_count c.args.n c.args.work.now c.requires.fact_1 in
    sym (rows_done l.i (region iperm_at c.args.n c.args.work.now) l.u (omega arith) (omega arith)) ∙ l.invariant
