-- `finish::finish_columns`: a free column and a matched one, by Finishing.
use Rattle.std.proofs.Common.{sym, ◌∙◌, arith}
use borrow.Author.Tests.{eq-eqb, ne_eqb}
use Rattle.hungarian_path.proofs.Growths.{jperm_at_lem as entry_at}
use Rattle.hungarian_match.proofs.Finishing.{column_count_lem, entry_inside, copy_free, copy_matched, copy_ends}
use Rattle.hungarian_match.proofs.finish.finish_columns.Goals as goal

pub loop-j-preserved-then-entry : goal.loop-j-preserved-then-entry
loop-j-preserved-then-entry c =
    let count = column_count_lem c.requires.fact_1 in
    let e = entry_at c.args.n c.args.work.now c.loop-j.j (omega arith) in
    copy_free (omega (arith, count)) (c.loop-j.auto.perm ∙ c.requires.fact_2 ∙ sym count)
    (c.loop-j.auto.v ∙ c.requires.fact_3 ∙ sym count) c.loop-j.invariant (eq-eqb _ _ (e ∙ c.if-entry.true))

pub bounds-row_idx-k : goal.bounds-row_idx-k
bounds-row_idx-k c = (entry_inside c.requires.fact_1 c.loop-j.j (omega arith) c.if-entry.false).0

pub bounds-cost-k : goal.bounds-cost-k
bounds-cost-k c = omega (arith, entry_inside c.requires.fact_1 c.loop-j.j (omega arith) c.if-entry.false)

pub loop-j-preserved : goal.loop-j-preserved
loop-j-preserved c =
    let count = column_count_lem c.requires.fact_1 in
    let e = entry_at c.args.n c.args.work.now c.loop-j.j (omega arith) in
    rw (← e)
    (copy_matched (omega (arith, count)) (c.loop-j.auto.perm ∙ c.requires.fact_2 ∙ sym count)
    (c.loop-j.auto.v ∙ c.requires.fact_3 ∙ sym count) c.loop-j.invariant
    (ne_eqb _ _ (λ z. c.if-entry.false (sym e ∙ z))))

pub returns : goal.returns
returns c =
    copy_ends (column_count_lem c.requires.fact_1) (c.loop-j.auto.perm ∙ c.requires.fact_2)
    (c.loop-j.auto.v ∙ c.requires.fact_3) c.loop-j.j (omega arith) c.loop-j.invariant
