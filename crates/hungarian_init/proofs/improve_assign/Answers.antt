-- `hungarian_init::improve_assign`: each turn is one of the laws of Improving. What remains are bounds, by what may be read at an entry. A swap goes
-- from the innermost loop to the outermost.
use Rattle.std.proofs.Common.{inl, inr, arith}
use Rattle.hungarian.specs.Graph.{graph_of}
use Rattle.hungarian_claim.proofs.Words.{stop_is}
use Rattle.hungarian_init.proofs.Improving.{readable, small_stop, outer_start, outer_skip, outer_takes, outer_tries, outer_end}
use Rattle.hungarian_init.proofs.Improving.{middle_end, middle_skip, other_range, middle_seeks, inner_misses, inner_more, inner_swaps}
use Rattle.hungarian_init.proofs.improve_assign.Goals.{then-work-n-via-then-work-n, then-work-n-via-else-work-n+then-col_ptr-j}
use Rattle.hungarian_init.proofs.improve_assign.Goals.{then-cost-k-via-then-cost-k, then-cost-k-via-else-cost-k+then-work-i}
use Rattle.hungarian_init.proofs.improve_assign.Goals.{else-work-ii-via-then-work-ii+else-cost-kk, else-work-ii-via-else-work-ii}
use Rattle.hungarian_init.proofs.improve_assign.Goals as goal

-- ---- the columns
pub improve_assign-init : goal.improve_assign-init
improve_assign-init c = outer_start c.requires

pub improve_assign-preserved-then-work-n : goal.improve_assign-preserved-then-work-n
improve_assign-preserved-then-work-n c =
    outer_skip c.requires.sound c.improve_assign.invariant c.improve_assign-test.true
    (elim c.then-work-n.branch [
      | then-work-n-via-then-work-n w ↦ inl w.if-work-n.true
      | then-work-n-via-else-work-n+then-col_ptr-j w ↦ inr (w.if-work-n.false, w.if-col_ptr-j.true)
    ])

pub pair_and_advance-requires-clause-fact_4 : goal.pair_and_advance-requires-clause-fact_4
pair_and_advance-requires-clause-fact_4 c =
    let a = c.args in
    let ends = stop_is (graph_of a.n a.col_ptr.now a.row_idx.now a.cost.now) c.improve_assign.j in
    omega (arith, small_stop c.requires.sound c.improve_assign-test.true, c.best_of-best.ensures.below)

pub improve_assign-preserved-then-work-i0 : goal.improve_assign-preserved-then-work-i0
improve_assign-preserved-then-work-i0 c =
    outer_takes c.requires.sound c.improve_assign.invariant c.improve_assign-test.true c.best_of-best.ensures
    c.if-work-n.false c.if-col_ptr-j.false c.if-work-i0.true c.pair_and_advance.auto.work c.pair_and_advance.ensures

-- ---- the entries of a column
pub loop-k-init : goal.loop-k-init
loop-k-init c =
    outer_tries c.requires.sound c.improve_assign.invariant c.improve_assign-test.true c.best_of-best.ensures
    c.if-work-n.false c.if-col_ptr-j.false c.if-work-i0.false

pub bounds-row_idx-k : goal.bounds-row_idx-k
bounds-row_idx-k c =
    (readable _ _ _ _ c.requires.sound c.requires.dual_count c.loop-k.invariant.column c.loop-k-test.true).entry

pub bounds-cost-k : goal.bounds-cost-k
bounds-cost-k c =
    (readable _ _ _ _ c.requires.sound c.requires.dual_count c.loop-k.invariant.column c.loop-k-test.true).cost_there

pub bounds-work-i : goal.bounds-work-i
bounds-work-i c =
    let here = readable _ _ _ _ c.requires.sound c.requires.dual_count c.loop-k.invariant.column c.loop-k-test.true in
    omega arith

pub loop-k-preserved-then-cost-k : goal.loop-k-preserved-then-cost-k
loop-k-preserved-then-cost-k c =
    middle_skip c.requires.sound c.loop-k.invariant c.loop-k-test.true
    (elim c.then-cost-k.branch [
      | then-cost-k-via-then-cost-k w ↦ inl w.if-cost-k.true
      | then-cost-k-via-else-cost-k+then-work-i w ↦ inr (w.if-cost-k.false, w.if-work-i.true)
    ])

pub bounds-work-i-in-loop-k : goal.bounds-work-i-in-loop-k
bounds-work-i-in-loop-k c =
    let here = readable _ _ _ _ c.requires.sound c.requires.dual_count c.loop-k.invariant.column c.loop-k-test.true in
    omega arith

pub bounds-col_ptr-jj : goal.bounds-col_ptr-jj
bounds-col_ptr-jj c =
    let other = other_range c.requires.sound c.loop-k.invariant c.loop-k-test.true c.if-cost-k.false c.if-work-i.false in
    omega arith

pub bounds-work-from : goal.bounds-work-from
bounds-work-from c =
    let other = other_range c.requires.sound c.loop-k.invariant c.loop-k-test.true c.if-cost-k.false c.if-work-i.false in
    omega arith

-- ---- the entries of the other column
pub loop-kk-init : goal.loop-kk-init
loop-kk-init c = middle_seeks c.requires.sound c.loop-k.invariant c.loop-k-test.true c.if-cost-k.false c.if-work-i.false

pub bounds-row_idx-kk : goal.bounds-row_idx-kk
bounds-row_idx-kk c =
    (readable _ _ _ _ c.requires.sound c.requires.dual_count c.loop-kk.invariant.other c.loop-kk-test.true).entry

pub bounds-work-ii : goal.bounds-work-ii
bounds-work-ii c =
    let there = readable _ _ _ _ c.requires.sound c.requires.dual_count c.loop-kk.invariant.other c.loop-kk-test.true in
    omega arith

pub bounds-cost-kk : goal.bounds-cost-kk
bounds-cost-kk c =
    (readable _ _ _ _ c.requires.sound c.requires.dual_count c.loop-kk.invariant.other c.loop-kk-test.true).cost_there

pub bounds-u-ii : goal.bounds-u-ii
bounds-u-ii c =
    (readable _ _ _ _ c.requires.sound c.requires.dual_count c.loop-kk.invariant.other c.loop-kk-test.true).dual

pub pair_and_advance-requires-then-cost-kk-clause-fact_2 : goal.pair_and_advance-requires-then-cost-kk-clause-fact_2
pair_and_advance-requires-then-cost-kk-clause-fact_2 c =
    (readable _ _ _ _ c.requires.sound c.requires.dual_count c.loop-kk.invariant.other c.loop-kk-test.true).row

pub pair_and_advance-requires-then-cost-kk-clause-fact_4 : goal.pair_and_advance-requires-then-cost-kk-clause-fact_4
pair_and_advance-requires-then-cost-kk-clause-fact_4 c =
    (readable _ _ _ _ c.requires.sound c.requires.dual_count c.loop-kk.invariant.other c.loop-kk-test.true).small

pub pair_and_advance-requires-then-cost-kk-2-clause-fact_2 : goal.pair_and_advance-requires-then-cost-kk-2-clause-fact_2
pair_and_advance-requires-then-cost-kk-2-clause-fact_2 c =
    (readable _ _ _ _ c.requires.sound c.requires.dual_count c.loop-k.invariant.column c.loop-k-test.true).row

pub pair_and_advance-requires-then-cost-kk-2-clause-fact_4 : goal.pair_and_advance-requires-then-cost-kk-2-clause-fact_4
pair_and_advance-requires-then-cost-kk-2-clause-fact_4 c =
    (readable _ _ _ _ c.requires.sound c.requires.dual_count c.loop-k.invariant.column c.loop-k-test.true).small

pub improve_assign-preserved-then-cost-kk : goal.improve_assign-preserved-then-cost-kk
improve_assign-preserved-then-cost-kk c =
    let first = c.pair_and_advance-then-cost-kk in
    let second = c.pair_and_advance-then-cost-kk-2 in
    rw c.inner_step-stats.ensures
    (inner_swaps c.requires.sound c.loop-kk.invariant c.loop-kk-test.true c.if-work-ii.true c.if-cost-kk.true
    first.auto.work first.ensures second.auto.work second.ensures)

pub loop-kk-preserved : goal.loop-kk-preserved
loop-kk-preserved c =
    rw c.inner_step-stats.ensures
    (inner_more c.requires.sound c.loop-kk.invariant c.loop-kk-test.true
    (elim c.else-work-ii.branch [
      | else-work-ii-via-then-work-ii+else-cost-kk w ↦ inr (w.if-work-ii.true, w.if-cost-kk.false)
      | else-work-ii-via-else-work-ii w ↦ inl w.if-work-ii.false
    ]))

-- ---- no swap
pub loop-k-preserved : goal.loop-k-preserved
loop-k-preserved c = inner_misses c.requires.sound c.loop-kk.invariant c.loop-kk-test.false

pub improve_assign-preserved : goal.improve_assign-preserved
improve_assign-preserved c = middle_end c.requires.sound c.loop-k.invariant c.loop-k-test.false

pub returns : goal.returns
returns c = outer_end c.improve_assign.invariant c.improve_assign-test.false
