-- `enter_column`: one more entry enters, or is dropped.
use Rattle.std.proofs.Common.{◌≡◌, ◌+◌, ◌<◌, length, get_or, add-one, arith}
use Rattle.sparse.specs.Matrix.{matrix}
use Rattle.sparse.specs.Pattern.{pattern, InColumn}
use Rattle.mc64_symmetric.proofs.Places.{place_below_lem, row_below}
use Rattle.factors_flat.proofs.Sums.{enters_dropped, enters_more}
use Rattle.factors_flat.proofs.enter_column.Goals as goal
use Rattle.factors_flat.proofs.enter_column.Goals.{In-loop-k}

-- the place k stands in column j
in_column_lem : (c : In-loop-k) → let a = c.args in
    InColumn (pattern (length a.factors.now) a.col_ptr.now a.row_idx.now) a.j c.loop-k.k
in_column_lem c = record { column = omega arith; above = c.loop-k.auto.k; below = rw add-one at c.loop-k-test.true }

facts : (c : In-loop-k) → let a = c.args in
    (c.loop-k.k < length a.row_idx.now) × (get_or a.row_idx.now c.loop-k.k 0 < length a.factors.now)
facts c =
    let a = c.args in
    let m = matrix (length a.factors.now) a.col_ptr.now a.row_idx.now a.values.now in
    let t = c.requires.fact.triangle in
    (place_below_lem m t (in_column_lem c), row_below m t (in_column_lem c))

pub bounds-values-k : goal.bounds-values-k
bounds-values-k c = omega (arith, facts (goal.at.bounds-values-k c).In-loop-k)

pub loop-k-preserved-then-values-k : goal.loop-k-preserved-then-values-k
loop-k-preserved-then-values-k c =
    (omega arith, enters_dropped c.requires.fact.triangle c.if-values-k.true c.loop-k.invariant.1)

pub bounds-row_idx-k : goal.bounds-row_idx-k
bounds-row_idx-k c = (facts (goal.at.bounds-row_idx-k c).In-loop-k).0

pub bounds-logs-k : goal.bounds-logs-k
bounds-logs-k c = omega (arith, facts (goal.at.bounds-logs-k c).In-loop-k)

pub loop-k-preserved : goal.loop-k-preserved
loop-k-preserved c =
    let here = in_column_lem (goal.at.loop-k-preserved c).In-loop-k in
    (omega arith, enters_more c.requires.fact.triangle here c.if-values-k.false c.enter.ensures c.loop-k.invariant.1)

pub returns : goal.returns
returns c =
    let e : c.loop-k.k ≡ get_or c.args.col_ptr.now (c.args.j + 1) 0 = omega arith in
    rw e at c.loop-k.invariant.1
