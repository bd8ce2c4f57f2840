-- `keep_column`: one more place is kept or dropped.
use Rattle.std.proofs.Common.{◌≡◌, ◌-◌, ◌≤◌, ◌<◌, ℕ, length, get_or, sym, ◌∙◌, subst, zero-add, arith}
use lib.Ieee.{nan}
use Rattle.mc64_columns.specs.inner.Steps.{entry_logs, WordOf}
use Rattle.mc64_columns.proofs.Whole.{entry_log_at}
use Rattle.mc64_general.proofs.Copying.{kept_few, copied_none, copied_dropped, copied_kept}
use Rattle.mc64_general.proofs.keep_column.Goals as goal
use Rattle.mc64_general.proofs.keep_column.Goals.{In-loop-k}

-- the next entry goes no further than where it stood
next_below : (c : In-loop-k) → (c.loop-k.next ≤ c.loop-k.k) × (c.loop-k.k < length c.args.row_idx.now)
next_below c =
    let few = kept_few c.args.values.now c.args.from (c.loop-k.k - c.args.from) in
    let count = c.loop-k.invariant.count in
    (omega arith, omega arith)

pub loop-k-init : goal.loop-k-init
loop-k-init c =
    let a = c.args in
    copied_none a.values.now a.from a.row_idx.now (entry_logs a.source a.logs.now) a.at a.graph_rows.now a.cost.now

pub loop-k-preserved-then-not-is_kept : goal.loop-k-preserved-then-not-is_kept
loop-k-preserved-then-not-is_kept c =
    let a = c.args in
    copied_dropped a.values.now a.from a.row_idx.now (entry_logs a.source a.logs.now) a.at a.graph_rows.now a.cost.now
    c.loop-k.k c.loop-k.auto.k c.loop-k.invariant (sym c.is_kept.ensures ∙ c.if-not-is_kept.true)

pub entry_log-log-requires : goal.entry_log-log-requires
entry_log-log-requires c =
    let a = c.args in
    let k = c.loop-k.k in
    subst (λ (i : ℕ). WordOf a.source (get_or a.logs.now k nan) (get_or a.words.now i 0)) (zero-add k)
    (c.requires.worded.0 k (omega arith))

pub bounds-graph_rows-next : goal.bounds-graph_rows-next
bounds-graph_rows-next c = omega (arith, next_below (goal.at.bounds-graph_rows-next c).In-loop-k)

pub bounds-cost-next : goal.bounds-cost-next
bounds-cost-next c = omega (arith, next_below (goal.at.bounds-cost-next c).In-loop-k)

pub overflow_add-next : goal.overflow_add-next
overflow_add-next c = omega (arith, next_below (goal.at.overflow_add-next c).In-loop-k)

pub loop-k-preserved : goal.loop-k-preserved
loop-k-preserved c =
    let a = c.args in
    let below = next_below (goal.at.loop-k-preserved c).In-loop-k in
    copied_kept a.values.now a.from a.row_idx.now (entry_logs a.source a.logs.now) a.at a.graph_rows.now a.cost.now
    c.loop-k.k c.loop-k.auto.k c.loop-k.invariant
    (c.entry_log-log.ensures ∙ sym (entry_log_at a.source a.logs.now c.loop-k.k)) c.larger-top.ensures
    (omega arith) (omega arith) (sym c.is_kept.ensures ∙ c.if-not-is_kept.false)

pub returns : goal.returns
returns c =
    let e : c.loop-k.k ≡ c.args.to = omega arith in
    rw e at c.loop-k.invariant
