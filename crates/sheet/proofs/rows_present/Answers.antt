-- `rows_present` meets its contract: each turn counts one more row.
use Rattle.std.proofs.Common.{get_or, ◌∙◌, sym, arith}
use native.Mathlib.Nat.{zero-add}
use Rattle.limits.specs.Limits.{none}
use Rattle.sheet.proofs.Fields.{byte_stands, stands_bit, rows_next, rows_end}
use Rattle.sheet.proofs.rows_present.Goals as goal

pub loop-row-init : goal.loop-row-init
loop-row-init c = record { few = omega arith; counted = sym (zero-add _) }

pub overflow_add-count : goal.overflow_add-count
overflow_add-count c = let l = c.loop-row in let row = get_or c.args.perm.now l.row-index 0 in
    omega (arith, c.requires, l.invariant.few, c.from-count.ensures ∙ byte_stands none row, stands_bit none row)

pub loop-row-preserved : goal.loop-row-preserved
loop-row-preserved c =
    let l = c.loop-row in
    let row = get_or c.args.perm.now l.row-index 0 in
    let e = c.from-count.ensures ∙ byte_stands none row in
    record {
      few = omega (arith, l.invariant.few, e, stands_bit none row);
      counted = omega (arith, l.invariant.counted, e, rows_next c.args.perm.now l.row-index (omega arith));
    }

pub returns : goal.returns
returns c = let l = c.loop-row in
    omega (arith, l.invariant.counted, rows_end c.args.perm.now l.row-index (omega arith))
