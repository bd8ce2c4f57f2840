-- `general::first_fault` meets its contract: each entry has the fault that its tests say, or none.
use Rattle.std.proofs.Common.{◌≡◌, ◌+◌, ◌-◌, ◌<◌, get_or, take, drop, refl, sym, subst, arith}
use Rattle.sparse.specs.Validate.{general_entry, general_column}
use Rattle.sparse.proofs.First.{Passed, pass, found, done}
use Rattle.sparse.proofs.Entries.{stretch_length, stretch_at, general_range, general_falls, general_right, least_first, least_next}
use Rattle.sparse.proofs.general.first_fault.Goals.{In-loop-row}
use Rattle.sparse.proofs.general.first_fault.Goals as goal

-- the entry at hand
at_place : (c : In-loop-row) → let a = c.args in let i = c.loop-row.row-index in
    (a.from + i < a.to) × (get_or (take (a.to - a.from) (drop a.from a.row_idx.now)) i 0 ≡ get_or a.row_idx.now (a.from + i) 0)
at_place c = stretch_at c.args.row_idx.now c.args.from c.args.to c.loop-row.row-index (omega arith) (omega arith) (omega arith)

pub loop-row-init : goal.loop-row-init
unfolding general_column
loop-row-init c =
    let a = c.args in
    let first : a.from + 0 ≡ a.from = omega arith in
    record { least = rw first (sym (least_first a.row_idx.now a.from)); passed = rw first refl }

pub returns-then-row-n : goal.returns-then-row-n
returns-then-row-n c =
    let a = c.args in let l = c.loop-row in
    let p = at_place (goal.at.returns-then-row-n c).In-loop-row in
    found _ _ _ l.invariant.passed p.0 (general_range a.n a.row_idx.now _ a.from (rw p.1 at c.if-row-n.true)) (omega arith)

pub returns-then-row-least : goal.returns-then-row-least
returns-then-row-least c =
    let a = c.args in let l = c.loop-row in
    let p = at_place (goal.at.returns-then-row-least c).In-loop-row in
    found _ _ _ l.invariant.passed p.0
    (general_falls a.n a.row_idx.now _ a.from (rw p.1 at c.if-row-n.false) (rw (p.1, l.invariant.least) at c.if-row-least.true)) (omega arith)

pub loop-row-preserved : goal.loop-row-preserved
loop-row-preserved c =
    let a = c.args in let l = c.loop-row in
    let p = at_place (goal.at.loop-row-preserved c).In-loop-row in
    let next : a.from + l.row-index + 1 ≡ a.from + (l.row-index + 1) = omega arith in
    record {
      least = rw (p.1, ← next) (sym (least_next a.row_idx.now a.from (a.from + l.row-index) (omega arith)));
      passed = subst (Passed (general_column a.n a.row_idx.now a.from a.to) (general_entry a.n a.row_idx.now a.from) a.to) next
          (pass _ _ _ l.invariant.passed p.0
          (general_right a.n a.row_idx.now _ a.from (rw p.1 at c.if-row-n.false) (rw (p.1, l.invariant.least) at c.if-row-least.false)));
    }

pub returns : goal.returns
returns c =
    let a = c.args in
    done _ _ _ c.loop-row.invariant.passed
    (omega (arith, stretch_length a.row_idx.now a.from a.to c.requires.from_le_to c.requires.to_in_bounds))
