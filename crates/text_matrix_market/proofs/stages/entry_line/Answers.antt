-- `stages::entry_line` meets its contract: by the tests that led there.
use Rattle.std.proofs.Common.{sym, ◌∙◌}
use Rattle.text_matrix_market.specs.inner.Steps.{lists}
use Rattle.text_matrix_market.proofs.Entries.{refused_with}
use Rattle.text_matrix_market.proofs.Taken.{blank_left, too_many_left, entry_refused_left, added_left}
use Rattle.text_matrix_market.proofs.stages.entry_line.Goals as goal

pub returns-then-is_blank_line : goal.returns-then-is_blank_line
returns-then-is_blank_line c =
    let a = c.args in
    let left = blank_left a.kind a.n a.count a.read (lists a.rows.now a.columns.now a.weights.now) a.line.now
    (sym c.is_blank_line.ensures ∙ c.if-is_blank_line.true) in
    record { state = left.0; slices = left.1 }

pub returns-then-read-count : goal.returns-then-read-count
returns-then-read-count c =
    let a = c.args in
    let left = too_many_left a.kind a.n a.count a.read (lists a.rows.now a.columns.now a.weights.now) a.line.now
    (sym c.is_blank_line.ensures ∙ c.if-is_blank_line.false) c.if-read-count.true in
    record { state = left.0; slices = left.1 }

pub returns-in_err-entry : goal.returns-in_err-entry
returns-in_err-entry c =
    let a = c.args in
    let left = entry_refused_left a.kind a.n a.count a.read (lists a.rows.now a.columns.now a.weights.now) a.line.now
    (sym c.is_blank_line.ensures ∙ c.if-is_blank_line.false) c.if-read-count.false (sym c.in_err-entry.ensures) in
    record { state = rw (refused_with c.from_residual.result _ c.from_residual.ensures.1) left.0; slices = left.1 }

pub returns : goal.returns
returns c =
    let a = c.args in
    let left = added_left a.kind a.n a.count a.read (lists a.rows.now a.columns.now a.weights.now) a.line.now
    (sym c.is_blank_line.ensures ∙ c.if-is_blank_line.false) c.if-read-count.false c.requires (sym c.in_ok-entry.ensures) in
    record { state = left.0; slices = left.1 }
