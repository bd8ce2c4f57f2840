-- `stages::read_entry` meets its contract: by the tests that led there.
use Rattle.std.proofs.Common.{sym, ◌∙◌}
use Rattle.text_matrix_market.proofs.Entries.{some_of_ok_or, none_of_ok_or, refused_with}
use Rattle.text_matrix_market.proofs.Entries.{no_entry, row_out, column_out, weight_out, upper_entry_lem, an_entry}
use Rattle.text_matrix_market.proofs.stages.read_entry.Goals as goal
use Rattle.text_matrix_market.proofs.stages.read_entry.Goals.{then-not-within-via-then-not-within, then-not-within-via-else-not-within+then-not-within-2}
use Rattle.text_matrix_market.proofs.stages.read_entry.Goals.{then-not-within-via-else-not-within+else-not-within-2+then-not-weight_fits}

pub returns-in_err-row : goal.returns-in_err-row
returns-in_err-row c =
    let none = none_of_ok_or c.line_numbers.result _ _ c.in_err-row.ensures.value in
    rw (refused_with c.from_residual.result _ c.from_residual.ensures.1, none.1)
    (no_entry c.args.kind c.args.n c.args.line.now (sym c.line_numbers.ensures ∙ none.0))

pub returns-then-not-within : goal.returns-then-not-within
returns-then-not-within c =
    let a = c.args in
    let numbers = sym c.line_numbers.ensures ∙ some_of_ok_or c.line_numbers.result _ _ c.in_ok-row.ensures.value in
    let row = rw c.from-order.ensures at c.within.ensures in
    elim c.then-not-within.branch [
      | then-not-within-via-then-not-within w ↦ row_out a.kind a.n a.line.now numbers (sym row ∙ w.if-not-within.true)
      | then-not-within-via-else-not-within+then-not-within-2 w ↦
          let column = rw c.from-order.ensures at w.within-else-not-within.ensures in
          column_out a.kind a.n a.line.now numbers (sym row ∙ w.if-not-within.false) (sym column ∙ w.if-not-within-2.true)
      | then-not-within-via-else-not-within+else-not-within-2+then-not-weight_fits w ↦
          let column = rw c.from-order.ensures at w.within-else-not-within.ensures in
          let weight = rw c.from-order.ensures at w.weight_fits.ensures in
          weight_out a.kind a.n a.line.now numbers (sym row ∙ w.if-not-within.false) (sym column ∙ w.if-not-within-2.false)
          (sym weight ∙ w.if-not-weight_fits.true)
    ]

pub returns-then-is_upper : goal.returns-then-is_upper
returns-then-is_upper c =
    let a = c.args in
    let numbers = sym c.line_numbers.ensures ∙ some_of_ok_or c.line_numbers.result _ _ c.in_ok-row.ensures.value in
    let row = rw c.from-order.ensures at c.within.ensures in
    let column = rw c.from-order.ensures at c.within-else-not-within.ensures in
    let weight = rw c.from-order.ensures at c.weight_fits.ensures in
    upper_entry_lem a.kind a.n a.line.now numbers (sym row ∙ c.if-not-within.false) (sym column ∙ c.if-not-within-2.false)
    (sym weight ∙ c.if-not-weight_fits.false) (sym c.is_upper.ensures ∙ c.if-is_upper.true)

pub returns : goal.returns
returns c =
    let a = c.args in
    let numbers = sym c.line_numbers.ensures ∙ some_of_ok_or c.line_numbers.result _ _ c.in_ok-row.ensures.value in
    let row = rw c.from-order.ensures at c.within.ensures in
    let column = rw c.from-order.ensures at c.within-else-not-within.ensures in
    let weight = rw c.from-order.ensures at c.weight_fits.ensures in
    an_entry a.kind a.n a.line.now numbers (sym row ∙ c.if-not-within.false) (sym column ∙ c.if-not-within-2.false)
    (sym weight ∙ c.if-not-weight_fits.false) (sym c.is_upper.ensures ∙ c.if-is_upper.false)
