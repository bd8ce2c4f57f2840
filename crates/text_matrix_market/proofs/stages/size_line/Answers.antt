-- `stages::size_line` meets its contract: by the tests that led there.
use Rattle.std.proofs.Common.{sym, ◌∙◌, arith}
use Rattle.text_matrix_market.specs.inner.Steps.{first_entries}
use Rattle.text_matrix_market.proofs.Entries.{some_of_ok_or, none_of_ok_or, refused_with}
use Rattle.text_matrix_market.proofs.Entries.{blank_passed, comment_passed, no_size, not_square, too_wide, too_full, a_size}
use Rattle.text_matrix_market.proofs.stages.size_line.Goals as goal
use Rattle.text_matrix_market.proofs.stages.size_line.Goals.{then-is_blank_line-via-then-is_blank_line, then-is_blank_line-via-else-is_blank_line+then-begins_percent}
use Rattle.text_matrix_market.proofs.stages.size_line.Goals.{then-n-gt-MAX_ORDER-via-then-n-gt-MAX_ORDER, then-n-gt-MAX_ORDER-via-else-n-gt-MAX_ORDER+then-count-gt-MAX_ENTRIES}

pub returns-then-is_blank_line : goal.returns-then-is_blank_line
returns-then-is_blank_line c = λ l.
    elim c.then-is_blank_line.branch [
      | then-is_blank_line-via-then-is_blank_line w ↦ blank_passed _ c.args.line.now (sym c.is_blank_line.ensures ∙ w.if-is_blank_line.true)
      | then-is_blank_line-via-else-is_blank_line+then-begins_percent w ↦
          comment_passed _ c.args.line.now (sym w.begins_percent.ensures ∙ w.if-begins_percent.true)
    ]

pub returns-in_err-m : goal.returns-in_err-m
returns-in_err-m c = λ l.
    let none = none_of_ok_or c.line_numbers.result _ _ c.in_err-m.ensures.value in
    rw (refused_with c.from_residual.result _ c.from_residual.ensures.1, none.1)
    (no_size _ c.args.line.now (sym c.is_blank_line.ensures ∙ c.if-is_blank_line.false) (sym c.begins_percent.ensures ∙ c.if-begins_percent.false)
    (sym c.line_numbers.ensures ∙ none.0))

pub returns-then-m-n : goal.returns-then-m-n
returns-then-m-n c = λ l.
    let some = some_of_ok_or c.line_numbers.result _ _ c.in_ok-m.ensures.value in
    not_square _ c.args.line.now (sym c.is_blank_line.ensures ∙ c.if-is_blank_line.false) (sym c.begins_percent.ensures ∙ c.if-begins_percent.false)
    (sym c.line_numbers.ensures ∙ some) c.if-m-n.true

pub returns-then-n-gt-MAX_ORDER : goal.returns-then-n-gt-MAX_ORDER
returns-then-n-gt-MAX_ORDER c = λ l.
    let some = some_of_ok_or c.line_numbers.result _ _ c.in_ok-m.ensures.value in
    let blank = sym c.is_blank_line.ensures ∙ c.if-is_blank_line.false in
    let percent = sym c.begins_percent.ensures ∙ c.if-begins_percent.false in
    elim c.then-n-gt-MAX_ORDER.branch [
      | then-n-gt-MAX_ORDER-via-then-n-gt-MAX_ORDER w ↦
          too_wide _ c.args.line.now blank percent (sym c.line_numbers.ensures ∙ some) c.if-m-n.false w.if-n-gt-MAX_ORDER.true
      | then-n-gt-MAX_ORDER-via-else-n-gt-MAX_ORDER+then-count-gt-MAX_ENTRIES w ↦
          too_full _ c.args.line.now blank percent (sym c.line_numbers.ensures ∙ some) c.if-m-n.false w.if-count-gt-MAX_ENTRIES.true
    ]

pub returns : goal.returns
unfolding first_entries
returns c = λ l.
    let some = some_of_ok_or c.line_numbers.result _ _ c.in_ok-m.ensures.value in
    a_size _ c.args.line.now (sym c.is_blank_line.ensures ∙ c.if-is_blank_line.false) (sym c.begins_percent.ensures ∙ c.if-begins_percent.false)
    (sym c.line_numbers.ensures ∙ some) c.if-m-n.false (omega arith) (omega arith)
