-- `numbers::line_numbers` meets its contract: each word that is a number leaves the words behind it.
use Rattle.std.proofs.Common.{◌≡◌, Some, sym, ◌∙◌, List, ℕ, arith}
use Rattle.text_matrix_market.specs.Numbers.{number_read}
use Rattle.text_matrix_market.specs.inner.Steps.{next_word, word_past, field_of}
use Rattle.text_matrix_market.proofs.Fields.{Found, found, lost, no_first, no_second, no_third, weighed_within, one_more, all_three}
use Rattle.text_matrix_market.proofs.numbers.line_numbers.Goals as goal

-- the next word from a place on is a number and ends at `past`
abbrev Step : List ℕ → ℕ → ℕ → ℕ → Type 0
Step line from value past = Some (value, past) ≡ field_of (number_read (next_word line from)) (word_past line from)

module _ (line : List ℕ) {a p : ℕ} (to_a : Step line 0 a p) where
  first : Found number_read line 0 a p
  first = found line 0 (omega arith) (sym to_a)

  second : {b q : ℕ} → Step line p b q → Found number_read line p b q
  second to_b = found line p first.within (sym to_b)

pub returns-in_err-a : goal.returns-in_err-a
returns-in_err-a c = c.from_residual.ensures ∙ no_first c.args.kind c.args.line.now (lost c.args.line.now 0 (sym c.in_err-a.ensures))

pub next_number-requires-2 : goal.next_number-requires-2
next_number-requires-2 c = (first c.args.line.now c.in_ok-a.ensures).within

pub returns-in_err-b : goal.returns-in_err-b
returns-in_err-b c =
    let line = c.args.line.now in
    c.from_residual-in_err-b.ensures
    ∙ no_second c.args.kind line (first line c.in_ok-a.ensures) (lost line c.in_ok-a.past_a (sym c.in_err-b.ensures))

pub next_weight-requires : goal.next_weight-requires
next_weight-requires c = (second c.args.line.now c.in_ok-a.ensures c.in_ok-b.ensures).within

pub returns-in_err-c : goal.returns-in_err-c
returns-in_err-c c =
    let line = c.args.line.now in
    c.from_residual-in_err-c.ensures
    ∙ no_third c.args.kind line (first line c.in_ok-a.ensures) (second line c.in_ok-a.ensures c.in_ok-b.ensures) (sym c.in_err-c.ensures)

pub word_start-requires : goal.word_start-requires
word_start-requires c =
    let line = c.args.line.now in
    weighed_within c.args.kind line c.in_ok-b.past_b (second line c.in_ok-a.ensures c.in_ok-b.ensures).within (sym c.in_ok-c.ensures)

pub returns-then-word_start-line : goal.returns-then-word_start-line
returns-then-word_start-line c =
    let line = c.args.line.now in
    one_more line (first line c.in_ok-a.ensures) (second line c.in_ok-a.ensures c.in_ok-b.ensures) c.args.kind (sym c.in_ok-c.ensures) (omega arith)

pub returns : goal.returns
returns c =
    let line = c.args.line.now in
    all_three line (first line c.in_ok-a.ensures) (second line c.in_ok-a.ensures c.in_ok-b.ensures) c.args.kind (sym c.in_ok-c.ensures) (omega arith)
