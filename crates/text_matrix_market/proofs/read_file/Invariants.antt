-- `read_file` meets its contract. The loop's invariant: the result for the input is the result for the lines from here on, after the state of the
-- stage and the slices.
use Rattle.std.proofs.Common.{length, ◌+◌, ◌-◌}
use Rattle.text_matrix_market.specs.inner.Steps.{lists}
use Rattle.text_matrix_market.proofs.Runs.{On}
use Rattle.text_matrix_market.proofs.read_file.Given as goal

abbrev pub invariant-loop-at : goal.invariant-loop-at
invariant-loop-at l =
    On l.input (lists l.initial.rows l.initial.columns l.initial.weights) l.stage (lists l.rows l.columns l.weights) l.at

abbrev pub decreases-loop-at : goal.decreases-loop-at
decreases-loop-at l = length l.input + 1 - l.at
