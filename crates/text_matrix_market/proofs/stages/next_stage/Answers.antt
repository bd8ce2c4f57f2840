-- `stages::next_stage` meets its contract: the length of the line, then its content by the cases of the stage.
use Rattle.std.proofs.Common.{◌≡◌, refl}
use Rattle.refusal.specs.Refusal.{input_limit}
use Rattle.text_matrix_market.specs.declared.stages.Stage.{Stage}
use Rattle.text_matrix_market.specs.declared.stages.Stage.TheVariants.{Start, Sizing, Entering}
use Rattle.text_matrix_market.specs.File.{refused, too_long}
use Rattle.text_matrix_market.specs.inner.Steps.{Lists, lists, state_of}
use Rattle.text_matrix_market.proofs.Taken.{long_left, short_left, start_left, above_size_left}
use Rattle.text_matrix_market.proofs.stages.next_stage.Goals as goal

-- a line that is too long ends the reading at any stage
long_at : (stage : Stage) (l : Lists) → refused input_limit ≡ too_long (state_of stage l)
long_at Start l = refl
long_at (Sizing kind) l = refl
long_at (Entering kind n count read) l = refl

pub returns-then-line-gt-MAX_LINE : goal.returns-then-line-gt-MAX_LINE
returns-then-line-gt-MAX_LINE c =
    let a = c.args in
    let l = lists a.rows.now a.columns.now a.weights.now in
    let left = long_left a.line.now (state_of a.stage l) l c.if-line-gt-MAX_LINE.true (long_at a.stage l) in
    record { state = left.0; slices = left.1 }

pub returns-in-Start : goal.returns-in-Start
returns-in-Start c =
    let a = c.args in
    let l = lists a.rows.now a.columns.now a.weights.now in
    let left = start_left a.line.now c.if-line-gt-MAX_LINE.false l (c.banner_line.ensures l) in
    record { state = rw c.in-Start.is left.0; slices = rw c.in-Start.is left.1 }

pub returns-in-Sizing : goal.returns-in-Sizing
returns-in-Sizing c =
    let a = c.args in
    let l = lists a.rows.now a.columns.now a.weights.now in
    let left = above_size_left a.line.now c.if-line-gt-MAX_LINE.false c.in-Sizing.kind l (c.size_line.ensures l) in
    record { state = rw c.in-Sizing.is left.0; slices = rw c.in-Sizing.is left.1 }

pub returns-in-Entering : goal.returns-in-Entering
returns-in-Entering c =
    let a = c.args in
    let l = lists a.rows.now a.columns.now a.weights.now in
    let after = lists c.entry_line.new.rows c.entry_line.new.columns c.entry_line.new.weights in
    let left = short_left a.line.now c.if-line-gt-MAX_LINE.false (state_of (Entering c.in-Entering.kind c.in-Entering.n c.in-Entering.count c.in-Entering.read) l)
    after l (c.entry_line.ensures.state, c.entry_line.ensures.slices) in
    record { state = rw c.in-Entering.is left.0; slices = rw c.in-Entering.is left.1 }
