-- `read_file` meets its contract: line by line, to the end or to a line that is refused.
use Rattle.std.proofs.Common.{◌∙◌, arith}
use Rattle.text_matrix_market.specs.Text.{is_line_feed}
use Rattle.text_matrix_market.specs.inner.Steps.{lists}
use Rattle.text_matrix_market.proofs.Entries.{refused_with}
use Rattle.text_matrix_market.proofs.Reaching.{reach_from, reach_within}
use Rattle.text_matrix_market.proofs.Runs.{over_limit, first_line, has_room, next_line, refused_there, concluded}
use Rattle.text_matrix_market.proofs.read_file.Goals as goal

pub returns-then-input-gt-MAX_INPUT : goal.returns-then-input-gt-MAX_INPUT
returns-then-input-gt-MAX_INPUT c =
    let a = c.args in
    let done = over_limit a.input.now (lists a.rows.now a.columns.now a.weights.now) c.if-input-gt-MAX_INPUT.true in
    record { reading = done.0; slices = done.1 }

pub loop-at-init : goal.loop-at-init
loop-at-init c = first_line _ _ (omega arith)

pub slice_bounds-next_stage-count : goal.slice_bounds-next_stage-count
slice_bounds-next_stage-count c = omega (arith, reach_from is_line_feed c.args.input.now c.loop-at.at)

pub slice_bounds-next_stage-start : goal.slice_bounds-next_stage-start
slice_bounds-next_stage-start c =
    let input = c.args.input.now in
    omega (arith, reach_from is_line_feed input c.loop-at.at, reach_within is_line_feed input c.loop-at.at (omega arith))

pub slice_bounds-next_stage-end : goal.slice_bounds-next_stage-end
slice_bounds-next_stage-end c =
    let input = c.args.input.now in
    omega (arith, reach_from is_line_feed input c.loop-at.at, reach_within is_line_feed input c.loop-at.at (omega arith))

pub next_stage-requires : goal.next_stage-requires
next_stage-requires c = has_room _ _ c.loop-at.invariant c.requires

pub returns-in_err-stage : goal.returns-in_err-stage
returns-in_err-stage c =
    let done = refused_there _ _ c.loop-at.invariant c.loop-at-test.true c.line_end-end.ensures
    (c.in_err-stage.ensures.state, c.in_err-stage.ensures.slices) in
    record { reading = rw (refused_with c.from_residual.result _ c.from_residual.ensures.1) done.0; slices = done.1 }

pub loop-at-smaller : goal.loop-at-smaller
loop-at-smaller c =
    let input = c.args.input.now in
    omega (arith, reach_from is_line_feed input c.loop-at.at, reach_within is_line_feed input c.loop-at.at (omega arith))

pub loop-at-preserved : goal.loop-at-preserved
loop-at-preserved c =
    next_line _ _ c.loop-at.invariant c.loop-at-test.true c.line_end-end.ensures
    (c.in_ok-stage.ensures.state, c.in_ok-stage.ensures.slices)
    (record {
      rows = c.next_stage.auto.rows ∙ c.loop-at.invariant.kept.rows;
      columns = c.next_stage.auto.columns ∙ c.loop-at.invariant.kept.columns;
      weights = c.next_stage.auto.weights ∙ c.loop-at.invariant.kept.weights;
    })

pub returns : goal.returns
returns c =
    let done = concluded _ _ c.loop-at.invariant c.loop-at-test.false (c.conclude.ensures _) in
    record { reading = done.0; slices = done.1 }
