-- Each block of values has its words behind those of the blocks before it.
use Rattle.std.proofs.Common.{◌∙◌, rules, arith}
use Rattle.log_lanes.proofs.Lanes.{going_start, going_within, going_on, going_end}
use Rattle.log_lanes.proofs.log_words.Goals as goal

pub loop-block-init : goal.loop-block-init
loop-block-init c =
    let all = c.chunks-block-items.ensures in
    let same = c.into_iter-block-iterator.ensures.into_iter_gives in
    (search rules, search rules, search rules, rw (same, all.rest) (going_start c.args.values.now c.args.at c.args.words.now))

pub overflow_add-end : goal.overflow_add-end
overflow_add-end c =
    let l = c.loop-block in
    omega (
      arith,
      going_within c.args.values.now c.args.at l.place _ _ c.in-Some.block.now c.args.words.now l.words l.invariant.3
          c.in-Some.ensures.steps.1.0,
    )

pub loop-block-preserved : goal.loop-block-preserved
loop-block-preserved c =
    let l = c.loop-block in
    let steps = c.in-Some.ensures.steps in (
      search rules,
      tt,
      steps.0 ∙ l.invariant.2,
      going_on c.args.values.now c.args.at l.place _ _ c.in-Some.block.now c.args.words.now l.words c.log_block.new.words l.invariant.3
          steps.1.0 c.log_block.ensures (omega arith) (omega arith),
    )

pub returns : goal.returns
returns c = going_end c.args.values.now c.args.at c.loop-block.place _ c.args.words.now c.loop-block.words c.loop-block.invariant.3 c.in-None.ensures.steps.1.0
