-- `read_input` meets its contract: what a read brings is within the room that is left, and more is read only after a byte.
use Rattle.std.proofs.Common.{◌≡◌, Some, sym, ap, ◌∙◌, Option, rules, arith}
use Rattle.text_program.specs.declared.Input.{Input}
use Rattle.text_program.specs.declared.Input.TheVariants.{More, All}
use Rattle.text_program.specs.Input.{input_after}
use Rattle.text_program.proofs.Inputs.{room, brought, grows, within}
use Rattle.text_program.proofs.read_input.Goals as goal

pub loop-count-smaller : goal.loop-count-smaller
loop-count-smaller g c =
    omega (arith, grows c.loop-count.at c.in-More.count c.ok-got.result (sym (ap (λ (i : Input). Some i) c.in-More.is) ∙ c.in_ok-count.ensures))

pub loop-count-preserved : goal.loop-count-preserved
loop-count-preserved g c = (
  search rules,
  (grows c.loop-count.at c.in-More.count c.ok-got.result (sym (ap (λ (i : Input). Some i) c.in-More.is) ∙ c.in_ok-count.ensures)).1,
)

pub returns-in-All : goal.returns-in-All
returns-in-All g c =
    let buffer = c.loop-count.buffer in
    within c.loop-count.at c.in-All.count c.ok-got.result c.loop-count.invariant.1
    (brought c.read.result c.read.new.buf c.ok-got.ensures.value c.read.ensures.bound
    (c.read.auto.buf ∙ room buffer c.loop-count.at c.loop-count.invariant.0 c.loop-count.invariant.1))
    (sym (ap (λ (i : Input). Some i) c.in-All.is) ∙ c.in_ok-count.ensures)
