-- `all_in_steps` meets its contract: each turn is one of the definition.
use Rattle.std.proofs.Common.{Bool, ℕ, length, get_or, arith}
use Rattle.std.specs.Float.{nan}
use Rattle.match_check.proofs.Every.{every_goes_on, every_all}
use Rattle.match_gap.specs.Rounding.{step, in_steps}
use Rattle.match_gap.specs.Gap.{all_in_steps}
use Rattle.match_gap.proofs.all_in_steps.Goals as goal

pub loop-x-preserved : goal.loop-x-preserved
loop-x-preserved c =
    let l = c.loop-x in
    let list = c.args.list.now in
    let f : ℕ → Bool = λ i. in_steps (step c.args.digits) (get_or list i nan) in
    rw (c.requires.test (get_or list l.x-index nan) (c.type_inv.list l.x-index))
    (every_goes_on f 0 (length list) l.fine l.x-index (omega arith) l.invariant)

pub returns : goal.returns
unfolding all_in_steps
returns c = let l = c.loop-x in let list = c.args.list.now in
    every_all (λ i. in_steps (step c.args.digits) (get_or list i nan)) (length list) l.fine l.x-index (omega arith) l.invariant
