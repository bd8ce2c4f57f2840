-- `one_round` meets its contract: the maxima first, then the factors.
use mathlib.Core.Path.{sym, ◌∙◌}
use Rattle.infnorm_rounds.proofs.one_round.Statement.{statement}
use Rattle.infnorm_rounds.proofs.one_round.Tie as tie

row_maxima-requires : tie.Need-row_maxima-requires
row_maxima-requires c κs = c.requires

update_factors-requires : tie.Need-update_factors-requires
update_factors-requires c κs =
    let pre = c.requires in
    pre.1.0 ∙ sym (c.row_maxima.auto.work ∙ pre.1.1)

shape_of-factors : tie.Need-shape_of-factors
shape_of-factors c = c.update_factors.auto.factors

shape_of-work : tie.Need-shape_of-work
shape_of-work c = c.row_maxima.auto.work

returns : tie.Need-returns
returns c =
    let maxima = c.row_maxima.ensures in
    rw maxima at c.update_factors.ensures

pub one_round_spec : {M : Type 1} → statement M
one_round_spec =
    tie.close
    (tie.spec
    row_maxima-requires
    update_factors-requires
    shape_of-factors
    shape_of-work
    returns)
