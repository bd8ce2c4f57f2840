-- `shift_of` meets its contract: a shift of 60 or more is as good as one of 60.
use Rattle.std.proofs.Common.{ℕ, ◌-◌, min, sym, ap, ◌∙◌, subst, arith}
use Rattle.match_gap.specs.inner.Scans.{Shifted}
use Rattle.match_gap.proofs.Shifts.{scale_most, capped_shift}
use Rattle.match_gap.proofs.shift_of.Goals as goal

pub overflow_sub-unit : goal.overflow_sub-unit
overflow_sub-unit c = let a = c.args in omega (arith, c.scale_of.ensures, scale_most a.bits a.unit c.requires)

pub returns : goal.returns
returns c = let a = c.args in
    subst (Shifted a.bits a.unit) (sym (c.min.ensures ∙ ap (λ (x : ℕ). min (a.unit - x) 60) c.scale_of.ensures))
    (capped_shift a.bits a.unit c.requires)
