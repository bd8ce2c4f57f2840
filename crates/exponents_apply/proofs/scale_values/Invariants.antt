-- `scale_values`: the places before column j are scaled, all others as they were.
use Rattle.std.proofs.Common.{get_or}
use Rattle.sparse.specs.Pattern.{pattern}
use Rattle.exponents_powers.specs.Power.{exponents}
use Rattle.exponents_apply.specs.inner.Steps.{Written}
use Rattle.exponents_apply.proofs.Writing.{scaled_at}
use Rattle.exponents_apply.proofs.scale_values.Given as goal

abbrev pub invariant-loop-j : goal.invariant-loop-j
invariant-loop-j l =
    Written (scaled_at (pattern l.n l.col_ptr l.row_idx) (exponents l.row_exponents l.column_exponents) l.initial.values) 0 (get_or l.col_ptr l.j 0)
    l.initial.values l.values
