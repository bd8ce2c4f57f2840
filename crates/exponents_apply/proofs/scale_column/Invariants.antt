-- `scale_column`: the places of the column before k are scaled, all others as they were.
use Rattle.exponents_apply.specs.inner.Steps.{Written}
use Rattle.exponents_apply.proofs.Writing.{target}
use Rattle.exponents_apply.proofs.scale_column.Given as goal

abbrev pub invariant-loop-k : goal.invariant-loop-k
invariant-loop-k l = Written (target l.row_idx l.row_exponents l.column_exponent l.initial.values) l.from l.k l.initial.values l.values
