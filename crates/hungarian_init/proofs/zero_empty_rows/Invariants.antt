-- `hungarian_init::zero_empty_rows`: the duals below the index are zeroed, and zeroing the rest gives the whole.
use Rattle.std.proofs.Common.{◌≡◌}
use Rattle.hungarian.specs.Match.{empty_rows_zeroed}
use Rattle.hungarian_init.proofs.Preparing.{zeroed_to}
use Rattle.hungarian_init.proofs.zero_empty_rows.Given as goal

abbrev pub invariant-loop-x : goal.invariant-loop-x
invariant-loop-x l = zeroed_to l.x-index l.x-items ≡ empty_rows_zeroed l.initial.x-items
