-- `take_next` meets its contract: the two steps of the pass, a repeat and a new entry.
use Rattle.std.proofs.Common.{arith}
use Rattle.triplets.specs.Built.{triplets}
use Rattle.triplets_sorted.proofs.Steps.{count_small, some_kept, taken_again, rest_again, taken_new}
use Rattle.triplets_sorted.proofs.take_next.Goals as goal

pub overflow_sub-sum : goal.overflow_sub-sum
overflow_sub-sum c =
    let a = c.args in
    let p = c.requires.ready in
    some_kept (triplets a.rows.now a.cols.now a.vals.now) p.0 p.1 a.k p.2 c.requires.taken (c.repeats.ensures.repeat c.if-repeats.true)

pub overflow_sub-values : goal.overflow_sub-values
overflow_sub-values c =
    let a = c.args in
    let p = c.requires.ready in
    some_kept (triplets a.rows.now a.cols.now a.vals.now) p.0 p.1 a.k p.2 c.requires.taken (c.repeats.ensures.repeat c.if-repeats.true)

pub returns-then-repeats : goal.returns-then-repeats
returns-then-repeats c =
    let a = c.args in
    let p = c.requires.ready in
    let t = triplets a.rows.now a.cols.now a.vals.now in
    let r = c.repeats.ensures.repeat c.if-repeats.true in
    record {
      fact = rw c.canonical.ensures (taken_again t p.0 p.1 a.k p.2 c.requires.taken r);
      rest = rest_again t p.0 p.1 a.k p.2 c.requires.taken r _;
    }

pub overflow_add-col_ptr : goal.overflow_add-col_ptr
overflow_add-col_ptr c =
    let a = c.args in
    let p = c.requires.ready in
    omega (
      arith,
      count_small (triplets a.rows.now a.cols.now a.vals.now) p.0 p.1 a.k p.2 c.requires.taken _
          (c.requires.vals_len.1 a.k (omega arith)),
    )

pub returns-clause-fact : goal.returns-clause-fact
returns-clause-fact c =
    let a = c.args in
    let p = c.requires.ready in
    rw c.canonical-2.ensures
    (taken_new (triplets a.rows.now a.cols.now a.vals.now) p.0 p.1 a.k p.2 c.requires.taken
    (c.repeats.ensures.fact c.if-repeats.false) c.requires.row_idx_len.0 c.requires.row_idx_len.1
    (c.requires.vals_len.1 a.k (omega arith)))
