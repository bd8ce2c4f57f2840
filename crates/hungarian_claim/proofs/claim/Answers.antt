-- `hungarian_claim::claim`: each of its four ends is a case of the definition's claim, by the laws of Claims. The row's column is one of the n.
use Rattle.std.proofs.Common.{arith}
use Rattle.std.proofs.Math.ListN.{length-set}
use Rattle.std.proofs.Math.Numerals.{add-one}
use Rattle.hungarian_claim.proofs.Claims.{column_range, claimed_bare, claimed_held, claimed_dense, claimed_taken}
use Rattle.hungarian_claim.proofs.claim.Goals as goal

pub returns-then-column : goal.returns-then-column
returns-then-column c = claimed_bare c.requires.fact_1 c.requires.fact_2 _ c.if-column.true

pub bounds-work-n : goal.bounds-work-n
bounds-work-n c =
    let inside = column_range c.requires.fact_1 c.requires.fact_2 c.if-column.false in
    simp length-set (omega (arith, inside))

pub returns-then-work-n : goal.returns-then-work-n
returns-then-work-n c = claimed_held c.requires.fact_1 c.requires.fact_2 c.if-column.false _ c.if-work-n.true

pub bounds-col_ptr-j : goal.bounds-col_ptr-j
bounds-col_ptr-j c = omega (arith, column_range c.requires.fact_1 c.requires.fact_2 c.if-column.false)

pub bounds-col_ptr-j-2 : goal.bounds-col_ptr-j-2
bounds-col_ptr-j-2 c = omega (arith, column_range c.requires.fact_1 c.requires.fact_2 c.if-column.false)

pub overflow_sub-col_len : goal.overflow_sub-col_len
overflow_sub-col_len c =
    rw add-one (c.requires.fact_1.rises _ (column_range c.requires.fact_1 c.requires.fact_2 c.if-column.false))

pub returns-then-col_len-n : goal.returns-then-col_len-n
returns-then-col_len-n c =
    claimed_dense c.requires.fact_1 c.requires.fact_2 c.if-column.false _ c.if-work-n.false c.if-col_len-n.true

pub returns : goal.returns
returns c =
    claimed_taken c.requires.fact_1 c.requires.fact_2 c.if-column.false _ c.if-work-n.false c.if-col_len-n.false
