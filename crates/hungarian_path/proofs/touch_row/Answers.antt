-- `hungarian_path::touch_row`: a new row has room among the touched rows and in the heap.
use Rattle.std.proofs.Common.{arith}
use borrow.Author.Tests.{eq-eqb}
use Rattle.hungarian.proofs.Larger.{larger_max}
use Rattle.hungarian_path.proofs.Memory.{spare}
use Rattle.hungarian_path.proofs.touch_row.Goals as goal

pub overflow_add-len : goal.overflow_add-len
overflow_add-len c = let room = spare _ _ _ _ _ c.requires c.if-pos-i-ne0.false in omega arith

pub overflow_cast-pos : goal.overflow_cast-pos
overflow_cast-pos c = let room = spare _ _ _ _ _ c.requires c.if-pos-i-ne0.false in omega arith

pub returns : goal.returns
returns c =
    let new = eq-eqb _ 0 c.if-pos-i-ne0.false in
    record { words = rw new; places = rw new; answer = rw (c.max.ensures, larger_max, new) }
