-- `index_heap::chosen`: the test as a number, 0 or 1, is what the definition's choice adds.
use Rattle.std.proofs.Common.{◌≡◌, ℕ, ◌+◌, Bool, true, false, cond, refl, arith}
use mir.Val.{bool_byte}
use Rattle.index_heap.specs.IndexHeap.{chosen}
use Rattle.index_heap.proofs.chosen.Goals as goal

add-test : (b : Bool) (m : ℕ) → m + bool_byte b ≡ cond b (m + 1) m
add-test true m = refl
add-test false m = omega arith

pub returns : goal.returns
unfolding chosen
returns c = add-test _ c.args.left
