-- The buffer has its length, and room after the bytes read, which grow at each iteration.
use Prim.Native.Nat.{◌<◌, ◌-◌}
use mathlib.Core.Path.{◌≡◌}
use lib.ListN.{length}
use Rattle.text_answer.specs.Answer.{buffer_length}
use Rattle.text_program.proofs.read_input.Given as goal

abbrev pub invariant-loop-count : goal.invariant-loop-count
invariant-loop-count g l = (length l.buffer ≡ buffer_length) × (l.at < buffer_length)

abbrev pub decreases-loop-count : goal.decreases-loop-count
decreases-loop-count g l = buffer_length - l.at
