-- The first i values precede what was there.
use Rattle.std.proofs.Common.{◌≡◌, ℕ, ◌*◌}
use Rattle.byte_numbers.specs.Bytes.{number_at}
use Rattle.byte_numbers.proofs.Words.{filled}
use Rattle.byte_numbers.proofs.read_all.Given as goal

abbrev pub invariant-loop-i : goal.invariant-loop-i
invariant-loop-i g l =
    let W = g.T.Wide in l.out ≡ filled (λ (i : ℕ). W.of_number (number_at W.WIDTH l.bytes (W.WIDTH * i))) l.initial.out l.i
