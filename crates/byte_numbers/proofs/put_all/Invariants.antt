-- The bytes of the first i values precede what was there.
use Rattle.std.proofs.Common.{◌≡◌, map}
use Rattle.byte_numbers.proofs.Words.{laid}
use Rattle.byte_numbers.proofs.put_all.Given as goal

abbrev pub invariant-loop-i : goal.invariant-loop-i
invariant-loop-i g l = let W = g.T.Wide in l.out ≡ laid W.WIDTH (map W.number l.values) l.initial.out l.i
