-- The law of 27 more digits.
use Rattle.std.proofs.Common.{arith}
use Rattle.square_root.proofs.Whole.{sizes, extended_down}
use Rattle.square_root.proofs.extended.Goals as goal

pub overflow_mul-q : goal.overflow_mul-q
overflow_mul-q c = omega (arith, sizes c.args.n c.args.s c.requires.0 c.requires.2 c.requires.1)

pub returns-then-rest-s : goal.returns-then-rest-s
returns-then-rest-s c = extended_down c.args.n c.args.s c.requires.0 c.requires.2 c.if-rest-s.true
