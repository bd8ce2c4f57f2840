-- The first i are roots, and y is that of the last bits.
use Rattle.std.proofs.Common.{◌≡◌}
use Rattle.root_blocks.specs.inner.Blocks.{root_by, RootsBy}
use Rattle.root_blocks.proofs.one_by_one.Given as goal

abbrev pub invariant-loop-i : goal.invariant-loop-i
invariant-loop-i l = (l.y ≡ root_by l.last) × RootsBy l.bits l.roots l.i
