-- If nothing was counted, the first i are roots.
use Rattle.std.proofs.Common.{◌≡◌, ◌*◌, ◌^◌, ◌≤◌}
use Rattle.root_blocks.specs.inner.Blocks.{RootsBy}
use Rattle.root_blocks.proofs.check_roots.Given as goal

abbrev pub invariant-loop-i : goal.invariant-loop-i
invariant-loop-i l = (l.bad ≤ l.i * 2 ^ 36) × (l.bad ≡ 0 → RootsBy l.bits l.roots l.i)
