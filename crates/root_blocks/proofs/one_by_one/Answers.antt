-- Each root goes behind those before it.
use Rattle.std.proofs.Common.{◌≡◌, ℕ, get_or, arith}
use Rattle.std.specs.Float.{nan}
use Rattle.std.specs.Prelude.{Float}
use Rattle.root_blocks.specs.inner.Blocks.{root_by}
use Rattle.root_blocks.proofs.Blocks.{one_root, placed}
use Rattle.root_blocks.proofs.one_by_one.Goals as goal

pub loop-i-init : goal.loop-i-init
loop-i-init c = (one_root, record { at = λ j h. absurd (omega arith) })

pub loop-i-preserved : goal.loop-i-preserved
loop-i-preserved c =
    let l = c.loop-i in
    let root = c.next_root-y.ensures in (
      root,
      record {
        at = placed (λ (j : ℕ) (y : Float). y ≡ root_by (get_or c.args.bits.now j 0)) l.roots l.i _ nan (omega arith) l.invariant.1.at root;
      },
    )
