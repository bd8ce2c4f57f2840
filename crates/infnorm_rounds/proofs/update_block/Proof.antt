-- `update_block` meets its contract. The loop's invariant: the rows below from + i have their factors.
use mathlib.Core.Path.{◌≡◌, refl, ◌∙◌}
use Prim.Native.Nat.{◌+◌, ◌-◌, ◌≤◌}
use native.Mathlib.Omega.{arith}
use lib.ListN.{length, length-set}
use Rattle.infnorm_factors.specs.Factors.{root}
use Rattle.root_blocks.specs.inner.Blocks.{Roots}
use Rattle.infnorm_rounds.specs.inner.Blocks.{Updated}
use Rattle.infnorm_rounds.proofs.Rounds.{updated_next, updated_to, not_yet}
use Rattle.infnorm_rounds.proofs.update_block.Statement.{statement}
use Rattle.infnorm_rounds.proofs.update_block.Tie as tie

abbrev invariant-loop-i : tie.invariant-loop-i
invariant-loop-i factors₀ work from roots i₀ factors i = (i ≤ 16) × (length factors₀ ≡ length work) × (from + 16 ≤ length work) × (length roots ≡ 16)
    × (length factors ≡ length factors₀) × Roots work from roots 16 × Updated work factors₀ from factors (from + i)

abbrev decreases-loop-i : tie.decreases-loop-i
decreases-loop-i factors₀ work from roots i₀ factors i = 16 - i

loop-i-init : tie.Need-loop-i-init invariant-loop-i decreases-loop-i
loop-i-init c = (omega arith, omega arith, omega arith, omega arith, refl, c.requires.1.1, updated_to not_yet (omega arith))

overflow_add-at : tie.Need-overflow_add-at invariant-loop-i decreases-loop-i
overflow_add-at c = omega arith

offset_bounds-factors-at : tie.Need-offset_bounds-factors-at invariant-loop-i decreases-loop-i
offset_bounds-factors-at c = omega arith

bounds-factors-at : tie.Need-bounds-factors-at invariant-loop-i decreases-loop-i
bounds-factors-at c = omega arith

offset_bounds-work-at : tie.Need-offset_bounds-work-at invariant-loop-i decreases-loop-i
offset_bounds-work-at c = omega arith

bounds-work-at : tie.Need-bounds-work-at invariant-loop-i decreases-loop-i
bounds-work-at c = omega arith

offset_bounds-roots-i : tie.Need-offset_bounds-roots-i invariant-loop-i decreases-loop-i
offset_bounds-roots-i c = omega arith

bounds-roots-i : tie.Need-bounds-roots-i invariant-loop-i decreases-loop-i
bounds-roots-i c = omega arith

new_factor-requires : tie.Need-new_factor-requires invariant-loop-i decreases-loop-i
unfolding root
new_factor-requires c κs = let loop = c.loop-i in loop.invariant.5.at loop.i (omega arith)

offset_bounds-factors-at-in-loop-i : tie.Need-offset_bounds-factors-at-in-loop-i invariant-loop-i decreases-loop-i
offset_bounds-factors-at-in-loop-i c = omega arith

bounds-factors-at-in-loop-i : tie.Need-bounds-factors-at-in-loop-i invariant-loop-i decreases-loop-i
bounds-factors-at-in-loop-i c = omega arith

overflow_step-i : tie.Need-overflow_step-i invariant-loop-i decreases-loop-i
overflow_step-i c = omega arith

loop-i-smaller : tie.Need-loop-i-smaller invariant-loop-i decreases-loop-i
loop-i-smaller c = omega arith

loop-i-preserved : tie.Need-loop-i-preserved invariant-loop-i decreases-loop-i
loop-i-preserved c =
    let loop = c.loop-i in (
      omega arith,
      omega arith,
      omega arith,
      omega arith,
      simp length-set loop.invariant.4,
      loop.invariant.5,
      updated_to (updated_next loop.invariant.6 (loop.invariant.4 ∙ loop.invariant.1) (omega arith) c.new_factor.ensures) (omega arith),
    )

shape_of-factors : tie.Need-shape_of-factors invariant-loop-i decreases-loop-i
shape_of-factors c = omega arith

returns : tie.Need-returns invariant-loop-i decreases-loop-i
returns c = updated_to c.loop-i.invariant.6 (omega arith)

pub update_block_spec : {M : Type 1} → statement M
update_block_spec =
    tie.close
    (tie.spec
    invariant-loop-i
    decreases-loop-i
    loop-i-init
    overflow_add-at
    offset_bounds-factors-at
    bounds-factors-at
    offset_bounds-work-at
    bounds-work-at
    offset_bounds-roots-i
    bounds-roots-i
    new_factor-requires
    offset_bounds-factors-at-in-loop-i
    bounds-factors-at-in-loop-i
    overflow_step-i
    loop-i-smaller
    loop-i-preserved
    shape_of-factors
    returns)
