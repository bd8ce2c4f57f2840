-- `update_rest` meets its contract. The loop's invariant: the rows below i have their factors.
use mathlib.Core.Path.{◌≡◌, refl, ◌∙◌}
use Prim.Native.Nat.{◌-◌, ◌≤◌}
use native.Mathlib.Omega.{arith}
use lib.ListN.{length, length-set}
use Rattle.infnorm_factors.specs.Factors.{root}
use Rattle.infnorm_rounds.specs.inner.Blocks.{Updated}
use Rattle.infnorm_rounds.proofs.Rounds.{updated_next, updated_to, not_yet}
use Rattle.infnorm_rounds.proofs.update_rest.Statement.{statement}
use Rattle.infnorm_rounds.proofs.update_rest.Tie as tie

abbrev invariant-loop-i : tie.invariant-loop-i
invariant-loop-i factors₀ work from i₀ i-end factors i = (from ≤ i) × (i ≤ length work) × (length factors₀ ≡ length work) × (length factors ≡ length factors₀)
    × Updated work factors₀ from factors i

abbrev decreases-loop-i : tie.decreases-loop-i
decreases-loop-i factors₀ work from i₀ i-end factors i = length work - i

loop-i-init : tie.Need-loop-i-init invariant-loop-i decreases-loop-i
loop-i-init c = (omega arith, omega arith, omega arith, refl, not_yet)

offset_bounds-work-i : tie.Need-offset_bounds-work-i invariant-loop-i decreases-loop-i
offset_bounds-work-i c = omega arith

bounds-work-i : tie.Need-bounds-work-i invariant-loop-i decreases-loop-i
bounds-work-i c = omega arith

offset_bounds-factors-i : tie.Need-offset_bounds-factors-i invariant-loop-i decreases-loop-i
offset_bounds-factors-i c = omega arith

bounds-factors-i : tie.Need-bounds-factors-i invariant-loop-i decreases-loop-i
bounds-factors-i c = omega arith

root-requires : tie.Need-root-requires invariant-loop-i decreases-loop-i
root-requires c κs = tt

new_factor-requires : tie.Need-new_factor-requires invariant-loop-i decreases-loop-i
unfolding root
new_factor-requires c κs = λ h. c.root.ensures

offset_bounds-factors-i-in-loop-i : tie.Need-offset_bounds-factors-i-in-loop-i invariant-loop-i decreases-loop-i
offset_bounds-factors-i-in-loop-i c = omega arith

bounds-factors-i-in-loop-i : tie.Need-bounds-factors-i-in-loop-i invariant-loop-i decreases-loop-i
bounds-factors-i-in-loop-i c = omega arith

overflow_step-i : tie.Need-overflow_step-i invariant-loop-i decreases-loop-i
overflow_step-i c = omega arith

loop-i-smaller : tie.Need-loop-i-smaller invariant-loop-i decreases-loop-i
loop-i-smaller c = omega arith

loop-i-preserved : tie.Need-loop-i-preserved invariant-loop-i decreases-loop-i
loop-i-preserved c =
    let loop = c.loop-i in (
      omega arith,
      omega arith,
      omega arith,
      simp length-set loop.invariant.3,
      updated_next loop.invariant.4 (loop.invariant.3 ∙ loop.invariant.2) (omega arith) c.new_factor.ensures,
    )

shape_of-factors : tie.Need-shape_of-factors invariant-loop-i decreases-loop-i
shape_of-factors c = omega arith

returns : tie.Need-returns invariant-loop-i decreases-loop-i
returns c = updated_to c.loop-i.invariant.4 (omega arith)

pub update_rest_spec : {M : Type 1} → statement M
update_rest_spec =
    tie.close
    (tie.spec
    invariant-loop-i
    decreases-loop-i
    loop-i-init
    offset_bounds-work-i
    bounds-work-i
    offset_bounds-factors-i
    bounds-factors-i
    root-requires
    new_factor-requires
    offset_bounds-factors-i-in-loop-i
    bounds-factors-i-in-loop-i
    overflow_step-i
    loop-i-smaller
    loop-i-preserved
    shape_of-factors
    returns)
