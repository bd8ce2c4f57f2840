-- `update_factors` meets its contract. The loop's invariant: the rows below `from` have their factors.
use mathlib.Core.Path.{◌≡◌, refl, sym, ◌∙◌}
use Prim.Native.Nat.{◌-◌, ◌≤◌}
use native.Mathlib.Omega.{arith}
use lib.ListN.{length}
use Rattle.infnorm_factors.specs.Factors.{new_factor, zipped}
use Rattle.slices.specs.inner.Steps.{Front}
use Rattle.slices.proofs.Fronts.{front_start, front_end}
use Rattle.infnorm_rounds.proofs.Rounds.{length_zipped}
use Rattle.infnorm_rounds.proofs.update_factors.Statement.{statement}
use Rattle.infnorm_rounds.proofs.update_factors.Tie as tie

abbrev invariant-loop-factors : tie.invariant-loop-factors
invariant-loop-factors factors₀ work roots₀ from₀ factors roots from = (from ≤ length work) × (length factors₀ ≡ length work) × (length roots ≡ 16)
    × Front (zipped new_factor factors₀ work) factors₀ factors from

abbrev decreases-loop-factors : tie.decreases-loop-factors
decreases-loop-factors factors₀ work roots₀ from₀ factors roots from = length work - from

loop-factors-init : tie.Need-loop-factors-init invariant-loop-factors decreases-loop-factors
loop-factors-init c =
    (omega arith, c.requires, refl, front_start _ _ (length_zipped new_factor c.args.factors.now c.args.work.now c.requires))

overflow_sub-factors : tie.Need-overflow_sub-factors invariant-loop-factors decreases-loop-factors
overflow_sub-factors c = omega (arith, c.loop-factors.invariant.3.same)

slice_bounds-roots_of-end : tie.Need-slice_bounds-roots_of-end invariant-loop-factors decreases-loop-factors
slice_bounds-roots_of-end c = sym c.loop-factors.invariant.2

roots_of-requires : tie.Need-roots_of-requires invariant-loop-factors decreases-loop-factors
roots_of-requires c κs =
    let loop = c.loop-factors in
    (omega (arith, loop.invariant.3.same), loop.invariant.2)

slice_bounds-update_block-end : tie.Need-slice_bounds-update_block-end invariant-loop-factors decreases-loop-factors
slice_bounds-update_block-end c =
    sym (c.roots_of.auto.roots ∙ c.loop-factors.invariant.2)

update_block-requires : tie.Need-update_block-requires invariant-loop-factors decreases-loop-factors
update_block-requires c κs =
    let loop = c.loop-factors in (
      (loop.invariant.3.same ∙ loop.invariant.1, omega (arith, c.loop-factors-test.true, loop.invariant.3.same)),
      (c.roots_of.auto.roots ∙ loop.invariant.2, c.roots_of.ensures),
    )

overflow_add-from : tie.Need-overflow_add-from invariant-loop-factors decreases-loop-factors
overflow_add-from c =
    omega (arith, c.loop-factors-test.true, c.loop-factors.invariant.3.same)

loop-factors-smaller : tie.Need-loop-factors-smaller invariant-loop-factors decreases-loop-factors
loop-factors-smaller c =
    omega (arith, c.loop-factors-test.true, c.loop-factors.invariant.3.same)

loop-factors-preserved : tie.Need-loop-factors-preserved invariant-loop-factors decreases-loop-factors
loop-factors-preserved c =
    let loop = c.loop-factors in (
      omega (arith, c.loop-factors-test.true, loop.invariant.3.same),
      loop.invariant.1,
      c.roots_of.auto.roots ∙ loop.invariant.2,
      c.update_block.ensures.come _ loop.invariant.3,
    )

update_rest-requires : tie.Need-update_rest-requires invariant-loop-factors decreases-loop-factors
update_rest-requires c κs =
    let loop = c.loop-factors in
    (loop.invariant.3.same ∙ loop.invariant.1, loop.invariant.0)

one_is_far-requires : tie.Need-one_is_far-requires invariant-loop-factors decreases-loop-factors
one_is_far-requires c κs = tt

shape_of-factors : tie.Need-shape_of-factors invariant-loop-factors decreases-loop-factors
shape_of-factors c =
    c.update_rest.auto.factors ∙ c.loop-factors.invariant.3.same

returns : tie.Need-returns invariant-loop-factors decreases-loop-factors
returns c =
    let loop = c.loop-factors in
    (front_end (c.update_rest.ensures.come _ loop.invariant.3) (omega arith), c.one_is_far.ensures)

pub update_factors_spec : {M : Type 1} → statement M
update_factors_spec =
    tie.close
    (tie.spec
    invariant-loop-factors
    decreases-loop-factors
    loop-factors-init
    overflow_sub-factors
    slice_bounds-roots_of-end
    roots_of-requires
    slice_bounds-update_block-end
    update_block-requires
    overflow_add-from
    loop-factors-smaller
    loop-factors-preserved
    update_rest-requires
    one_is_far-requires
    shape_of-factors
    returns)
