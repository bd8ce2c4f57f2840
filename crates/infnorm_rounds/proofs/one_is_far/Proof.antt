-- `one_is_far` meets its contract. The loop's invariant: a row was far, or one from row i on is.
use mathlib.Core.Path.{◌≡◌, refl, ap, ◌∙◌}
use mathlib.Core.Bool.{not, ◌||◌}
use Prim.Native.Nat.{◌-◌, ◌≤◌}
use native.Mathlib.Omega.{arith}
use lib.ListN.{length, drop}
use Rattle.infnorm_rounds.proofs.Far.{any_far, none_far, far_next, far_end}
use Rattle.infnorm_rounds.proofs.one_is_far.Statement.{statement}
use Rattle.infnorm_rounds.proofs.one_is_far.Tie as tie

abbrev invariant-loop-i : tie.invariant-loop-i
invariant-loop-i work far₀ i₀ i-end far i = (i ≤ length work) × (any_far work ≡ (far || any_far (drop i work)))

abbrev decreases-loop-i : tie.decreases-loop-i
decreases-loop-i work far₀ i₀ i-end far i = length work - i

loop-i-init : tie.Need-loop-i-init invariant-loop-i decreases-loop-i
loop-i-init c = (omega arith, refl)

offset_bounds-work-i : tie.Need-offset_bounds-work-i invariant-loop-i decreases-loop-i
offset_bounds-work-i c = omega arith

bounds-work-i : tie.Need-bounds-work-i invariant-loop-i decreases-loop-i
bounds-work-i c = omega arith

is_far-far-requires : tie.Need-is_far-far-requires invariant-loop-i decreases-loop-i
is_far-far-requires c κs = tt

overflow_step-i : tie.Need-overflow_step-i invariant-loop-i decreases-loop-i
overflow_step-i c = omega arith

loop-i-smaller : tie.Need-loop-i-smaller invariant-loop-i decreases-loop-i
loop-i-smaller c = omega arith

loop-i-preserved : tie.Need-loop-i-preserved invariant-loop-i decreases-loop-i
loop-i-preserved c =
    let loop = c.loop-i in
    (omega arith, far_next loop.far c.args.work.now loop.i loop.invariant.1 (omega arith) c.is_far-far.ensures)

returns : tie.Need-returns invariant-loop-i decreases-loop-i
returns c =
    let loop = c.loop-i in
    let work = c.args.work.now in
    none_far work ∙ ap not (far_end loop.far work loop.i loop.invariant.1 (omega arith))

pub one_is_far_spec : {M : Type 1} → statement M
one_is_far_spec =
    tie.close
    (tie.spec
    invariant-loop-i
    decreases-loop-i
    loop-i-init
    offset_bounds-work-i
    bounds-work-i
    is_far-far-requires
    overflow_step-i
    loop-i-smaller
    loop-i-preserved
    returns)
