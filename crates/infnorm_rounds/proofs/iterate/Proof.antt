-- `iterate` meets its contract. The loop's invariant: all rounds are the rounds from here on.
use mathlib.Core.Path.{ap}
use mathlib.Core.Bool.{not}
use mathlib.Core.Path.{◌≡◌, refl, sym, ◌∙◌}
use Prim.Native.Nat.{◌≤◌, ◌-◌}
use native.Mathlib.Omega.{arith}
use lib.ListN.{length}
use Rattle.sparse.specs.Matrix.{matrix}
use Rattle.infnorm_factors.specs.Factors.{rounds}
use Rattle.infnorm_rounds.proofs.Rounds.{round_last, round_next, rounds_end}
use Rattle.infnorm_rounds.proofs.iterate.Statement.{statement}
use Rattle.infnorm_rounds.proofs.iterate.Tie as tie

abbrev invariant-loop-done : tie.invariant-loop-done
invariant-loop-done n col_ptr rows values factors₀ work₀ done₀ factors work done =
    (done ≤ 10) × (length factors ≡ n) × (length work ≡ n)
    × (rounds 10 (matrix n col_ptr rows values) factors₀ ≡ rounds (10 - done) (matrix n col_ptr rows values) factors)

abbrev decreases-loop-done : tie.decreases-loop-done
decreases-loop-done n col_ptr rows values factors₀ work₀ done₀ factors work done = 10 - done

loop-done-init : tie.Need-loop-done-init invariant-loop-done decreases-loop-done
loop-done-init c = (omega arith, c.requires.1.0, c.requires.1.1, refl)

one_round-far-requires : tie.Need-one_round-far-requires invariant-loop-done decreases-loop-done
one_round-far-requires c κs =
    (c.requires.0, (c.loop-done.invariant.1, c.loop-done.invariant.2))

shape_of-factors-then-not-far : tie.Need-shape_of-factors-then-not-far invariant-loop-done decreases-loop-done
shape_of-factors-then-not-far c = c.one_round-far.auto.factors ∙
    c.loop-done.invariant.1 ∙ sym
    c.requires.1.0

shape_of-work-then-not-far : tie.Need-shape_of-work-then-not-far invariant-loop-done decreases-loop-done
shape_of-work-then-not-far c = c.one_round-far.auto.work ∙
    c.loop-done.invariant.2 ∙ sym
    c.requires.1.1

returns-then-not-far : tie.Need-returns-then-not-far invariant-loop-done decreases-loop-done
returns-then-not-far c =
    let args = c.args in
    round_last (matrix args.n args.col_ptr.now args.row_idx.now args.values.now) 10 c.loop-done.done c.loop-done.factors
    c.loop-done.invariant.3 c.loop-done-test.true
    c.one_round-far.ensures.0 c.one_round-far.ensures.1 (ap not c.if-not-far.true)

overflow_add-done : tie.Need-overflow_add-done invariant-loop-done decreases-loop-done
overflow_add-done c = omega (arith, c.loop-done-test.true)

loop-done-smaller : tie.Need-loop-done-smaller invariant-loop-done decreases-loop-done
loop-done-smaller c = omega (arith, c.loop-done-test.true)

loop-done-preserved : tie.Need-loop-done-preserved invariant-loop-done decreases-loop-done
loop-done-preserved c =
    let args = c.args in (
      omega (arith, c.loop-done-test.true),
      c.one_round-far.auto.factors ∙
          c.loop-done.invariant.1,
      c.one_round-far.auto.work ∙ c.loop-done.invariant.2,
      round_next (matrix args.n args.col_ptr.now args.row_idx.now args.values.now) 10 c.loop-done.done
          c.loop-done.factors c.loop-done.invariant.3 c.loop-done-test.true
          c.one_round-far.ensures.0 c.one_round-far.ensures.1 (ap not c.if-not-far.false),
    )

shape_of-factors : tie.Need-shape_of-factors invariant-loop-done decreases-loop-done
shape_of-factors c = c.loop-done.invariant.1 ∙ sym c.requires.1.0

shape_of-work : tie.Need-shape_of-work invariant-loop-done decreases-loop-done
shape_of-work c = c.loop-done.invariant.2 ∙ sym c.requires.1.1

returns : tie.Need-returns invariant-loop-done decreases-loop-done
returns c =
    let args = c.args in
    rounds_end (matrix args.n args.col_ptr.now args.row_idx.now args.values.now) 10 c.loop-done.done c.loop-done.factors
    c.loop-done.invariant.3 (omega arith)

pub iterate_spec : {M : Type 1} → statement M
iterate_spec =
    tie.close
    (tie.spec
    invariant-loop-done
    decreases-loop-done
    loop-done-init
    one_round-far-requires
    shape_of-factors-then-not-far
    shape_of-work-then-not-far
    returns-then-not-far
    overflow_add-done
    loop-done-smaller
    loop-done-preserved
    shape_of-factors
    shape_of-work
    returns)
