-- `row_maxima` meets its contract. The loop's invariant: the walk over all columns is the walk from column j on.
use Rattle.std.proofs.Common.{rules}
use mathlib.Core.Path.{◌≡◌, ap, ◌∙◌}
use Prim.Native.Nat.{ℕ, ◌≤◌, ◌-◌}
use native.Mathlib.Omega.{arith}
use lib.ListN.{length, replicate}
use Rattle.float64.specs.Constants as Constants
use Rattle.sparse.specs.Matrix.{matrix}
use Rattle.infnorm_factors.specs.Maxima.{row_maxima}
use Rattle.infnorm_factors.specs.Factors.{scaled_sizes}
use Rattle.infnorm_maxima.proofs.Walks.{Walked, maxima_start, walk_next, walk_end, column_stretch, pointers_fit}
use Rattle.infnorm_maxima.proofs.row_maxima.Statement.{statement}
use Rattle.infnorm_maxima.proofs.row_maxima.Tie as tie

abbrev invariant-loop-j : tie.invariant-loop-j
invariant-loop-j n col_ptr rows values factors work₀ j₀ work j =
    (j ≤ n) × (length work ≡ n) × Walked (scaled_sizes rows values factors) (matrix n col_ptr rows values)
    (row_maxima (scaled_sizes rows values factors) (matrix n col_ptr rows values)) n j work

abbrev decreases-loop-j : tie.decreases-loop-j
decreases-loop-j n col_ptr rows values factors work₀ j₀ work j = n - j

fill-requires : tie.Need-fill-requires invariant-loop-j decreases-loop-j
fill-requires c κs = search rules

loop-j-init : tie.Need-loop-j-init invariant-loop-j decreases-loop-j
loop-j-init c =
    let args = c.args in
    let pre = c.requires in (
      omega arith,
      c.fill.auto.list ∙ pre.1.1,
      maxima_start
          (scaled_sizes args.row_idx.now args.values.now args.factors.now)
          (matrix args.n args.col_ptr.now args.row_idx.now args.values.now)
          (c.fill.ensures ∙ ap (λ (k : ℕ). replicate k Constants.zero) pre.1.1),
    )

offset_bounds-col_ptr-j : tie.Need-offset_bounds-col_ptr-j invariant-loop-j decreases-loop-j
offset_bounds-col_ptr-j c =
    let args = c.args in
    omega (
      arith,
      pointers_fit c.loop-j.j (matrix args.n args.col_ptr.now args.row_idx.now args.values.now)
          c.requires.0 c.loop-j-test.true,
    )

bounds-col_ptr-j : tie.Need-bounds-col_ptr-j invariant-loop-j decreases-loop-j
bounds-col_ptr-j c =
    let args = c.args in
    omega (
      arith,
      pointers_fit c.loop-j.j (matrix args.n args.col_ptr.now args.row_idx.now args.values.now)
          c.requires.0 c.loop-j-test.true,
    )

overflow_cast-from : tie.Need-overflow_cast-from invariant-loop-j decreases-loop-j
overflow_cast-from c =
    let args = c.args in
    omega (
      arith,
      pointers_fit c.loop-j.j (matrix args.n args.col_ptr.now args.row_idx.now args.values.now)
          c.requires.0 c.loop-j-test.true,
    )

overflow_add-to : tie.Need-overflow_add-to invariant-loop-j decreases-loop-j
overflow_add-to c =
    let args = c.args in
    omega (
      arith,
      pointers_fit c.loop-j.j (matrix args.n args.col_ptr.now args.row_idx.now args.values.now)
          c.requires.0 c.loop-j-test.true,
    )

offset_bounds-col_ptr-j-in-loop-j : tie.Need-offset_bounds-col_ptr-j-in-loop-j invariant-loop-j decreases-loop-j
offset_bounds-col_ptr-j-in-loop-j c =
    let args = c.args in
    omega (
      arith,
      pointers_fit c.loop-j.j (matrix args.n args.col_ptr.now args.row_idx.now args.values.now)
          c.requires.0 c.loop-j-test.true,
    )

bounds-col_ptr-j-in-loop-j : tie.Need-bounds-col_ptr-j-in-loop-j invariant-loop-j decreases-loop-j
bounds-col_ptr-j-in-loop-j c =
    let args = c.args in
    omega (
      arith,
      pointers_fit c.loop-j.j
          (matrix args.n args.col_ptr.now args.row_idx.now args.values.now) c.requires.0
          c.loop-j-test.true,
    )

overflow_cast-to : tie.Need-overflow_cast-to invariant-loop-j decreases-loop-j
overflow_cast-to c =
    let args = c.args in
    omega (
      arith,
      pointers_fit c.loop-j.j
          (matrix args.n args.col_ptr.now args.row_idx.now args.values.now) c.requires.0
          c.loop-j-test.true,
    )

scan_column-requires : tie.Need-scan_column-requires invariant-loop-j decreases-loop-j
scan_column-requires c κs =
    let args = c.args in
    let pre = c.requires in (
      column_stretch c.loop-j.j (length c.loop-j.work)
          (matrix args.n args.col_ptr.now args.row_idx.now args.values.now) pre.0 c.loop-j.invariant.1
          c.loop-j-test.true,
      omega (arith, pre.1.0, c.loop-j.invariant.1),
    )

overflow_step-j : tie.Need-overflow_step-j invariant-loop-j decreases-loop-j
overflow_step-j c = omega (arith, c.loop-j-test.true)

loop-j-smaller : tie.Need-loop-j-smaller invariant-loop-j decreases-loop-j
loop-j-smaller c = omega (arith, c.loop-j-test.true)

loop-j-preserved : tie.Need-loop-j-preserved invariant-loop-j decreases-loop-j
loop-j-preserved c =
    let args = c.args in (
      omega (arith, c.loop-j-test.true),
      c.scan_column.auto.work ∙ c.loop-j.invariant.1,
      walk_next
          (scaled_sizes args.row_idx.now args.values.now args.factors.now)
          (matrix args.n args.col_ptr.now args.row_idx.now args.values.now) args.n c.loop-j.j c.loop-j.work
          c.loop-j.invariant.2 c.loop-j-test.true
          c.scan_column.ensures,
    )

shape_of-work : tie.Need-shape_of-work invariant-loop-j decreases-loop-j
shape_of-work c = omega (arith, c.loop-j.invariant.1, c.requires.1.1)

returns : tie.Need-returns invariant-loop-j decreases-loop-j
returns c =
    let args = c.args in
    walk_end (scaled_sizes args.row_idx.now args.values.now args.factors.now)
    (matrix args.n args.col_ptr.now args.row_idx.now args.values.now) args.n c.loop-j.j
    c.loop-j.work c.loop-j.invariant.2 (omega arith)

pub row_maxima_spec : {M : Type 1} → statement M
row_maxima_spec =
    tie.close
    (tie.spec
    invariant-loop-j
    decreases-loop-j
    fill-requires
    loop-j-init
    offset_bounds-col_ptr-j
    bounds-col_ptr-j
    overflow_cast-from
    overflow_add-to
    offset_bounds-col_ptr-j-in-loop-j
    bounds-col_ptr-j-in-loop-j
    overflow_cast-to
    scan_column-requires
    overflow_step-j
    loop-j-smaller
    loop-j-preserved
    shape_of-work
    returns)
