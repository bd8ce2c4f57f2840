-- `scan_column` meets its contract. The loop's invariant: the walk of the whole column is the walk from k on, with the column's maximum apart.
use mathlib.Core.Path.{◌≡◌, refl}
use Prim.Native.Nat.{◌≤◌, ◌<◌, ◌-◌}
use native.Mathlib.Nat.{le_trans}
use native.Mathlib.Omega.{arith}
use lib.ListN.{length, get_or, length-set}
use Rattle.infnorm_factors.specs.Maxima.{enter_column}
use Rattle.infnorm_factors.specs.Factors.{scaled_sizes}
use Rattle.infnorm_maxima.proofs.Walks.{Scanned, scan_start, scan_next, scan_end}
use Rattle.infnorm_maxima.proofs.scan_column.Statement.{statement}
use Rattle.infnorm_maxima.proofs.scan_column.Tie as tie

abbrev invariant-loop-k : tie.invariant-loop-k
invariant-loop-k j from to rows values factors work₀ dj top₀ k₀ work top k = (from ≤ k) × (k ≤ to) × (length work ≡ length work₀) × Scanned
    (scaled_sizes rows values factors j) rows j (enter_column (scaled_sizes rows values factors j) rows j (to - from) from work₀) to k
    work top

abbrev decreases-loop-k : tie.decreases-loop-k
decreases-loop-k j from to rows values factors work₀ dj top₀ k₀ work top k = to - k

-- places of the proof, each from a later one
abbrev in-loop-k-of-scaled_size-size : tie.After-scaled_size-size invariant-loop-k decreases-loop-k → tie.In-loop-k invariant-loop-k decreases-loop-k
in-loop-k-of-scaled_size-size c = c.before.before.before.before

abbrev in-loop-k-of-slice_known-in-loop-k-1 : tie.After-slice_known-in-loop-k-1 invariant-loop-k decreases-loop-k → tie.In-loop-k invariant-loop-k decreases-loop-k
in-loop-k-of-slice_known-in-loop-k-1 c = c.before.before.before.before.before

abbrev in-loop-k-of-larger : tie.After-larger invariant-loop-k decreases-loop-k → tie.In-loop-k invariant-loop-k decreases-loop-k
in-loop-k-of-larger c = c.before.before.before.before.before.before

abbrev in-loop-k-of-larger-top : tie.After-larger-top invariant-loop-k decreases-loop-k → tie.In-loop-k invariant-loop-k decreases-loop-k
in-loop-k-of-larger-top c = c.before.before.before.before.before.before.before

-- place k is stored, and its row has a maximum
facts : (c : tie.In-loop-k invariant-loop-k decreases-loop-k) → (c.loop-k.k < length
    c.args.row_idx.now) ×
    (get_or c.args.row_idx.now c.loop-k.k 0 < length
    c.loop-k.work)
facts c =
    let s = c.requires.0 in
    let h : c.loop-k.k < length c.args.row_idx.now = le_trans c.loop-k-test.true s.within in
    (h, rw c.loop-k.invariant.2 (s.inside c.loop-k.k h))

offset_bounds-factors-j : tie.Need-offset_bounds-factors-j invariant-loop-k decreases-loop-k
offset_bounds-factors-j c = omega (arith, c.requires.0.column, c.requires.1)

bounds-factors-j : tie.Need-bounds-factors-j invariant-loop-k decreases-loop-k
bounds-factors-j c = omega (arith, c.requires.0.column, c.requires.1)

offset_bounds-work-j : tie.Need-offset_bounds-work-j invariant-loop-k decreases-loop-k
offset_bounds-work-j c = omega (arith, c.requires.0.column)

bounds-work-j : tie.Need-bounds-work-j invariant-loop-k decreases-loop-k
bounds-work-j c = c.requires.0.column

loop-k-init : tie.Need-loop-k-init invariant-loop-k decreases-loop-k
loop-k-init c = (
  omega arith,
  c.requires.0.up,
  refl,
  scan_start
      (scaled_sizes c.args.row_idx.now
      c.args.values.now
      c.args.factors.now
      c.args.j) c.args.row_idx.now
      c.args.j c.args.from
      c.args.to c.args.work.now,
)

offset_bounds-row_idx-k : tie.Need-offset_bounds-row_idx-k invariant-loop-k decreases-loop-k
offset_bounds-row_idx-k c = omega (arith, facts (c))

bounds-row_idx-k : tie.Need-bounds-row_idx-k invariant-loop-k decreases-loop-k
bounds-row_idx-k c = (facts c.before).0

overflow_cast-i : tie.Need-overflow_cast-i invariant-loop-k decreases-loop-k
overflow_cast-i c =
    let pre = c.requires in
    omega (arith, facts c.before, pre.0.stored, pre.1, c.loop-k.invariant.2)

offset_bounds-factors-i : tie.Need-offset_bounds-factors-i invariant-loop-k decreases-loop-k
offset_bounds-factors-i c =
    let pre = c.requires in
    omega (arith, facts c.before, pre.0.stored, pre.1, c.loop-k.invariant.2)

bounds-factors-i : tie.Need-bounds-factors-i invariant-loop-k decreases-loop-k
bounds-factors-i c =
    let pre = c.requires in
    omega (arith, facts c.before.before, pre.0.stored, pre.1, c.loop-k.invariant.2)

offset_bounds-values-k : tie.Need-offset_bounds-values-k invariant-loop-k decreases-loop-k
offset_bounds-values-k c =
    let pre = c.requires in
    omega (arith, facts c.before.before, pre.0.stored, pre.1, c.loop-k.invariant.2)

bounds-values-k : tie.Need-bounds-values-k invariant-loop-k decreases-loop-k
bounds-values-k c =
    let pre = c.requires in
    omega (arith, facts c.before.before.before, pre.0.stored, pre.1, c.loop-k.invariant.2)

scaled_size-size-requires : tie.Need-scaled_size-size-requires invariant-loop-k decreases-loop-k
scaled_size-size-requires c κs = tt

offset_bounds-work-i : tie.Need-offset_bounds-work-i invariant-loop-k decreases-loop-k
offset_bounds-work-i c =
    let pre = c.requires in
    omega (arith, facts (in-loop-k-of-scaled_size-size c), pre.0.stored, pre.1, c.loop-k.invariant.2)

bounds-work-i : tie.Need-bounds-work-i invariant-loop-k decreases-loop-k
bounds-work-i c =
    let pre = c.requires in
    omega (arith, facts (in-loop-k-of-slice_known-in-loop-k-1 c), pre.0.stored, pre.1, c.loop-k.invariant.2)

larger-requires : tie.Need-larger-requires invariant-loop-k decreases-loop-k
larger-requires c κs = tt

offset_bounds-work-i-in-loop-k : tie.Need-offset_bounds-work-i-in-loop-k invariant-loop-k decreases-loop-k
offset_bounds-work-i-in-loop-k c =
    let pre = c.requires in
    omega (arith, facts (in-loop-k-of-larger c), pre.0.stored, pre.1, c.loop-k.invariant.2)

bounds-work-i-in-loop-k : tie.Need-bounds-work-i-in-loop-k invariant-loop-k decreases-loop-k
bounds-work-i-in-loop-k c =
    let pre = c.requires in
    omega (arith, facts (in-loop-k-of-larger c), pre.0.stored, pre.1, c.loop-k.invariant.2)

larger-top-requires : tie.Need-larger-top-requires invariant-loop-k decreases-loop-k
larger-top-requires c κs = tt

overflow_step-k : tie.Need-overflow_step-k invariant-loop-k decreases-loop-k
overflow_step-k c =
    omega (arith, c.loop-k-test.true, facts ((in-loop-k-of-larger-top c)))

loop-k-smaller : tie.Need-loop-k-smaller invariant-loop-k decreases-loop-k
loop-k-smaller c = omega (arith, c.loop-k-test.true)

loop-k-preserved : tie.Need-loop-k-preserved invariant-loop-k decreases-loop-k
loop-k-preserved c =
    let args = c.args in (
      omega arith,
      omega (arith, c.loop-k-test.true),
      simp length-set c.loop-k.invariant.2,
      scan_next
          (scaled_sizes args.row_idx.now args.values.now args.factors.now args.j) args.row_idx.now args.j
          args.to c.loop-k.k c.loop-k.work c.loop-k.top c.loop-k.invariant.3 c.loop-k-test.true
          (facts ((in-loop-k-of-larger-top c))).1 (omega (
            arith,
            c.loop-k.invariant.2,
            c.requires.0.column,
          )) c.scaled_size-size.ensures
          c.larger.ensures c.larger-top.ensures,
    )

offset_bounds-work-j-2 : tie.Need-offset_bounds-work-j-2 invariant-loop-k decreases-loop-k
offset_bounds-work-j-2 c = omega (arith, c.requires.0.column)

bounds-work-j-2 : tie.Need-bounds-work-j-2 invariant-loop-k decreases-loop-k
bounds-work-j-2 c = omega (arith, c.loop-k.invariant.2, c.requires.0.column)

shape_of-work : tie.Need-shape_of-work invariant-loop-k decreases-loop-k
shape_of-work c = simp length-set c.loop-k.invariant.2

returns : tie.Need-returns invariant-loop-k decreases-loop-k
returns c =
    let args = c.args in
    scan_end (scaled_sizes args.row_idx.now args.values.now args.factors.now args.j) args.row_idx.now args.j
    args.to c.loop-k.k c.loop-k.work c.loop-k.top c.loop-k.invariant.3 (omega arith)

pub scan_column_spec : {M : Type 1} → statement M
scan_column_spec =
    tie.close
    (tie.spec
    invariant-loop-k
    decreases-loop-k
    offset_bounds-factors-j
    bounds-factors-j
    offset_bounds-work-j
    bounds-work-j
    loop-k-init
    offset_bounds-row_idx-k
    bounds-row_idx-k
    overflow_cast-i
    offset_bounds-factors-i
    bounds-factors-i
    offset_bounds-values-k
    bounds-values-k
    scaled_size-size-requires
    offset_bounds-work-i
    bounds-work-i
    larger-requires
    offset_bounds-work-i-in-loop-k
    bounds-work-i-in-loop-k
    larger-top-requires
    overflow_step-k
    loop-k-smaller
    loop-k-preserved
    offset_bounds-work-j-2
    bounds-work-j-2
    shape_of-work
    returns)
