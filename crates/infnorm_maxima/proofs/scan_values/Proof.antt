-- `scan_values` meets its contract. The loop's invariant: the walk of the whole column is the walk from k on, with the column's maximum apart.
use mathlib.Core.Path.{◌≡◌, refl}
use Prim.Native.Nat.{◌≤◌, ◌<◌, ◌-◌}
use native.Mathlib.Nat.{le_trans}
use native.Mathlib.Omega.{arith}
use lib.ListN.{length, get_or, length-set}
use Rattle.infnorm_factors.specs.Maxima.{enter_column}
use Rattle.infnorm_factors.specs.Factors.{own_sizes}
use Rattle.infnorm_maxima.proofs.Walks.{Scanned, scan_start, scan_next, scan_end}
use Rattle.infnorm_maxima.proofs.scan_values.Statement.{statement}
use Rattle.infnorm_maxima.proofs.scan_values.Tie as tie

abbrev invariant-loop-k : tie.invariant-loop-k
invariant-loop-k j from to rows values maxima₀ top₀ k₀ maxima top k =
    (from ≤ k) × (k ≤ to) × (length maxima ≡ length maxima₀) × Scanned (own_sizes values j) rows j
    (enter_column (own_sizes values j) rows j (to - from) from maxima₀) to k maxima top

abbrev decreases-loop-k : tie.decreases-loop-k
decreases-loop-k j from to rows values maxima₀ top₀ k₀ maxima top k = to - k

-- places of the proof, each from a later one
abbrev in-loop-k-of-slice_known-in-loop-k-1 : tie.After-slice_known-in-loop-k-1 invariant-loop-k decreases-loop-k → tie.In-loop-k invariant-loop-k decreases-loop-k
in-loop-k-of-slice_known-in-loop-k-1 c = c.before.before.before.before

abbrev in-loop-k-of-larger : tie.After-larger invariant-loop-k decreases-loop-k → tie.In-loop-k invariant-loop-k decreases-loop-k
in-loop-k-of-larger c = c.before.before.before.before.before

abbrev in-loop-k-of-larger-top : tie.After-larger-top invariant-loop-k decreases-loop-k → tie.In-loop-k invariant-loop-k decreases-loop-k
in-loop-k-of-larger-top c = c.before.before.before.before.before.before

-- place k is stored, and its row has a maximum
facts : (c : tie.In-loop-k invariant-loop-k decreases-loop-k) → (c.loop-k.k < length
    c.args.row_idx.now) ×
    (get_or c.args.row_idx.now c.loop-k.k 0 < length
    c.loop-k.maxima)
facts c =
    let s = c.requires in
    let h : c.loop-k.k < length c.args.row_idx.now = le_trans c.loop-k-test.true s.within in
    (h, rw c.loop-k.invariant.2 (s.inside c.loop-k.k h))

offset_bounds-maxima-j : tie.Need-offset_bounds-maxima-j invariant-loop-k decreases-loop-k
offset_bounds-maxima-j c = omega (arith, c.requires.column)

bounds-maxima-j : tie.Need-bounds-maxima-j invariant-loop-k decreases-loop-k
bounds-maxima-j c = c.requires.column

loop-k-init : tie.Need-loop-k-init invariant-loop-k decreases-loop-k
loop-k-init c = (
  omega arith,
  c.requires.up,
  refl,
  scan_start
      (own_sizes c.args.values.now c.args.j)
      c.args.row_idx.now c.args.j
      c.args.from c.args.to
      c.args.maxima.now,
)

offset_bounds-row_idx-k : tie.Need-offset_bounds-row_idx-k invariant-loop-k decreases-loop-k
offset_bounds-row_idx-k c = omega (arith, facts (c))

bounds-row_idx-k : tie.Need-bounds-row_idx-k invariant-loop-k decreases-loop-k
bounds-row_idx-k c = (facts c.before).0

overflow_cast-i : tie.Need-overflow_cast-i invariant-loop-k decreases-loop-k
overflow_cast-i c = omega (arith, facts c.before, c.requires.stored, c.loop-k.invariant.2)

offset_bounds-values-k : tie.Need-offset_bounds-values-k invariant-loop-k decreases-loop-k
offset_bounds-values-k c = omega (arith, facts c.before, c.requires.stored, c.loop-k.invariant.2)

bounds-values-k : tie.Need-bounds-values-k invariant-loop-k decreases-loop-k
bounds-values-k c = omega (arith, facts c.before.before, c.requires.stored, c.loop-k.invariant.2)

size_of-size-requires : tie.Need-size_of-size-requires invariant-loop-k decreases-loop-k
size_of-size-requires c κs = tt

offset_bounds-maxima-i : tie.Need-offset_bounds-maxima-i invariant-loop-k decreases-loop-k
offset_bounds-maxima-i c = omega (arith, facts c.before.before.before, c.requires.stored, c.loop-k.invariant.2)

bounds-maxima-i : tie.Need-bounds-maxima-i invariant-loop-k decreases-loop-k
bounds-maxima-i c = omega (
  arith,
  facts (in-loop-k-of-slice_known-in-loop-k-1 c),
  c.requires.stored,
  c.loop-k.invariant.2,
)

larger-requires : tie.Need-larger-requires invariant-loop-k decreases-loop-k
larger-requires c κs = tt

offset_bounds-maxima-i-in-loop-k : tie.Need-offset_bounds-maxima-i-in-loop-k invariant-loop-k decreases-loop-k
offset_bounds-maxima-i-in-loop-k c = omega (arith, facts (in-loop-k-of-larger c), c.requires.stored, c.loop-k.invariant.2)

bounds-maxima-i-in-loop-k : tie.Need-bounds-maxima-i-in-loop-k invariant-loop-k decreases-loop-k
bounds-maxima-i-in-loop-k c = omega (arith, facts (in-loop-k-of-larger c), c.requires.stored, c.loop-k.invariant.2)

larger-top-requires : tie.Need-larger-top-requires invariant-loop-k decreases-loop-k
larger-top-requires c κs = tt

overflow_step-k : tie.Need-overflow_step-k invariant-loop-k decreases-loop-k
overflow_step-k c =
    omega (arith, c.loop-k-test.true, facts ((in-loop-k-of-larger-top c)))

loop-k-smaller : tie.Need-loop-k-smaller invariant-loop-k decreases-loop-k
loop-k-smaller c = omega (arith, c.loop-k-test.true)

loop-k-preserved : tie.Need-loop-k-preserved invariant-loop-k decreases-loop-k
loop-k-preserved c =
    let args = c.args in (
      omega arith,
      omega (arith, c.loop-k-test.true),
      simp length-set c.loop-k.invariant.2,
      scan_next
          (own_sizes args.values.now args.j) args.row_idx.now args.j args.to c.loop-k.k c.loop-k.maxima
          c.loop-k.top c.loop-k.invariant.3 c.loop-k-test.true (facts ((in-loop-k-of-larger-top c))).1
          (omega (arith, c.loop-k.invariant.2, c.requires.column))
          c.size_of-size.ensures c.larger.ensures c.larger-top.ensures,
    )

offset_bounds-maxima-j-2 : tie.Need-offset_bounds-maxima-j-2 invariant-loop-k decreases-loop-k
offset_bounds-maxima-j-2 c = omega (arith, c.requires.column)

bounds-maxima-j-2 : tie.Need-bounds-maxima-j-2 invariant-loop-k decreases-loop-k
bounds-maxima-j-2 c = omega (arith, c.loop-k.invariant.2, c.requires.column)

shape_of-maxima : tie.Need-shape_of-maxima invariant-loop-k decreases-loop-k
shape_of-maxima c = simp length-set c.loop-k.invariant.2

returns : tie.Need-returns invariant-loop-k decreases-loop-k
returns c =
    let args = c.args in
    scan_end (own_sizes args.values.now args.j) args.row_idx.now args.j args.to c.loop-k.k c.loop-k.maxima
    c.loop-k.top c.loop-k.invariant.3 (omega arith)

pub scan_values_spec : {M : Type 1} → statement M
scan_values_spec =
    tie.close
    (tie.spec
    invariant-loop-k
    decreases-loop-k
    offset_bounds-maxima-j
    bounds-maxima-j
    loop-k-init
    offset_bounds-row_idx-k
    bounds-row_idx-k
    overflow_cast-i
    offset_bounds-values-k
    bounds-values-k
    size_of-size-requires
    offset_bounds-maxima-i
    bounds-maxima-i
    larger-requires
    offset_bounds-maxima-i-in-loop-k
    bounds-maxima-i-in-loop-k
    larger-top-requires
    overflow_step-k
    loop-k-smaller
    loop-k-preserved
    offset_bounds-maxima-j-2
    bounds-maxima-j-2
    shape_of-maxima
    returns)
