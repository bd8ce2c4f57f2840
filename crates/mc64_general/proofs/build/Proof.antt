-- `build` meets its contract. The loop's invariant: the slices hold the columns before c.
use mathlib.Core.Path.{◌≡◌, refl, ◌∙◌, subst}
use Prim.Native.Nat.{ℕ, ◌+◌, ◌-◌, ◌≤◌}
use native.Mathlib.Numerals.{add-one}
use native.Mathlib.Omega.{arith}
use lib.ListN.{length, get_or, length-set}
use Rattle.sparse.proofs.Accepted.{pointer_below}
use Rattle.sparse.specs.Matrix.{matrix}
use Rattle.mc64_columns.specs.inner.Steps.{entry_logs}
use Rattle.mc64_general.specs.inner.Steps.{BuiltTo}
use Rattle.mc64_general.proofs.Copying.{kept_few}
use Rattle.mc64_general.proofs.Building.{kept_below, built_none, built_next, built_last}
use Rattle.mc64_general.proofs.build.Statement.{statement}
use Rattle.mc64_general.proofs.build.Tie as tie

abbrev invariant-loop-c : tie.invariant-loop-c
invariant-loop-c n col_ptr rows values logs words graph_ptr₀ graph_idx₀ cost₀ cmax₀ source next₀ c₀ graph_ptr graph_idx cost cmax next c = (c ≤ n) ×
    (length graph_ptr ≡ length graph_ptr₀) × (length graph_idx ≡ length graph_idx₀) × (length cost ≡ length cost₀) ×
    (length cmax ≡ length cmax₀) × BuiltTo c (matrix n col_ptr rows values) (entry_logs source logs) graph_ptr₀ graph_idx₀ cost₀ cmax₀ graph_ptr graph_idx
    cost cmax next

abbrev decreases-loop-c : tie.decreases-loop-c
decreases-loop-c n col_ptr rows values logs words graph_ptr₀ graph_idx₀ cost₀ cmax₀ source next₀ c₀ graph_ptr graph_idx cost cmax next c = n - c

-- places of the proof, each from a later one
abbrev in-loop-c-of-keep_column-arg-in-loop-c-1 : tie.After-keep_column-arg-in-loop-c-1 invariant-loop-c decreases-loop-c → tie.In-loop-c invariant-loop-c decreases-loop-c
in-loop-c-of-keep_column-arg-in-loop-c-1 c = c.before.before.before.before

abbrev loop-c-of-keep_column-arg-in-loop-c-1 : tie.After-keep_column-arg-in-loop-c-1 invariant-loop-c decreases-loop-c → tie.At-loop-c invariant-loop-c decreases-loop-c
loop-c-of-keep_column-arg-in-loop-c-1 c = c.before.before.before.before.before

abbrev in-loop-c-of-keep_column-kept : tie.After-keep_column-kept invariant-loop-c decreases-loop-c → tie.In-loop-c invariant-loop-c decreases-loop-c
in-loop-c-of-keep_column-kept c = c.before.before.before.before.before

abbrev loop-c-of-keep_column-kept : tie.After-keep_column-kept invariant-loop-c decreases-loop-c → tie.At-loop-c invariant-loop-c decreases-loop-c
loop-c-of-keep_column-kept c = c.before.before.before.before.before.before

abbrev keep_column-kept-of-slice_known-in-loop-c-2-1 : tie.After-slice_known-in-loop-c-2-1 invariant-loop-c decreases-loop-c → tie.After-keep_column-kept invariant-loop-c decreases-loop-c
keep_column-kept-of-slice_known-in-loop-c-2-1 c = c.before.before.before.before

abbrev loop-c-of-slice_known-in-loop-c-3-1 : tie.After-slice_known-in-loop-c-3-1 invariant-loop-c decreases-loop-c → tie.At-loop-c invariant-loop-c decreases-loop-c
loop-c-of-slice_known-in-loop-c-3-1 c = c.before.before.before.before.before.before.before.before.before.before.before.before.before.before

-- the next entry goes no further than the column's first place
next_below : (c : tie.At-loop-c invariant-loop-c decreases-loop-c) → let a = c.args in let l = c.loop-c in
    (l.next ≤ get_or a.col_ptr.now l.c 0) × (get_or a.col_ptr.now l.c 0 ≤ length a.row_idx.now) × (length a.row_idx.now ≤ 262144)
    × (a.n ≤ 4096)
next_below c =
    let l = c.loop-c in
    let a = c.requires.0 in
    let m = matrix c.args.n c.args.col_ptr.now c.args.row_idx.now c.args.values.now in (
      omega (arith, l.invariant.5.count, kept_below m a.pointers l.c l.invariant.0),
      pointer_below a.pointers l.c l.invariant.0,
      a.sizes.entries,
      a.sizes.columns,
    )

-- the pointers of column c
pointers : (c : tie.In-loop-c invariant-loop-c decreases-loop-c) → let a = c.args in let l = c.loop-c in
    (get_or a.col_ptr.now l.c 0 ≤ get_or a.col_ptr.now (l.c + 1) 0) × (get_or a.col_ptr.now (l.c + 1) 0 ≤ length a.row_idx.now)
pointers c =
    let a = c.requires.0 in
    let l = c.loop-c in
    rw (add-one l.c) (a.pointers.rises l.c c.loop-c-test.true, pointer_below a.pointers _ c.loop-c-test.true)

loop-c-init : tie.Need-loop-c-init invariant-loop-c decreases-loop-c
loop-c-init c =
    let args = c.args in (
      omega arith,
      refl,
      refl,
      refl,
      refl,
      built_none (matrix args.n args.col_ptr.now args.row_idx.now args.values.now)
          (entry_logs args.source args.logs.now) args.graph_ptr.now args.graph_rows.now args.cost.now args.cmax.now,
    )

overflow_cast-graph_ptr : tie.Need-overflow_cast-graph_ptr invariant-loop-c decreases-loop-c
overflow_cast-graph_ptr c = omega (arith, next_below c.before)

offset_bounds-graph_ptr-c : tie.Need-offset_bounds-graph_ptr-c invariant-loop-c decreases-loop-c
offset_bounds-graph_ptr-c c = omega (arith, c.loop-c-test.true, next_below c.before)

bounds-graph_ptr-c : tie.Need-bounds-graph_ptr-c invariant-loop-c decreases-loop-c
bounds-graph_ptr-c c = omega (arith, c.loop-c-test.true, c.loop-c.invariant.1, c.requires.1.0.pointer_room)

offset_bounds-col_ptr-c : tie.Need-offset_bounds-col_ptr-c invariant-loop-c decreases-loop-c
offset_bounds-col_ptr-c c = omega (arith, c.loop-c-test.true, next_below c.before)

bounds-col_ptr-c : tie.Need-bounds-col_ptr-c invariant-loop-c decreases-loop-c
bounds-col_ptr-c c = omega (arith, c.loop-c-test.true, c.requires.0.sizes.colptrs)

overflow_cast-from : tie.Need-overflow_cast-from invariant-loop-c decreases-loop-c
overflow_cast-from c = omega (arith, next_below c.before.before)

overflow_add-to : tie.Need-overflow_add-to invariant-loop-c decreases-loop-c
overflow_add-to c = omega (arith, c.loop-c-test.true, next_below c.before.before)

offset_bounds-col_ptr-c-in-loop-c : tie.Need-offset_bounds-col_ptr-c-in-loop-c invariant-loop-c decreases-loop-c
offset_bounds-col_ptr-c-in-loop-c c = omega (arith, c.loop-c-test.true, next_below c.before.before)

bounds-col_ptr-c-in-loop-c : tie.Need-bounds-col_ptr-c-in-loop-c invariant-loop-c decreases-loop-c
bounds-col_ptr-c-in-loop-c c = omega (arith, c.loop-c-test.true, c.requires.0.sizes.colptrs)

overflow_cast-to : tie.Need-overflow_cast-to invariant-loop-c decreases-loop-c
overflow_cast-to c = omega (arith, pointers c.before.before, next_below c.before.before.before)

keep_column-kept-requires : tie.Need-keep_column-kept-requires invariant-loop-c decreases-loop-c
keep_column-kept-requires c κs =
    let pre = c.requires in (
      ((pointers (in-loop-c-of-keep_column-arg-in-loop-c-1 c)).0, (pointers (in-loop-c-of-keep_column-arg-in-loop-c-1 c)).1, (next_below ((loop-c-of-keep_column-arg-in-loop-c-1 c))).0),
      ((pre.0.sizes.stored, pre.0.logged), ((c.loop-c.invariant.2 ∙ pre.1.0.row_room, c.loop-c.invariant.3 ∙ pre.1.0.cost_room), pre.1.1)),
    )

-- the column's stretch lies in the buffer
stretch-fits : (c : tie.After-keep_column-kept invariant-loop-c decreases-loop-c) → let a = c.args in
    let next = c.keep_column-kept.result.next in
    (c.loop-c.next ≤ next) × (next ≤ length a.cost.now) × (length a.cost.now ≤ 262144)
stretch-fits c =
    let from = get_or c.args.col_ptr.now c.loop-c.c 0 in
    let few = kept_few c.args.values.now from (get_or c.args.col_ptr.now (c.loop-c.c + 1) 0 - from) in (
      omega (arith, c.keep_column-kept.ensures.count),
      omega (arith, c.keep_column-kept.ensures.count, few, pointers (in-loop-c-of-keep_column-kept c), next_below (loop-c-of-keep_column-kept c), c.requires.1.0.cost_room),
      omega (arith, next_below (loop-c-of-keep_column-kept c), c.requires.1.0.cost_room),
    )

offset_bounds-cost-next : tie.Need-offset_bounds-cost-next invariant-loop-c decreases-loop-c
offset_bounds-cost-next c = omega (arith, stretch-fits (keep_column-kept-of-slice_known-in-loop-c-2-1 c))

slice_bounds-subtract-count : tie.Need-slice_bounds-subtract-count invariant-loop-c decreases-loop-c
slice_bounds-subtract-count c = omega (arith, stretch-fits (keep_column-kept-of-slice_known-in-loop-c-2-1 c))

slice_bounds-subtract-start : tie.Need-slice_bounds-subtract-start invariant-loop-c decreases-loop-c
slice_bounds-subtract-start c = omega (arith, stretch-fits (keep_column-kept-of-slice_known-in-loop-c-2-1 c))

slice_bounds-subtract-end : tie.Need-slice_bounds-subtract-end invariant-loop-c decreases-loop-c
slice_bounds-subtract-end c =
    omega (arith, stretch-fits (keep_column-kept-of-slice_known-in-loop-c-2-1 c), c.keep_column-kept.auto.cost, c.loop-c.invariant.3)

subtract-requires : tie.Need-subtract-requires invariant-loop-c decreases-loop-c
subtract-requires c κs = tt

offset_bounds-cmax-c : tie.Need-offset_bounds-cmax-c invariant-loop-c decreases-loop-c
offset_bounds-cmax-c c = omega (arith, c.loop-c-test.true, next_below (loop-c-of-slice_known-in-loop-c-3-1 c))

bounds-cmax-c : tie.Need-bounds-cmax-c invariant-loop-c decreases-loop-c
bounds-cmax-c c =
    omega (arith, c.loop-c-test.true, c.loop-c.invariant.4, c.requires.1.0.cmax_room)

overflow_step-c : tie.Need-overflow_step-c invariant-loop-c decreases-loop-c
overflow_step-c c = omega (arith, c.loop-c-test.true, next_below (loop-c-of-slice_known-in-loop-c-3-1 c))

loop-c-smaller : tie.Need-loop-c-smaller invariant-loop-c decreases-loop-c
loop-c-smaller c = omega (arith, c.loop-c-test.true, next_below (loop-c-of-slice_known-in-loop-c-3-1 c))

loop-c-preserved : tie.Need-loop-c-preserved invariant-loop-c decreases-loop-c
loop-c-preserved c =
    let args = c.args in
    let pre = c.requires in (
      omega (arith, c.loop-c-test.true),
      simp length-set c.loop-c.invariant.1,
      c.keep_column-kept.auto.graph_rows ∙ c.loop-c.invariant.2,
      c.cost-in-loop-c-1.given.1 ∙ c.keep_column-kept.auto.cost ∙
          c.loop-c.invariant.3,
      simp length-set c.loop-c.invariant.4,
      built_next
          (matrix args.n args.col_ptr.now args.row_idx.now args.values.now) (entry_logs args.source args.logs.now) args.graph_ptr.now
          args.graph_rows.now args.cost.now args.cmax.now c.loop-c.invariant.5
          (omega (arith, c.loop-c-test.true, pre.1.0.pointer_room))
          (omega (arith, c.loop-c-test.true, pre.1.0.cmax_room)) c.keep_column-kept.ensures
          c.subtract.ensures,
    )

overflow_cast-graph_ptr-2 : tie.Need-overflow_cast-graph_ptr-2 invariant-loop-c decreases-loop-c
overflow_cast-graph_ptr-2 c = omega (arith, next_below c.before)

offset_bounds-graph_ptr-n : tie.Need-offset_bounds-graph_ptr-n invariant-loop-c decreases-loop-c
offset_bounds-graph_ptr-n c = omega (arith, next_below c.before)

bounds-graph_ptr-n : tie.Need-bounds-graph_ptr-n invariant-loop-c decreases-loop-c
bounds-graph_ptr-n c = omega (arith, c.loop-c.invariant.1, c.requires.1.0.pointer_room)

overflow_cast-result : tie.Need-overflow_cast-result invariant-loop-c decreases-loop-c
overflow_cast-result c = omega (arith, next_below c.before)

shape_of-graph_ptr : tie.Need-shape_of-graph_ptr invariant-loop-c decreases-loop-c
shape_of-graph_ptr c = simp length-set c.loop-c.invariant.1

shape_of-graph_rows : tie.Need-shape_of-graph_rows invariant-loop-c decreases-loop-c
shape_of-graph_rows c = c.loop-c.invariant.2

shape_of-cost : tie.Need-shape_of-cost invariant-loop-c decreases-loop-c
shape_of-cost c = c.loop-c.invariant.3

shape_of-cmax : tie.Need-shape_of-cmax invariant-loop-c decreases-loop-c
shape_of-cmax c = c.loop-c.invariant.4

returns : tie.Need-returns invariant-loop-c decreases-loop-c
returns c = let e : c.loop-c.c ≡ c.args.n
    = omega (arith, c.loop-c.invariant.0, c.loop-c-test.false) in
    built_last (matrix c.args.n c.args.col_ptr.now
    c.args.row_idx.now
    c.args.values.now)
    (entry_logs c.args.source
    c.args.logs.now)
    c.args.graph_ptr.now
    c.args.graph_rows.now
    c.args.cost.now
    c.args.cmax.now
    (subst (λ (i : ℕ). BuiltTo i (matrix c.args.n c.args.col_ptr.now
    c.args.row_idx.now
    c.args.values.now)
    (entry_logs c.args.source
    c.args.logs.now)
    c.args.graph_ptr.now
    c.args.graph_rows.now
    c.args.cost.now
    c.args.cmax.now
    c.loop-c.graph_ptr c.loop-c.graph_rows c.loop-c.cost c.loop-c.cmax
    c.loop-c.next) e c.loop-c.invariant.5) c.requires.1.0.pointer_room
    c.requires.1.0.cmax_room

pub build_spec : {M : Type 1} → statement M
build_spec =
    tie.close
    (tie.spec
    invariant-loop-c
    decreases-loop-c
    loop-c-init
    overflow_cast-graph_ptr
    offset_bounds-graph_ptr-c
    bounds-graph_ptr-c
    offset_bounds-col_ptr-c
    bounds-col_ptr-c
    overflow_cast-from
    overflow_add-to
    offset_bounds-col_ptr-c-in-loop-c
    bounds-col_ptr-c-in-loop-c
    overflow_cast-to
    keep_column-kept-requires
    offset_bounds-cost-next
    slice_bounds-subtract-count
    slice_bounds-subtract-start
    slice_bounds-subtract-end
    subtract-requires
    offset_bounds-cmax-c
    bounds-cmax-c
    overflow_step-c
    loop-c-smaller
    loop-c-preserved
    overflow_cast-graph_ptr-2
    offset_bounds-graph_ptr-n
    bounds-graph_ptr-n
    overflow_cast-result
    shape_of-graph_ptr
    shape_of-graph_rows
    shape_of-cost
    shape_of-cmax
    returns)
