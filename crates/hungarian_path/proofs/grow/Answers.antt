-- `hungarian_path::grow`: one more row is popped, and none is nearer at the end, by Growths.
use Rattle.std.proofs.Common.{sym, ◌∙◌, arith}
use Rattle.hungarian_path.proofs.Growths.{test_taken, grow_next, grow_done}
use Rattle.hungarian_path.proofs.grow.Goals as goal

pub extend-search-requires : goal.extend-search-requires
extend-search-requires c =
    test_taken _ _ _ _ _ _ _ _ c.loop-work.invariant.growing (sym c.has_nearer_row.ensures ∙ c.loop-work-test.true)

pub loop-work-smaller : goal.loop-work-smaller
loop-work-smaller c =
    let kept = c.extend-search.auto in
    let next = grow_next _ _ _ _ _ _ _ _ _ _ _ _ _ _ c.loop-work.invariant
    (sym c.has_nearer_row.ensures ∙ c.loop-work-test.true) _ _ _ _ _ _ kept.work kept.pos kept.keys kept.d
    c.extend-search.ensures in
    omega (arith, next.1, next.2)

pub loop-work-preserved : goal.loop-work-preserved
loop-work-preserved c =
    let kept = c.extend-search.auto in
    (grow_next _ _ _ _ _ _ _ _ _ _ _ _ _ _ c.loop-work.invariant
    (sym c.has_nearer_row.ensures ∙ c.loop-work-test.true) _ _ _ _ _ _ kept.work kept.pos kept.keys kept.d
    c.extend-search.ensures).0

pub returns : goal.returns
returns c =
    grow_done _ _ _ _ _ _ _ _ _ _ _ _ _ _ c.loop-work.invariant
    (sym c.has_nearer_row.ensures ∙ c.loop-work-test.false)
