-- `hungarian_search::augment`: the search, its answer and the reset, put together by Augments.
use Rattle.hungarian.specs.Counts.{search_ended}
use Rattle.hungarian_search.proofs.Augments.{apply_asks, ended_room, reset_asks, augment_done}
use Rattle.hungarian_search.proofs.augment.Goals as goal

pub apply_path-num-requires : goal.apply_path-num-requires
apply_path-num-requires c =
    apply_asks _ _ _ _ _ _ _ _ c.requires.fact_1 _ _ _ _ c.search-done.ensures _ c.requires.fact_2
    (rw c.requires.fact_2 (ended_room _ _ _ _ _ _ _ _ c.requires.fact_1 _ _ _ _ c.search-done.ensures).3)

pub reset-requires : goal.reset-requires
reset-requires c =
    reset_asks _ _ _ _ _ _ _ _ c.requires.fact_1 _ _ _ _ c.search-done.ensures _ c.requires.fact_2 _ _ _
    c.apply_path-num.ensures c.apply_path-num.auto.work c.search-done.auto.pos

pub search_ended-requires : goal.search_ended-requires
search_ended-requires c =
    let room = ended_room _ _ _ _ _ _ _ _ c.requires.fact_1 _ _ _ _ c.search-done.ensures in
    (room.0, room.1)

pub rows_popped-popped-requires : goal.rows_popped-popped-requires
unfolding search_ended
rows_popped-popped-requires c =
    rw c.search_ended.ensures (ended_room _ _ _ _ _ _ _ _ c.requires.fact_1 _ _ _ _ c.search-done.ensures).4

pub returns : goal.returns
returns c =
    rw (c.heap_seen.ensures, c.rows_popped-popped.ensures, c.search_ended.ensures)
    (augment_done _ _ _ _ _ _ _ _ c.requires.fact_1 _ _ _ _ c.search-done.ensures _ c.requires.fact_2 _ _ _
    c.apply_path-num.ensures _ _ c.search-done.auto.pos c.reset.ensures)
