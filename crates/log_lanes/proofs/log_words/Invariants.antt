-- The values before those that the iterator has left have their words.
use Rattle.std.proofs.Common.{◌≡◌}
use Rattle.std.specs.Slice.Iter.{chunks_rest, chunks_size}
use Rattle.log_lanes.proofs.Lanes.{Going}
use Rattle.log_lanes.proofs.log_words.Given as goal

abbrev pub invariant-loop-block : goal.invariant-loop-block
invariant-loop-block l =
    goal.iterator-loop-block.can_next l.block-iterator
    × goal.iterator-loop-block.is_finite l.block-iterator
    × (chunks_size l.block-iterator ≡ 16)
    × Going l.values l.at l.place (chunks_rest l.block-iterator) l.initial.words l.words
