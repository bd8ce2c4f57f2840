-- The parts of the local arrays that were read hold the graph that the bytes stand for.
use Rattle.std.proofs.Common.{◌+◌, length, arith}
use Rattle.byte_numbers.specs.Bytes.{words, doubles}
use Rattle.hungarian_match.proofs.LocalArrays.{part_again, part_holds}
use Rattle.byte_forms.specs.MatchBytes.{word_count, graph_bytes, match_bytes}
use Rattle.byte_forms.proofs.ByteMatches.{small, result_read}
use Rattle.byte_forms.proofs.match_bytes.read_and_match.Goals as goal

pub match_small-requires-clause-small : goal.match_small-requires-clause-small
match_small-requires-clause-small c =
    let a = c.args in
    let sized = c.requires.sized in
    let entries = word_count (length a.row_idx.now) in
    small entries sized.columns
    (part_again (a.n + 1) 257 _ c.read_all.new.out (omega (arith, sized.columns)) c.read_all.auto.out)
    (part_again entries 2048 _ c.read_all-2.new.out sized.entries c.read_all-2.auto.out)
    (part_again entries 2048 _ c.read_all-3.new.out sized.entries c.read_all-3.auto.out)

pub returns : goal.returns
unfolding words doubles
returns c =
    let a = c.args in
    let sized = c.requires.sized in
    let entries = word_count (length a.row_idx.now) in
    result_read (graph_bytes a.n a.col_ptr.now a.row_idx.now a.cost.now)
    (match_bytes a.perm.now a.u.now a.v.now a.answer.now) c.match_small.ensures
    (part_holds (a.n + 1) 257 _ c.read_all.new.out (omega (arith, sized.columns)) c.read_all.auto.out
    (words a.col_ptr.now) c.read_all.ensures)
    (part_holds entries 2048 _ c.read_all-2.new.out sized.entries c.read_all-2.auto.out (words a.row_idx.now)
    c.read_all-2.ensures)
    (part_holds entries 2048 _ c.read_all-3.new.out sized.entries c.read_all-3.auto.out (doubles a.cost.now)
    c.read_all-3.ensures)
