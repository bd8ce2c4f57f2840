-- `write_flat`: the matched factors, then all entries, then the signs turned and the work cleared.
use Rattle.std.proofs.Common.{◌∙◌}
use Rattle.sparse.specs.Matrix.{matrix}
use Rattle.matching.specs.Match.{match_of}
use Rattle.factors_flat.proofs.Ends.{flat_written}
use Rattle.factors_flat.proofs.write_flat.Goals as goal

pub enter_entries-requires : goal.enter_entries-requires
enter_entries-requires c = record {
  factors_len = (c.fill_matched.ensures.room, c.fill_matched.ensures.words);
  ready = c.requires.ready;
}

pub turn_sums-requires : goal.turn_sums-requires
turn_sums-requires c = (
  c.enter_entries.auto.factors ∙ c.fill_matched.ensures.room,
  c.enter_entries.auto.work ∙ c.fill_matched.ensures.words,
)

pub returns : goal.returns
returns c =
    let a = c.args in
    flat_written (match_of a.perm.now a.u.now a.v.now a.cmax.now) (matrix a.n a.col_ptr.now a.row_idx.now a.values.now)
    a.logs.now c.fill_matched.ensures c.enter_entries.ensures c.turn_sums.ensures c.fill.ensures
