-- `fill_matched`: cleared work is marked by rows, the factors are filled, the work is marked by indices.
use Rattle.matching.specs.Match.{match_of}
use Rattle.factors_mc64.proofs.Loops.{no_marks_lem}
use Rattle.factors_flat.proofs.Ends.{marked_start, levelled_start}
use Rattle.factors_flat.proofs.fill_matched.Goals as goal

pub mark_rows-requires-clause-marked : goal.mark_rows-requires-clause-marked
mark_rows-requires-clause-marked c = rw (c.fill.ensures, c.requires.words) (no_marks_lem _ _)

pub fill_factors-requires : goal.fill_factors-requires
fill_factors-requires c =
    let p = c.requires in
    record {
      accepted = record {
        small = p.small;
        perms = p.perms;
        row_duals = p.row_duals;
        column_duals = p.column_duals;
        largest = p.largest;
        factors = p.factors;
        words = c.mark_rows.ensures.words;
        rows = p.rows;
      };
      marked = c.mark_rows.ensures;
    }

pub mark_matched-requires-clause-n_le_max_columns : goal.mark_matched-requires-clause-n_le_max_columns
mark_matched-requires-clause-n_le_max_columns c = (c.requires.small, marked_start _ _ _ _ c.mark_rows.ensures)

pub returns : goal.returns
returns c =
    let a = c.args in
    levelled_start a.n (match_of a.perm.now a.u.now a.v.now a.cmax.now) _ _ c.fill_factors.ensures c.mark_matched.ensures
