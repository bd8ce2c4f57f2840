-- `write_factors`: cleared work is marked, the factors are filled, the work is cleared again.
use Rattle.std.proofs.Common.{refl}
use Rattle.factors_mc64.proofs.Loops.{no_marks_lem}
use Rattle.factors_mc64.proofs.write_factors.Goals as goal

pub mark_rows-requires-clause-marked : goal.mark_rows-requires-clause-marked
mark_rows-requires-clause-marked c = rw (c.fill.ensures, c.requires.words) (no_marks_lem _ _)

pub fill_factors-requires : goal.fill_factors-requires
fill_factors-requires c = record {
  accepted = record {
    small = c.requires.small;
    perms = c.requires.perms;
    row_duals = c.requires.row_duals;
    column_duals = c.requires.column_duals;
    largest = c.requires.largest;
    factors = c.requires.factors;
    words = c.mark_rows.ensures.words;
    rows = c.requires.rows;
  };
  marked = c.mark_rows.ensures;
}

pub returns : goal.returns
returns c = rw (c.fill_factors.ensures, c.fill-2.ensures, c.mark_rows.ensures.words) refl
