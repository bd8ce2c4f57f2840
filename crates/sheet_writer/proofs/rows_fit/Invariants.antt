-- `rows_fit`: the rows before the index fit, and those from it on decide.
use Rattle.std.proofs.Common.{◌≡◌, ◌&&◌, drop}
use Rattle.sheet.specs.Format.{rows_fit}
use Rattle.sheet_writer.proofs.rows_fit.Given as goal

abbrev pub invariant-loop-row : goal.invariant-loop-row
invariant-loop-row l = rows_fit l.n l.perm ≡ (l.fit && rows_fit l.n (drop l.row-index l.perm))
