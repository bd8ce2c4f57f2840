-- The loop's invariant: in both slices the bytes of the factors below i stand in front of what was there.
use Rattle.std.proofs.Common.{◌≡◌, ◌*◌, length}
use Rattle.byte_forms.proofs.ByteFactors.{laid_to, row_at, column_at}
use Rattle.byte_forms.proofs.factor_bytes.read_sides.Given as goal

abbrev pub invariant-loop-i : goal.invariant-loop-i
invariant-loop-i l = record {
  row_room : length l.row_factors ≡ 8 * l.n;
  column_room : length l.column_factors ≡ 8 * l.n;
  rows : l.row_factors ≡ laid_to (row_at l.n l.u) l.n l.initial.row_factors l.i;
  columns : l.column_factors ≡ laid_to (column_at l.n l.v l.cmax) l.n l.initial.column_factors l.i;
}
