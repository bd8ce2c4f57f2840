-- `head_fault` meets its contract: by its two tests.
use Rattle.std.proofs.Common.{refl}
use borrow.Author.Tests.{le-leb, lt-leb}
use Rattle.sheet.specs.Reading.{head_fault}
use Rattle.sheet_reader.proofs.head_fault.Goals as goal

pub returns-then-sheet-lt2 : goal.returns-then-sheet-lt2
unfolding head_fault
returns-then-sheet-lt2 c = rw (lt-leb 2 _ c.if-sheet-lt2.true) refl

pub returns-then-get_two-gt-MAX_COLUMNS : goal.returns-then-get_two-gt-MAX_COLUMNS
unfolding head_fault
returns-then-get_two-gt-MAX_COLUMNS c =
    rw (le-leb 2 _ c.if-sheet-lt2.false, lt-leb _ 4096 (rw c.get_two.ensures at c.if-get_two-gt-MAX_COLUMNS.true)) refl

pub returns : goal.returns
unfolding head_fault
returns c =
    rw (le-leb 2 _ c.if-sheet-lt2.false, le-leb _ 4096 (rw c.get_two.ensures at c.if-get_two-gt-MAX_COLUMNS.false)) refl
