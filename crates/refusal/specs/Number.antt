-- The number of a refusal, and the answers of calls by it: SPECIFICATION's tables and equations speak of numbers.
use Rattle.std.specs.Prelude.{ℕ, Result, Ok, Err}
use Rattle.refusal.specs.declared.Refusal.{Refusal}
use Rattle.refusal.specs.declared.Refusal.TheVariants.{TooManyColumns, TooManyEntries, SliceLength, ColumnPointers}
use Rattle.refusal.specs.declared.Refusal.TheVariants.{IndexRange, UpperTriangle, RowsNotRising, CostRange}
use Rattle.refusal.specs.declared.Refusal.TheVariants.{ValueNotFinite, MatchingRange, NoRoot, ExternalChoice, Banner}
use Rattle.refusal.specs.declared.Refusal.TheVariants.{SizeLine, InputLimit, EntryLine, EntryCount, RepeatedPair}
use Rattle.refusal.specs.declared.Refusal.TheVariants.{UpperEntry, IncompleteMatching, InfeasibleDuals, LoosePair}
use Rattle.refusal.specs.declared.Refusal.TheVariants.{NotLargest, SheetCut, SheetIndex, PatchTwice, ExponentRange}
use Rattle.refusal.specs.declared.Refusal.TheVariants.{PatchOrder, NeedlessField, ValueNotNormal}
use Rattle.refusal.specs.Refusal as Table

-- the number that the table has for it
abbrev pub number : Refusal → ℕ
number TooManyColumns = Table.too_many_columns
number TooManyEntries = Table.too_many_entries
number SliceLength = Table.slice_length
number ColumnPointers = Table.column_pointers
number IndexRange = Table.index_range
number UpperTriangle = Table.upper_triangle
number RowsNotRising = Table.rows_not_rising
number CostRange = Table.cost_range
number ValueNotFinite = Table.value_not_finite
number MatchingRange = Table.matching_range
number NoRoot = Table.no_root
number ExternalChoice = Table.external_choice
number Banner = Table.banner
number SizeLine = Table.size_line
number InputLimit = Table.input_limit
number EntryLine = Table.entry_line
number EntryCount = Table.entry_count
number RepeatedPair = Table.repeated_pair
number UpperEntry = Table.upper_entry
number IncompleteMatching = Table.incomplete_matching
number InfeasibleDuals = Table.infeasible_duals
number LoosePair = Table.loose_pair
number NotLargest = Table.not_largest
number SheetCut = Table.sheet_cut
number SheetIndex = Table.sheet_index
number PatchTwice = Table.patch_twice
number ExponentRange = Table.exponent_range
number PatchOrder = Table.patch_order
number NeedlessField = Table.needless_field
number ValueNotNormal = Table.value_not_normal

-- the number of an answer: 0 if the call is accepted, else its refusal's
abbrev pub number_of : {A : Type 0} → Result A Refusal → ℕ
number_of (Ok answer) = Table.accepted
number_of (Err refusal) = number refusal

-- the answer with its refusal's number in place of the refusal
abbrev pub numbered : {A : Type 0} → Result A Refusal → Result A ℕ
numbered (Ok answer) = Ok answer
numbered (Err refusal) = Err (number refusal)

-- the number of such an answer
abbrev pub fault_of : {A : Type 0} → Result A ℕ → ℕ
fault_of (Ok answer) = Table.accepted
fault_of (Err fault) = fault
