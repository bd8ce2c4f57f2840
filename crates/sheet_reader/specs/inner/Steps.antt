-- What the reader's steps leave each other: n, once it and the lengths are tested.
use Rattle.std.specs.Prelude.{List, ℕ, zero, suc, Result, Ok, Err}
use Rattle.matching.specs.Match.{Match}
use Rattle.sheet.specs.Reading.{order_of}
use Rattle.sheet_reader.specs.Call.{lengths, sizes}

-- the answer of a call without a fault, else the fault
abbrev pub unless_fault : {A : Type 0} → ℕ → A → Result A ℕ
unless_fault zero answer = Ok answer
unless_fault (suc fault) answer = Err (suc fault)

-- n, or the first fault of it and of the lengths
unfoldable pub tested_order : List ℕ → Match ℕ → Result ℕ ℕ
tested_order sheet before = unless_fault (sizes sheet (lengths (order_of sheet) before)) (order_of sheet)
