-- SPECIFICATION 5.16: What the readers answer and leave: 40 for n, then 3, then the first record at fault, or the match
-- that a file means.
use Rattle.std.specs.Prelude.{◌≡◌, Bool, ◌&&◌, List, ℕ, eqb, length, Result, Ok, Err}
use Rattle.refusal.specs.Refusal.{accepted, slice_length}
use Rattle.refusal.specs.Number.{fault_of}
use Rattle.refusal.specs.Listed.{OneOf, read_sheet_numbers, canonical_sheet_numbers}
use Rattle.slices.specs.Outcome.{Outcome, outcome_is, refusing}
use Rattle.sparse.specs.Fault.{unless, or_else}
use Rattle.matching.specs.Match.{Match}
use Rattle.sheet.specs.Format.{sheet_bytes, rows_present}
use Rattle.sheet.specs.Reading.{order_of, head_fault, body_fault, sheet_match, Means}
use Rattle.sheet.specs.Canonical.{canonical_body, Canonical}

-- what an answer has: n and the matched count, or the number of the refusal
abbrev pub order_read : Result (ℕ × ℕ) ℕ → ℕ
order_read (Ok (n, matched)) = n
order_read (Err number) = 0

abbrev pub matched_read : Result (ℕ × ℕ) ℕ → ℕ
matched_read (Ok (n, matched)) = matched
matched_read (Err number) = 0

unfoldable pub lengths : ℕ → Match ℕ → Bool
lengths n m =
    eqb (length m.perm) n && (eqb (length m.u) n && (eqb (length m.v) n && eqb (length m.cmax) n))

-- the faults of n and of the lengths
abbrev pub sizes : List ℕ → Bool → ℕ
sizes sheet fit = or_else (head_fault sheet) (unless fit slice_length)

-- an accepted call: the match of the file
abbrev pub read_all : List ℕ → Outcome (Result (ℕ × ℕ) ℕ) (Match ℕ)
read_all sheet = outcome_is (Ok (order_of sheet, rows_present (sheet_match sheet).perm)) (sheet_match sheet)

-- by the fault of the call
abbrev pub outcome : ℕ → List ℕ → Match ℕ → Outcome (Result (ℕ × ℕ) ℕ) (Match ℕ)
outcome fault sheet before = refusing Err fault (read_all sheet) before

-- the first thing wrong, or 0, by the fault of the records
abbrev pub fault_by : ℕ → List ℕ → Match ℕ → ℕ
fault_by body sheet before = or_else (sizes sheet (lengths (order_of sheet) before)) body

-- what a reader does by the fault of the records
unfoldable pub outcome_by : ℕ → List ℕ → Match ℕ → Outcome (Result (ℕ × ℕ) ℕ) (Match ℕ)
outcome_by body sheet before = outcome (fault_by body sheet before) sheet before

-- what `read_sheet` does
abbrev pub read_outcome : List ℕ → Match ℕ → Outcome (Result (ℕ × ℕ) ℕ) (Match ℕ)
read_outcome sheet before = outcome_by (body_fault sheet) sheet before

-- what `read_canonical_sheet` does
abbrev pub canonical_outcome : List ℕ → Match ℕ → Outcome (Result (ℕ × ℕ) ℕ) (Match ℕ)
canonical_outcome sheet before = outcome_by (canonical_body sheet) sheet before

-- ---- of an accepted call
-- `read_sheet` takes the file, which means the match that the slices then hold, and counts its rows
pub record Holds (sheet : List ℕ) (n matched : ℕ) (after : Match ℕ) : Type 0 where
  pub means : Means sheet n after
  pub count : matched ≡ rows_present after.perm

abbrev pub Holding : List ℕ → (number n matched : ℕ) → Match ℕ → Type 0
Holding sheet number n matched after = number ≡ accepted → Holds sheet n matched after

-- the match that was read is written as a canonical file that means the same
pub record Rewritten (n : ℕ) (after : Match ℕ) : Type 0 where
  pub canonical : Canonical (sheet_bytes n after)
  pub means : Means (sheet_bytes n after) n after

abbrev pub Rewriting : (number n : ℕ) → Match ℕ → Type 0
Rewriting number n after = number ≡ accepted → Rewritten n after

-- the match that the canonical reader read is written as the same file
abbrev pub WrittenAgain : List ℕ → (number n : ℕ) → Match ℕ → Type 0
WrittenAgain sheet number n after = number ≡ accepted → sheet_bytes n after ≡ sheet

-- ---- all that the readers promise, of the file, what was lent, its answer r and what is left
-- `read_sheet`
pub record ReadPromises (sheet : List ℕ) (before : Match ℕ) (r : Result (ℕ × ℕ) ℕ) (after : Match ℕ) : Type 0 where
  -- the answer and every slice left are the definition's
  pub outcome : outcome_is r after ≡ read_outcome sheet before
  -- the number is one of the call's list
  pub number : OneOf read_sheet_numbers (fault_of r)
  -- an accepted file means the match that is left
  pub holds : Holding sheet (fault_of r) (order_read r) (matched_read r) after
  -- that match, written, is canonical and means the same
  pub rewritten : Rewriting (fault_of r) (order_read r) after

-- `read_canonical_sheet`
pub record CanonicalPromises (sheet : List ℕ) (before : Match ℕ) (r : Result (ℕ × ℕ) ℕ) (after : Match ℕ) : Type 0 where
  -- the answer and every slice left are the definition's
  pub outcome : outcome_is r after ≡ canonical_outcome sheet before
  -- the number is one of the call's list
  pub number : OneOf canonical_sheet_numbers (fault_of r)
  -- an accepted file means the match that is left
  pub holds : Holding sheet (fault_of r) (order_read r) (matched_read r) after
  -- that match, written, is the file again
  pub again : WrittenAgain sheet (fault_of r) (order_read r) after
