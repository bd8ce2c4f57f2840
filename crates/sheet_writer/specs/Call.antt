-- SPECIFICATION 5.16: What `write_sheet` answers and leaves: refusals 1, 3 and 10, in this order, or the file at the
-- front of the slice.
use Rattle.std.specs.Prelude.{◌≡◌, Bool, ◌&&◌, List, ℕ, ◌+◌, ◌*◌, eqb, length, take, Result, Ok, Err}
use Rattle.std.proofs.lemmas.List.Edits.{sets}
use Rattle.refusal.specs.Refusal.{accepted, matching_range}
use Rattle.refusal.specs.Number.{fault_of}
use Rattle.refusal.specs.Listed.{OneOf, write_sheet_numbers}
use Rattle.slices.specs.Outcome.{Outcome, outcome_is, refusing}
use Rattle.sparse.specs.Fault.{unless, or_else}
use Rattle.sparse.specs.Validate.{size_fault}
use Rattle.matching.specs.Match.{Match}
use Rattle.sheet.specs.Format.{sheet_bytes, rows_fit, rows_present}
use Rattle.sheet.specs.Reading.{Means}
use Rattle.sheet.specs.Canonical.{Canonical}

-- the length used, of an answer
abbrev pub used_of : Result ℕ ℕ → ℕ
used_of (Ok count) = count
used_of (Err number) = 0

-- the bytes lent for a match of n columns
abbrev pub room_for : ℕ → ℕ
room_for n = 2 + 29 * n

unfoldable pub lengths : ℕ → Match ℕ → List ℕ → Bool
lengths n m sheet =
    eqb (length m.perm) n
    && (eqb (length m.u) n
    && (eqb (length m.v) n && (eqb (length m.cmax) n && eqb (length sheet) (room_for n))))

-- 10: an entry of perm is neither none nor below n, or the matched count is not the number of rows present
unfoldable pub match_fault : ℕ → ℕ → List ℕ → ℕ
match_fault n matched perm = unless (rows_fit n perm && eqb (rows_present perm) matched) matching_range

-- 1 and 3: there are no entries to count
abbrev pub sizes : ℕ → Bool → ℕ
sizes n fit = size_fault n 0 0 fit

abbrev pub write_fault : ℕ → ℕ → Match ℕ → List ℕ → ℕ
write_fault n matched m sheet = or_else (sizes n (lengths n m sheet)) (match_fault n matched m.perm)

-- an accepted call: the file, followed by what was there
abbrev pub written : ℕ → Match ℕ → List ℕ → Outcome (Result ℕ ℕ) (List ℕ)
written n m old = outcome_is (Ok (length (sheet_bytes n m))) (sets old 0 (sheet_bytes n m))

-- what `write_sheet` does
unfoldable pub write_outcome : ℕ → ℕ → Match ℕ → List ℕ → Outcome (Result ℕ ℕ) (List ℕ)
write_outcome n matched m old = refusing Err (write_fault n matched m old) (written n m old) old

-- what was written is canonical and reads back as the match, with its matched count
pub record Travels (n matched : ℕ) (m : Match ℕ) (file : List ℕ) : Type 0 where
  pub canonical : Canonical file
  pub means : Means file n m
  pub count : rows_present m.perm ≡ matched

-- of an accepted call: the file is what the slice holds up to the length used
abbrev pub Promised : (n matched : ℕ) → Match ℕ → (number used : ℕ) → List ℕ → Type 0
Promised n matched m number used sheet = number ≡ accepted → Travels n matched m (take used sheet)

-- ---- all that `write_sheet` promises, of the match, the slice lent, its answer r and the slice left
pub record Promises (n matched : ℕ) (m : Match ℕ) (before : List ℕ) (r : Result ℕ ℕ) (after : List ℕ) : Type 0 where
  -- the answer and the slice left are the definition's
  pub outcome : outcome_is r after ≡ write_outcome n matched m before
  -- the number is one of the call's list
  pub number : OneOf write_sheet_numbers (fault_of r)
  -- the file of an accepted call is canonical and reads back as the match
  pub travels : Promised n matched m (fault_of r) (used_of r) after
