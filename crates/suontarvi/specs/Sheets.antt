-- SPECIFICATION 5.16: Sheet files over the C interface: what sheet_writer and sheet_reader do, with the answer as a
-- number and its values in a slice.
use Rattle.std.specs.Prelude.{◌≡◌, false, cond, List, [], ◌∷◌, ℕ, eqb, Result, Ok, Err, length, get_or}
use Rattle.refusal.specs.Listed.{OneOf, write_sheet_numbers, read_sheet_numbers, canonical_sheet_numbers}
use Rattle.refusal.specs.Number.{fault_of}
use Rattle.slices.specs.Outcome.{Outcome, outcome_is, refusing, as_number}
use Rattle.matching.specs.Match.{Match}
use Rattle.sheet.specs.Reading.{body_fault}
use Rattle.sheet.specs.Canonical.{canonical_body}
use Rattle.sheet_writer.specs.Call as writing
use Rattle.sheet_reader.specs.Call as reading

-- ---- writing
-- what is lent: room for the file, and one place for the length used
pub record WriteLent : Type 0 where
  pub sheet : List ℕ
  pub used : List ℕ

abbrev pub write_lent : List ℕ → List ℕ → WriteLent
write_lent sheet used = record { sheet = sheet; used = used }

-- the length used, or what was there if nothing is written
abbrev pub used_left : Result ℕ ℕ → List ℕ → List ℕ
used_left (Ok count) old = count ∷ []
used_left (Err fault) old = old

-- an outcome of the writer as a number and a length
abbrev pub write_result_of : Outcome (Result ℕ ℕ) (List ℕ) → List ℕ → Outcome ℕ WriteLent
write_result_of o old = outcome_is (fault_of o.answer) (write_lent o.after (used_left o.answer old))

-- the first thing wrong, or 0. A wrong length of `used` is a wrong length: 1 comes before it, 10 after
unfoldable pub writing_fault : ℕ → ℕ → Match ℕ → List ℕ → List ℕ → ℕ
writing_fault n matched m sheet old =
    cond (eqb (length old) 1) (writing.write_fault n matched m sheet) (writing.sizes n false)

-- what `suontarvi_write_sheet` does
unfoldable pub write_sheet_result : ℕ → ℕ → Match ℕ → List ℕ → List ℕ → Outcome ℕ WriteLent
unfolding writing_fault
write_sheet_result n matched m sheet old =
    refusing as_number (writing_fault n matched m sheet old) (write_result_of (writing.written n m sheet) old)
    (write_lent sheet old)

-- ---- reading
-- what is lent: the slices of the match, and two places for n and the matched count
pub record ReadLent : Type 0 where
  pub found : Match ℕ
  pub answer : List ℕ

abbrev pub read_lent : Match ℕ → List ℕ → ReadLent
read_lent found answer = record { found = found; answer = answer }

-- n and the matched count, or what was there if nothing is read
abbrev pub values_left : Result (ℕ × ℕ) ℕ → List ℕ → List ℕ
values_left (Ok found) old = found.0 ∷ found.1 ∷ []
values_left (Err fault) old = old

-- an outcome of a reader as a number and values
abbrev pub read_result_of : Outcome (Result (ℕ × ℕ) ℕ) (Match ℕ) → List ℕ → Outcome ℕ ReadLent
read_result_of o old = outcome_is (fault_of o.answer) (read_lent o.after (values_left o.answer old))

-- the first thing wrong, or 0, by the fault of the records. A wrong length of `answer` is a wrong length: the 40 of n
-- comes before it, the records after
unfoldable pub reading_fault : ℕ → List ℕ → Match ℕ → List ℕ → ℕ
reading_fault body sheet before old =
    cond (eqb (length old) 2) (reading.fault_by body sheet before) (reading.sizes sheet false)

-- what a reader does by the fault of the records
unfoldable pub read_result_by : ℕ → List ℕ → Match ℕ → List ℕ → Outcome ℕ ReadLent
unfolding reading_fault
read_result_by body sheet before old =
    refusing as_number (reading_fault body sheet before old) (read_result_of (reading.read_all sheet) old)
    (read_lent before old)

-- what `suontarvi_read_sheet` does
abbrev pub read_sheet_result : List ℕ → Match ℕ → List ℕ → Outcome ℕ ReadLent
read_sheet_result sheet before old = read_result_by (body_fault sheet) sheet before old

-- what `suontarvi_read_canonical_sheet` does
abbrev pub canonical_sheet_result : List ℕ → Match ℕ → List ℕ → Outcome ℕ ReadLent
canonical_sheet_result sheet before old = read_result_by (canonical_body sheet) sheet before old

-- ---- all that the calls promise
-- `suontarvi_write_sheet`, of the match, what was lent and the result t
pub record WritePromises (n matched : ℕ) (m : Match ℕ) (sheet old : List ℕ) (t : Outcome ℕ WriteLent) : Type 0 where
  -- the number and every slice left are the definition's
  pub outcome : t ≡ write_sheet_result n matched m sheet old
  -- the number is one of the call's list
  pub number : OneOf write_sheet_numbers t.answer
  -- the file of an accepted call is canonical and reads back as the match
  pub travels : writing.Promised n matched m t.answer (get_or t.after.used 0 0) t.after.sheet

-- `suontarvi_read_sheet`, of the file, what was lent and the result t
pub record ReadPromises (sheet : List ℕ) (before : Match ℕ) (old : List ℕ) (t : Outcome ℕ ReadLent) : Type 0 where
  -- the number and every slice left are the definition's
  pub outcome : t ≡ read_sheet_result sheet before old
  -- the number is one of the call's list
  pub number : OneOf read_sheet_numbers t.answer
  -- an accepted file means the match that is left
  pub holds : reading.Holding sheet t.answer (get_or t.after.answer 0 0) (get_or t.after.answer 1 0)
      t.after.found
  -- that match, written, is canonical and means the same
  pub rewritten : reading.Rewriting t.answer (get_or t.after.answer 0 0) t.after.found

-- `suontarvi_read_canonical_sheet`
pub record CanonicalPromises (sheet : List ℕ) (before : Match ℕ) (old : List ℕ) (t : Outcome ℕ ReadLent) : Type 0 where
  -- the number and every slice left are the definition's
  pub outcome : t ≡ canonical_sheet_result sheet before old
  -- the number is one of the call's list
  pub number : OneOf canonical_sheet_numbers t.answer
  -- an accepted file means the match that is left
  pub holds : reading.Holding sheet t.answer (get_or t.after.answer 0 0) (get_or t.after.answer 1 0)
      t.after.found
  -- that match, written, is the file again
  pub again : reading.WrittenAgain sheet t.answer (get_or t.after.answer 0 0) t.after.found
