-- Sheet files over C: the number and the values of an answer, with what the call behind promises of it. By the cases of the answer.
use Rattle.std.proofs.Common.{◌≡◌, ◌≢◌, ◌∙◌, false, List, [], ◌∷◌, ℕ, Result, Ok, Err, length, get_or, set, refl, sym, ap, subst}
use borrow.Author.Tests.{eq-eqb, ne_eqb}
use Rattle.refusal.specs.declared.Refusal.{Refusal}
use Rattle.refusal.specs.Listed.{OneOf, write_sheet_numbers, read_sheet_numbers, canonical_sheet_numbers}
use Rattle.refusal.specs.Number.{number, number_of, numbered, fault_of}
use Rattle.refusal.proofs.Numbers.{number_ne_zero}
use Rattle.slices.specs.Outcome.{outcome_is, Outcome, refusing, as_number}
use Rattle.slices.proofs.Lists.{only}
use Rattle.slices.proofs.Refusing.{refused_is, refusing_over}
use Rattle.sparse.proofs.Listed.{Listed}
use Rattle.matching.specs.Match.{Match}
use Rattle.sheet.specs.Format.{sheet_bytes}
use Rattle.sheet.specs.Reading.{body_fault}
use Rattle.sheet.specs.Canonical.{canonical_body}
use Rattle.sheet_writer.specs.Call as writing
use Rattle.sheet_writer.proofs.Theorems as wrote
use Rattle.sheet_reader.specs.Call as reading
use Rattle.suontarvi.specs.Sheets.{write_result_of, write_sheet_result, read_result_of, read_result_by, write_lent, writing_fault, read_lent, reading_fault}
use Rattle.suontarvi.specs.Sheets.{values_left, WritePromises, ReadPromises, CanonicalPromises}

-- ---- writing
module _ (n matched : ℕ) (m : Match ℕ) (sheet old : List ℕ) where
  -- what the call promises of its number and the slices left
  abbrev Written_so : ℕ → List ℕ → List ℕ → Type 0
  Written_so number new used = WritePromises n matched m sheet old (outcome_is number (write_lent new used))

  pub unfit_used : {number : ℕ} → length old ≢ 1 → number ≢ 0 → number ≡ writing.sizes n false → Written_so number sheet old
  unfolding write_sheet_result writing_fault
  unfit_used {number} h some e =
      let wrong : number ≡ writing_fault n matched m sheet old = rw (ne_eqb (length old) 1 h) e in
      record {
        outcome = refused_is as_number (write_result_of (writing.written n m sheet) old) (write_lent sheet old) wrong some;
        number = subst (OneOf write_sheet_numbers) (sym e) (wrote.sizes_listed n false).is;
        travels = λ z. absurd (some z);
      }

  -- the writer as a number and a length
  write_over : write_result_of (writing.write_outcome n matched m sheet) old ≡ refusing as_number (writing.write_fault n matched m sheet)
      (write_result_of (writing.written n m sheet) old) (write_lent sheet old)
  unfolding writing.write_outcome
  write_over = refusing_over (λ (o : Outcome (Result ℕ ℕ) (List ℕ)). write_result_of o old) Err as_number (writing.write_fault n matched m sheet)
      (writing.written n m sheet) sheet (write_lent sheet old) (λ k. refl)

  module _ (h : length old ≡ 1) {new : List ℕ} where
    result_as : {a : Result ℕ ℕ} → outcome_is a new ≡ writing.write_outcome n matched m sheet
        → write_result_of (outcome_is a new) old ≡ write_sheet_result n matched m sheet old
    unfolding write_sheet_result writing_fault
    result_as e =
        let same : writing.write_fault n matched m sheet ≡ writing_fault n matched m sheet old = rw (eq-eqb (length old) 1 h) refl in
        ap (λ (o : Outcome (Result ℕ ℕ) (List ℕ)). write_result_of o old) e
        ∙ write_over
        ∙ ap (λ (f : ℕ). refusing as_number f (write_result_of (writing.written n m sheet) old) (write_lent sheet old)) same

    pub used : {count : ℕ} → writing.Promises n matched m sheet (Ok count) new → Written_so 0 new (set old 0 count)
    used {count} P =
        let c : Written_so 0 new (count ∷ []) = record { outcome = result_as P.outcome; number = P.number; travels = P.travels } in
        subst (Written_so 0 new) (sym (only old count h)) c

    pub write_refused : {k : ℕ} → k ≢ 0 → writing.Promises n matched m sheet (Err k) new → Written_so k new old
    write_refused some P = record { outcome = result_as P.outcome; number = P.number; travels = λ z. absurd (some z) }

-- ---- reading
-- by either reader: its list of numbers, and what it promises of n, the matched count and the match
module _ (numbers : List ℕ) (P : ℕ → ℕ → Match ℕ → Type 0) (Q : ℕ → Match ℕ → Type 0) (body : ℕ) (sheet : List ℕ) (before : Match ℕ) (old : List ℕ) where
  record Read_so (k : ℕ) (after : Match ℕ) (answer : List ℕ) : Type 0 where
    outcome : outcome_is k (read_lent after answer) ≡ read_result_by body sheet before old
    in_list : OneOf numbers k
    first : k ≡ 0 → P (get_or answer 0 0) (get_or answer 1 0) after
    second : k ≡ 0 → Q (get_or answer 0 0) after

  unfit_answer : {k : ℕ} → length old ≢ 2 → k ≢ 0 → k ≡ reading.sizes sheet false → Listed numbers (reading.sizes sheet false) → Read_so k before old
  unfolding read_result_by reading_fault
  unfit_answer {k} h some e l =
      let wrong : k ≡ reading_fault body sheet before old = rw (ne_eqb (length old) 2 h) e in
      record {
        outcome = refused_is as_number (read_result_of (reading.read_all sheet) old) (read_lent before old) wrong some;
        in_list = subst (OneOf numbers) (sym e) l.is;
        first = λ z. absurd (some z);
        second = λ z. absurd (some z);
      }

  -- the reader as a number and values
  read_over : read_result_of (reading.outcome_by body sheet before) old ≡ refusing as_number (reading.fault_by body sheet before)
      (read_result_of (reading.read_all sheet) old) (read_lent before old)
  unfolding reading.outcome_by
  read_over = refusing_over (λ (o : Outcome (Result (ℕ × ℕ) ℕ) (Match ℕ)). read_result_of o old) Err as_number (reading.fault_by body sheet before)
      (reading.read_all sheet) before (read_lent before old) (λ k. refl)

  module _ (h : length old ≡ 2) {after : Match ℕ} where
    read_as : {a : Result (ℕ × ℕ) ℕ} → outcome_is a after ≡ reading.outcome_by body sheet before
        → read_result_of (outcome_is a after) old ≡ read_result_by body sheet before old
    unfolding read_result_by reading_fault
    read_as e =
        let same : reading.fault_by body sheet before ≡ reading_fault body sheet before old = rw (eq-eqb (length old) 2 h) refl in
        ap (λ (o : Outcome (Result (ℕ × ℕ) ℕ) (Match ℕ)). read_result_of o old) e
        ∙ read_over
        ∙ ap (λ (f : ℕ). refusing as_number f (read_result_of (reading.read_all sheet) old) (read_lent before old)) same

    read_left : (r : Result (ℕ × ℕ) Refusal) → let a = numbered r in outcome_is a after ≡ reading.outcome_by body sheet before
        → OneOf numbers (fault_of a) → (fault_of a ≡ 0 → P (reading.order_read a) (reading.matched_read a) after)
        → (fault_of a ≡ 0 → Q (reading.order_read a) after) → Read_so (number_of r) after (values_left a old)
    read_left (Ok found) e l s t = record { outcome = read_as e; in_list = l; first = s; second = t }
    read_left (Err refusal) e l s t =
        record {
          outcome = read_as e;
          in_list = l;
          first = λ z. absurd (number_ne_zero refusal z);
          second = λ z. absurd (number_ne_zero refusal z);
        }

-- ---- as each reader promises it
module _ (sheet : List ℕ) (before : Match ℕ) (old : List ℕ) where
  abbrev Read : ℕ → Match ℕ → List ℕ → Type 0
  Read = Read_so read_sheet_numbers (reading.Holds sheet) reading.Rewritten (body_fault sheet) sheet before old

  as_read : {k : ℕ} {after : Match ℕ} {answer : List ℕ} → Read k after answer → ReadPromises sheet before old (outcome_is k (read_lent after answer))
  as_read p = record { outcome = p.outcome; number = p.in_list; holds = p.first; rewritten = p.second }

  abbrev Again : ℕ → Match ℕ → Type 0
  Again n m = sheet_bytes n m ≡ sheet

  abbrev Canonical : ℕ → Match ℕ → List ℕ → Type 0
  Canonical = Read_so canonical_sheet_numbers (reading.Holds sheet) Again (canonical_body sheet) sheet before old

  as_canonical : {k : ℕ} {after : Match ℕ} {answer : List ℕ} → Canonical k after answer
      → CanonicalPromises sheet before old (outcome_is k (read_lent after answer))
  as_canonical p = record { outcome = p.outcome; number = p.in_list; holds = p.first; again = p.second }

  pub unfit_read : {k : ℕ} → length old ≢ 2 → k ≢ 0 → k ≡ reading.sizes sheet false → Listed read_sheet_numbers (reading.sizes sheet false)
      → ReadPromises sheet before old (outcome_is k (read_lent before old))
  unfit_read h some e l = as_read (unfit_answer read_sheet_numbers (reading.Holds sheet) reading.Rewritten (body_fault sheet) sheet before old h some e l)

  pub unfit_canonical : {k : ℕ} → length old ≢ 2 → k ≢ 0 → k ≡ reading.sizes sheet false → Listed canonical_sheet_numbers (reading.sizes sheet false)
      → CanonicalPromises sheet before old (outcome_is k (read_lent before old))
  unfit_canonical h some e l = as_canonical (unfit_answer canonical_sheet_numbers (reading.Holds sheet) Again (canonical_body sheet) sheet before old h some e l)

  module _ (h : length old ≡ 2) (r : Result (ℕ × ℕ) Refusal) {after : Match ℕ} {k : ℕ} {answer : List ℕ} (q : k ≡ number_of r)
      (v : answer ≡ values_left (numbered r) old) where
    pub was_read : reading.ReadPromises sheet before (numbered r) after → ReadPromises sheet before old (outcome_is k (read_lent after answer))
    was_read p =
        as_read (rw (q, v) (read_left read_sheet_numbers (reading.Holds sheet) reading.Rewritten (body_fault sheet) sheet before old h r
        p.outcome p.number p.holds p.rewritten))

    pub was_canonical : reading.CanonicalPromises sheet before (numbered r) after
        → CanonicalPromises sheet before old (outcome_is k (read_lent after answer))
    was_canonical p =
        as_canonical (rw (q, v) (read_left canonical_sheet_numbers (reading.Holds sheet) Again (canonical_body sheet) sheet before old h r
        p.outcome p.number p.holds p.again))
