-- Which numbers the readers answer, what an accepted call leaves, and that what the canonical one accepts the other reads alike. From the tests of
-- each fault, and by induction on the records.
use Rattle.std.proofs.Common.{Option, Some, None, Result, Ok}
use mathlib.Core.Path.{◌≡◌, refl, sym, ap, ap₂, ◌∙◌, subst}
use mathlib.Core.Bool.{Bool, true, false, ◌&&◌}
use mathlib.Core.List.{List, [], ◌∷◌}
use Prim.Native.Nat.{ℕ, zero, suc, ◌<◌}
use native.Mathlib.Omega.{arith}
use lib.Dec.{eqb, leb, ltb}
use lib.ListN.{length, get_or, set, drop}
use Rattle.refusal.specs.Refusal.{slice_length, sheet_cut, sheet_index, patch_twice, patch_order, needless_field}
use Rattle.refusal.specs.Number.{fault_of}
use Rattle.refusal.specs.Listed.{listed, read_sheet_numbers, canonical_sheet_numbers, OneOf}
use Rattle.slices.specs.Outcome.{outcome_is, Outcome}
use Rattle.sparse.specs.Fault.{or_else}
use Rattle.sparse.proofs.First.{or-none, or-zero}
use Rattle.sparse.proofs.Listed.{Listed, test, or_listed}
use Rattle.matching.specs.Match.{Match}
use Rattle.sheet.specs.declared.Record.{Record}
use Rattle.sheet.specs.Format.{bits_of, sheet_bytes, row_or_none, rows_present}
use Rattle.sheet.specs.Reading.{records_of, index_fault, repeat_fault, records_fault, max_patches, order_of, head_fault, no_marks, body_fault, sheet_match, Means}
use Rattle.sheet.specs.Canonical.{needless_fault, rising_fault, canonical_fault, canonical_body}
use Rattle.sheet.proofs.Canonical.{canonical_body_lem}
use Rattle.sheet.proofs.Theorems.{canonical_written_again, rewritten_is_canonical, rewritten_means_the_same}
use Rattle.sheet_reader.specs.Call.{order_read, matched_read, lengths, sizes, outcome, outcome_by, read_outcome, canonical_outcome}
use Rattle.sheet_reader.specs.Call.{Holds, Holding, Rewritten, ReadPromises, CanonicalPromises}

-- ---- the numbers
-- the number of a call is its fault
numbered : {l : List ℕ} (fault : ℕ) (sheet : List ℕ) (before : Match ℕ) → Listed l fault → Listed l (fault_of (outcome fault sheet before).answer)
numbered zero sheet before p = p
numbered (suc fault) sheet before p = p

module _ (l : List ℕ) (z : listed l 0 ≡ true) (cut : listed l sheet_cut ≡ true) (index : listed l sheet_index ≡ true) (size : listed l slice_length ≡ true) where
  index_listed : (n : ℕ) (r : Record) → Listed l (index_fault n r)
  unfolding index_fault
  index_listed n r = test (ltb r.bits 16 && (ltb r.patch n && row_or_none n r.row)) sheet_index z index

  sizes_listed : (sheet : List ℕ) (fit : Bool) → Listed l (sizes sheet fit)
  unfolding head_fault
  sizes_listed sheet fit = or_listed (test (leb 2 (length sheet) && leb (order_of sheet) max_patches) sheet_cut z cut) (test fit slice_length z size)

  by_listed : (body : ℕ) (sheet : List ℕ) (before : Match ℕ) → Listed l body → Listed l (fault_of (outcome_by body sheet before).answer)
  unfolding outcome_by
  by_listed body sheet before p = numbered _ sheet before (or_listed (sizes_listed sheet (lengths (order_of sheet) before)) p)

records_listed : (n : ℕ) (marks : List ℕ) (found : List (Option Record)) → Listed read_sheet_numbers (records_fault n marks found)
unfolding listed records_fault repeat_fault
records_listed n marks [] = record { is = refl }
records_listed n marks (None ∷ rest) = record { is = refl }
records_listed n marks (Some r ∷ rest) =
    or_listed (index_listed read_sheet_numbers refl refl refl refl n r)
    (or_listed (test (eqb (get_or marks r.patch 0) 0) patch_twice refl refl) (records_listed n (set marks r.patch 1) rest))

canonical_records_listed : (n next : ℕ) (found : List (Option Record)) → Listed canonical_sheet_numbers (canonical_fault n next found)
unfolding listed canonical_fault needless_fault rising_fault
canonical_records_listed n next [] = record { is = refl }
canonical_records_listed n next (None ∷ rest) = record { is = refl }
canonical_records_listed n next (Some r ∷ rest) =
    or_listed (index_listed canonical_sheet_numbers refl refl refl refl n r)
    (or_listed (test (ltb 0 r.bits && eqb r.bits (bits_of r.row r.u r.v r.cmax)) needless_field refl refl)
    (or_listed (test (leb next r.patch) patch_order refl refl) (canonical_records_listed n (suc r.patch) rest)))

-- if a slice of the caller has a wrong length
pub length-listed : (sheet : List ℕ) → Listed read_sheet_numbers (sizes sheet false)
unfolding listed
length-listed sheet = sizes_listed read_sheet_numbers refl refl refl refl sheet false

pub canonical_length_listed : (sheet : List ℕ) → Listed canonical_sheet_numbers (sizes sheet false)
unfolding listed
canonical_length_listed sheet = sizes_listed canonical_sheet_numbers refl refl refl refl sheet false

pub read_listed : (sheet : List ℕ) (before : Match ℕ) → Listed read_sheet_numbers (fault_of (read_outcome sheet before).answer)
unfolding listed body_fault
read_listed sheet before = by_listed read_sheet_numbers refl refl refl refl _ sheet before (records_listed (order_of sheet) no_marks (records_of (drop 2 sheet)))

pub read_canonical_listed : (sheet : List ℕ) (before : Match ℕ) → Listed canonical_sheet_numbers (fault_of (canonical_outcome sheet before).answer)
unfolding listed canonical_body
read_canonical_listed sheet before =
    by_listed canonical_sheet_numbers refl refl refl refl _ sheet before (canonical_records_listed (order_of sheet) 0 (records_of (drop 2 sheet)))

-- ---- an accepted call
-- what holds of the match of a file without a fault holds of what the call leaves
left : (P : ℕ → ℕ → Match ℕ → Type 0) (fault : ℕ) (sheet : List ℕ) (before : Match ℕ)
    → (fault ≡ 0 → P (order_of sheet) (rows_present (sheet_match sheet).perm) (sheet_match sheet))
    → fault_of (outcome fault sheet before).answer ≡ 0 → P (order_read (outcome fault sheet before).answer)
    (matched_read (outcome fault sheet before).answer) (outcome fault sheet before).after
left P zero sheet before h z = h refl
left P (suc fault) sheet before h z = let q : ⊥ = omega arith in absurd q

module _ (body : ℕ) (sheet : List ℕ) (before : Match ℕ) {r : Result (ℕ × ℕ) ℕ} {after : Match ℕ} (e : outcome_is r after ≡ outcome_by body sheet before) where
  accepted_call : (P : ℕ → ℕ → Match ℕ → Type 0)
      → (head_fault sheet ≡ 0 → body ≡ 0 → P (order_of sheet) (rows_present (sheet_match sheet).perm) (sheet_match sheet))
      → fault_of r ≡ 0 → P (order_read r) (matched_read r) after
  unfolding outcome_by
  accepted_call P h =
      subst (λ (o : Outcome (Result (ℕ × ℕ) ℕ) (Match ℕ)). fault_of o.answer ≡ 0 → P (order_read o.answer) (matched_read o.answer) o.after) (sym e)
      (left P (or_else (sizes sheet (lengths (order_of sheet) before)) body) sheet before
      (λ z. let s = or-zero (sizes sheet (lengths (order_of sheet) before)) body z in h (or-zero (head_fault sheet) _ s.0).0 s.1))

  holding : (body ≡ 0 → body_fault sheet ≡ 0) → Holding sheet (fault_of r) (order_read r) (matched_read r) after
  holding t = accepted_call (Holds sheet) (λ h b. record { means = record { taken = or-none h ∙ t b; order = refl; same = refl }; count = refl })

-- all that each reader promises, of its outcome for a file of bytes
pub read_clauses : (sheet : List ℕ) (before : Match ℕ) {r : Result (ℕ × ℕ) ℕ} {after : Match ℕ} → outcome_is r after ≡ read_outcome sheet before
    → ((i : ℕ) → get_or sheet i 0 < 256) → ReadPromises sheet before r after
read_clauses sheet before e b =
    record {
      outcome = e;
      number = subst (λ (o : Outcome (Result (ℕ × ℕ) ℕ) (Match ℕ)). OneOf read_sheet_numbers (fault_of o.answer)) (sym e) (read_listed sheet before).is;
      holds = holding _ sheet before e (λ t. t);
      rewritten = accepted_call _ sheet before e (λ (n matched : ℕ) (m : Match ℕ). Rewritten n m)
          (λ h t. record { canonical = rewritten_is_canonical sheet (or-none h ∙ t) b; means = rewritten_means_the_same sheet (or-none h ∙ t) b });
    }

pub canonical_clauses : (sheet : List ℕ) (before : Match ℕ) {r : Result (ℕ × ℕ) ℕ} {after : Match ℕ} → outcome_is r after ≡ canonical_outcome sheet before
    → ((i : ℕ) → get_or sheet i 0 < 256) → CanonicalPromises sheet before r after
canonical_clauses sheet before e b =
    record {
      outcome = e;
      number = subst (λ (o : Outcome (Result (ℕ × ℕ) ℕ) (Match ℕ)). OneOf canonical_sheet_numbers (fault_of o.answer)) (sym e) (read_canonical_listed sheet before).is;
      holds = holding _ sheet before e (canonical_body_lem sheet);
      again = accepted_call _ sheet before e (λ (n matched : ℕ) (m : Match ℕ). sheet_bytes n m ≡ sheet)
          (λ h t. canonical_written_again sheet (record { head = h; body = t }) b);
    }

-- a file that means a match: the reader, lent slices of n, leaves that match and counts its rows
pub meant_is_read : (sheet : List ℕ) (before : Match ℕ) {n : ℕ} {m : Match ℕ} → Means sheet n m → lengths n before ≡ true
    → read_outcome sheet before ≡ outcome_is (Ok (n, rows_present m.perm)) m
unfolding outcome_by
meant_is_read sheet before w l =
    let s = or-zero (head_fault sheet) _ w.taken in
    let f : or_else (sizes sheet (lengths (order_of sheet) before)) (body_fault sheet) ≡ 0 = rw (s.0, w.order, l) s.1 in
    ap (λ (x : ℕ). outcome x sheet before) f ∙ ap₂ (λ (k : ℕ) (y : Match ℕ). outcome_is (Ok (k, rows_present y.perm)) y) w.order w.same

-- ---- both readers
fault_is : (fault : ℕ) (sheet : List ℕ) (before : Match ℕ) → fault_of (outcome fault sheet before).answer ≡ 0 → fault ≡ 0
fault_is zero sheet before e = refl
fault_is (suc fault) sheet before e = e

-- the other reader reads what the canonical reader accepts, with the same meaning
pub canonical_reads_alike : (sheet : List ℕ) (before : Match ℕ) → fault_of (canonical_outcome sheet before).answer ≡ 0
    → canonical_outcome sheet before ≡ read_outcome sheet before
unfolding outcome_by
canonical_reads_alike sheet before e =
    let s = or-zero (sizes sheet (lengths (order_of sheet) before)) _ (fault_is _ sheet before e) in
    ap (λ (body : ℕ). outcome_by body sheet before) (s.1 ∙ sym (canonical_body_lem sheet s.1))
