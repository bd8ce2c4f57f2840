-- Which numbers `write_sheet` answers, and that it accepts every match that can be written, with the count of its rows. From the tests of its fault.
use Rattle.std.proofs.Common.{Result, Ok, Err}
use mathlib.Core.Path.{◌≡◌, refl}
use mathlib.Core.Bool.{Bool, true, ◌&&◌}
use mathlib.Core.List.{List, [], ◌∷◌}
use Prim.Native.Nat.{ℕ, zero, suc, ◌<◌}
use native.Mathlib.Omega.{arith}
use borrow.Author.Tests.{eq-eqb, le-leb}
use lib.Dec.{eqb, leb}
use lib.ListN.{length, get_or}
use lib.Seq.{sets}
use Rattle.limits.specs.Limits.{max_columns}
use Rattle.refusal.specs.Refusal.{too_many_columns, slice_length, matching_range}
use Rattle.refusal.specs.Number.{fault_of}
use Rattle.refusal.specs.Listed.{listed, write_sheet_numbers}
use Rattle.slices.specs.Outcome.{outcome_is, refusing}
use Rattle.sparse.specs.Validate.{size_fault}
use Rattle.sparse.proofs.Listed.{Listed, test, or_listed}
use Rattle.matching.specs.Match.{Match}
use Rattle.sheet.specs.Format.{sheet_bytes, row_or_none, rows_fit, rows_present}
use Rattle.sheet.specs.Reading.{order_of, sheet_fault, sheet_match}
use Rattle.sheet.proofs.RoundTrip.{Good}
use Rattle.sheet.proofs.Theorems.{taken_can_be_written}
use Rattle.sheet_writer.specs.Call.{sizes, lengths, room_for, match_fault, write_fault, write_outcome, written}

pub sizes_listed : (n : ℕ) (fit : Bool) → Listed write_sheet_numbers (sizes n fit)
unfolding listed size_fault
sizes_listed n fit = or_listed (test (leb n max_columns) too_many_columns refl refl) (test fit slice_length refl refl)

pub write_listed : (n matched : ℕ) (m : Match ℕ) (old : List ℕ) → Listed write_sheet_numbers (fault_of (write_outcome n matched m old).answer)
unfolding listed write_outcome match_fault
write_listed n matched m old = go (write_fault n matched m old) fault
  where
    fault : Listed write_sheet_numbers (write_fault n matched m old)
    fault =
        or_listed (sizes_listed n (lengths n m old))
        (test (rows_fit n m.perm && eqb (rows_present m.perm) matched) matching_range refl refl)

    go : (x : ℕ) → Listed write_sheet_numbers x → Listed write_sheet_numbers (fault_of (refusing Err x (written n m old) old).answer)
    go zero p = p
    go (suc x) p = p

rows_fit_lem : (n : ℕ) (perm : List ℕ) → ((k : ℕ) → k < length perm → row_or_none n (get_or perm k 0) ≡ true) → rows_fit n perm ≡ true
unfolding rows_fit
rows_fit_lem n [] h = refl
rows_fit_lem n (row ∷ perm) h = rw (h 0 (omega arith)) (rows_fit_lem n perm (λ k l. h (suc k) (omega arith)))

-- so a match read from an accepted file is written again
pub can_be_written : {n : ℕ} {m : Match ℕ} (old : List ℕ) → Good n m → length old ≡ room_for n → write_fault n (rows_present m.perm) m old ≡ 0
unfolding size_fault lengths match_fault
can_be_written {n} {m} old g room =
    rw (
      le-leb n max_columns g.few,
      eq-eqb (length m.perm) n g.perm,
      eq-eqb (length m.u) n g.u,
      eq-eqb (length m.v) n g.v,
      eq-eqb (length m.cmax) n g.cmax,
      eq-eqb (length old) (room_for n) room,
      rows_fit_lem n m.perm (λ k l. g.rows k (omega (arith, g.perm))),
      eq-eqb (rows_present m.perm) (rows_present m.perm) refl,
    )
    refl

-- the match read from an accepted file is written, with the count of its rows
pub read_is_written : (sheet old : List ℕ) → sheet_fault sheet ≡ 0 → ((i : ℕ) → get_or sheet i 0 < 256) → length old ≡ room_for (order_of sheet)
    → write_outcome (order_of sheet) (rows_present (sheet_match sheet).perm) (sheet_match sheet) old
    ≡ outcome_is (Ok (length (sheet_bytes (order_of sheet) (sheet_match sheet)))) (sets old 0 (sheet_bytes (order_of sheet) (sheet_match sheet)))
unfolding write_outcome
read_is_written sheet old e b room = rw (can_be_written old (taken_can_be_written sheet e b) room) refl
