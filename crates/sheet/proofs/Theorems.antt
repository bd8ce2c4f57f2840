-- What a user of sheet files relies on, where several calls are joined. `Good n m` is what `write_sheet` accepts; the bytes of a file are below 256.
use mathlib.Core.Path.{◌≡◌, sym, ap, ap₂, ◌∙◌}
use mathlib.Core.List.{List}
use Prim.Native.Nat.{ℕ, ◌<◌}
use lib.ListN.{get_or}
use Rattle.matching.specs.Match.{Match}
use Rattle.sheet.specs.Format.{sheet_bytes}
use Rattle.sheet.specs.Reading.{order_of, sheet_fault, sheet_match, Means}
use Rattle.sheet.specs.Canonical.{Canonical}
use Rattle.sheet.proofs.RoundTrip as round
use Rattle.sheet.proofs.Canonical as canonical
use Rattle.sheet.proofs.Rewritten as rewritten

-- the reader of any order takes what is written, and it means the same match, bits included
pub written_reads_back : {n : ℕ} {m : Match ℕ} → round.Good n m → Means (sheet_bytes n m) n m
written_reads_back g = round.reads_back g

-- the canonical reader accepts what is written
pub written_is_canonical : {n : ℕ} {m : Match ℕ} → round.Good n m → Canonical (sheet_bytes n m)
written_is_canonical g = canonical.written_canonical g

-- writing what the canonical reader read gives the file again
pub canonical_written_again : (sheet : List ℕ) → Canonical sheet → ((i : ℕ) → get_or sheet i 0 < 256) → sheet_bytes (order_of sheet) (sheet_match sheet) ≡ sheet
canonical_written_again sheet c b = canonical.written_again sheet c b

-- two canonical files that mean the same have the same bytes
pub same_meaning_same_bytes : (a b : List ℕ) → Canonical a → Canonical b → ((i : ℕ) → get_or a i 0 < 256) → ((i : ℕ) → get_or b i 0 < 256)
    → order_of a ≡ order_of b → sheet_match a ≡ sheet_match b → a ≡ b
same_meaning_same_bytes a b c d e f o m =
    sym (canonical.written_again a c e) ∙ ap₂ (λ (n : ℕ) (x : Match ℕ). sheet_bytes n x) o m ∙ canonical.written_again b d f

pub same_bytes_same_meaning : (a b : List ℕ) → a ≡ b → (order_of a ≡ order_of b) × (sheet_match a ≡ sheet_match b)
same_bytes_same_meaning a b e = (ap order_of e, ap sheet_match e)

-- the reader of any order accepts what the canonical reader accepts; both read the same match, `sheet_match`
pub canonical_is_taken : (sheet : List ℕ) → Canonical sheet → sheet_fault sheet ≡ 0
canonical_is_taken sheet c = canonical.canonical_taken sheet c

-- a match read from any file that is taken can be written
pub taken_can_be_written : (sheet : List ℕ) → sheet_fault sheet ≡ 0 → ((i : ℕ) → get_or sheet i 0 < 256) → round.Good (order_of sheet) (sheet_match sheet)
taken_can_be_written sheet e b = rewritten.taken_good sheet e b

-- the canonical reader accepts a sheet that was read and written again, which means what it meant
pub rewritten_is_canonical : (sheet : List ℕ) → sheet_fault sheet ≡ 0 → ((i : ℕ) → get_or sheet i 0 < 256)
    → Canonical (sheet_bytes (order_of sheet) (sheet_match sheet))
rewritten_is_canonical sheet e b = written_is_canonical (taken_can_be_written sheet e b)

pub rewritten_means_the_same : (sheet : List ℕ) → sheet_fault sheet ≡ 0 → ((i : ℕ) → get_or sheet i 0 < 256)
    → Means (sheet_bytes (order_of sheet) (sheet_match sheet)) (order_of sheet) (sheet_match sheet)
rewritten_means_the_same sheet e b = written_reads_back (taken_can_be_written sheet e b)
