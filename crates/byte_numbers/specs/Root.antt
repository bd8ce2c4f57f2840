-- SPECIFICATION 12.3: The root as bytes: 3 if the slice does not have 8 bytes, else what the square root answers
-- (square_root's sqrt_of); and the answer that is read back.
use Rattle.std.specs.Prelude.{◌≡◌, List, cond, ℕ, zero, suc, eqb, Result, Ok, Err, length, Float}
use Rattle.std.proofs.lemmas.List.Edits.{sets}
use Rattle.std.specs.Float.{binary64}
use Rattle.std.specs.Float.Ieee.{of_bits, to_bits}
use Rattle.refusal.specs.Refusal.{slice_length}
use Rattle.refusal.specs.Number.{fault_of}
use Rattle.square_root.specs.Root.{Answer, sqrt_of}
use Rattle.byte_numbers.specs.Bytes.{bytes_of, number_at}

-- the bytes left: the bits of the root, or what was there if there is none
abbrev pub bytes_left : Result Float ℕ → List ℕ → List ℕ
bytes_left (Ok y) old = sets old 0 (bytes_of 8 (to_bits binary64 y))
bytes_left (Err number) old = old

unfoldable pub root_number : Float → List ℕ → ℕ
root_number x old = cond (eqb (length old) 8) (fault_of (sqrt_of x)) slice_length

unfoldable pub root_bytes : Float → List ℕ → List ℕ
root_bytes x old = cond (eqb (length old) 8) (bytes_left (sqrt_of x) old) old

-- the answer that a number and 8 bytes stand for
unfoldable pub root_read : ℕ → List ℕ → Result Float ℕ
root_read zero bytes = Ok (of_bits binary64 (number_at 8 bytes 0))
root_read (suc number) bytes = Err (suc number)

-- IEEE 754, read back: with 8 bytes lent, the number answered and the bytes left stand for the answer of x
abbrev pub RootPromised : Float → List ℕ → ℕ → List ℕ → Type 0
RootPromised x old number after = length old ≡ 8 → Answer x (root_read number after)
