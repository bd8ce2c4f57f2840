-- What the answer of a read makes of the input: the cases of `input_after`.
use Rattle.std.proofs.Common.{Option, Some, None, Result, Ok, Err}
use Rattle.std.specs.Result.{result_ok}
use Rattle.std.specs.Io.{ReadsAtMost}
use mathlib.Core.List.{List}
use lib.ListN.{length, take, drop, length-take, length-drop}
use mathlib.Core.Path.{◌≡◌, refl}
use mathlib.Core.Logic.{◌≢◌}
use mathlib.Core.Bool.{Bool, true, false, cond}
use Prim.Native.Nat.{ℕ, zero, suc, ◌+◌, ◌-◌, ◌<◌, ◌≤◌}
use native.Mathlib.Omega.{arith}
use borrow.Author.Tests.{lt-ltb, le-ltb, ltb-true}
use lib.Dec.{ltb}
use Rattle.text_program.specs.declared.Input.TheVariants.{More, All}
use Rattle.text_answer.specs.Answer.{buffer_length}
use Rattle.text_program.specs.Input.{Moved, input_after}

pub failed : (at : ℕ) → None ≡ input_after at None
unfolding input_after
failed at = refl

pub ended : (at k : ℕ) → k ≡ 0 → Some (All at) ≡ input_after at (Some k)
unfolding input_after
ended at zero e = refl
ended at (suc k) e = let z : ⊥ = omega arith in absurd z

pub unfinished : (at k : ℕ) → k ≢ 0 → at + k < buffer_length → Some (More (at + k)) ≡ input_after at (Some k)
unfolding input_after
unfinished at zero h l = absurd (h refl)
unfinished at (suc k) h l = rw (lt-ltb _ _ l) refl

pub full : (at k : ℕ) → k ≢ 0 → buffer_length ≤ at + k → Some (All (at + k)) ≡ input_after at (Some k)
unfolding input_after
full at zero h l = absurd (h refl)
full at (suc k) h l = rw (le-ltb _ _ l) refl

-- ---- one read
-- the room behind `at` bytes
pub room : (buffer : List ℕ) (at : ℕ) → length buffer ≡ buffer_length → at < buffer_length → length (take (length buffer - at) (drop at buffer))
    ≡ buffer_length - at
room buffer at e l = simp (length-take, length-drop) (omega arith)

-- a read that did not fail brought at most what there is room for
pub brought : {E : Type 0} (r : Result ℕ E) {o : Option ℕ} {space : ℕ} (part : List ℕ) → o ≡ result_ok r → ReadsAtMost r part → length part ≡ space
    → Moved space o
brought (Ok n) part e h l = rw (e, ← l) h.0
brought (Err x) part e h l = rw e tt

-- a read that leaves more to read has brought something, and left room
pub grows : (at length : ℕ) (y : Option ℕ) → Some (More length) ≡ input_after at y → (at < length) × (length < buffer_length)
unfolding input_after
grows at length None e = let w : ⊥ = cc in absurd w
grows at length (Some zero) e = let w : ⊥ = cc in absurd w
grows at length (Some (suc k)) e = go (ltb (at + suc k) buffer_length) refl e
  where
    go : (t : Bool) → ltb (at + suc k) buffer_length ≡ t → Some (More length) ≡ Some (cond t (More (at + suc k)) (All (at + suc k)))
        → (at < length) × (length < buffer_length)
    go true h x = let p : length ≡ at + suc k = cc in (omega arith, omega (arith, ltb-true (at + suc k) buffer_length h))
    go false h x = let w : ⊥ = cc in absurd w

-- all of the input lies within the buffer
pub within : (at length : ℕ) (y : Option ℕ) → at < buffer_length → Moved (buffer_length - at) y → Some (All length) ≡ input_after at y
    → length ≤ buffer_length
unfolding input_after
within at length None l m e = let w : ⊥ = cc in absurd w
within at length (Some zero) l m e = let p : length ≡ at = cc in omega arith
within at length (Some (suc k)) l m e = go (ltb (at + suc k) buffer_length) e
  where
    go : (t : Bool) → Some (All length) ≡ Some (cond t (More (at + suc k)) (All (at + suc k))) → length ≤ buffer_length
    go true x = let w : ⊥ = cc in absurd w
    go false x = let p : length ≡ at + suc k = cc in omega (arith, m)
