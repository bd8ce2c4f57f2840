-- SPECIFICATION 3.5: Faults have an order: the answer is 0 if nothing is wrong, else the number of the first thing
-- wrong.
use Rattle.std.specs.Prelude.{Bool, true, false, ℕ, zero, suc}

-- no fault if the test holds, else the number
abbrev pub unless : Bool → ℕ → ℕ
unless true number = 0
unless false number = number

-- the first fault, or the second if there is no first
abbrev pub or_else : ℕ → ℕ → ℕ
or_else zero second = second
or_else (suc first) second = suc first

-- the first fault that f has at k, k + 1, and so on, `count` of them
unfoldable pub first_of : ℕ → (ℕ → ℕ) → ℕ → ℕ
first_of zero f k = 0
first_of (suc count) f k = or_else (f k) (first_of count f (suc k))
