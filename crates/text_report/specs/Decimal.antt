-- SPECIFICATION 11.4: Numbers as decimal digits, each digit as its byte.
use Rattle.std.specs.Prelude.{Bool, true, false, List, [], ◌∷◌, ◌++◌, ℕ, zero, suc, ◌+◌, ◌/◌, ◌%◌, ltb, ℤ, pos, negsuc}

-- the byte of a digit
abbrev pub digit : ℕ → ℕ
digit d = 48 + d

-- the digits of a number of at most fuel + 1 digits, the highest first; `single` says that it has one digit only
unfoldable pub digits : ℕ → Bool → ℕ → List ℕ
digits zero single n = digit n ∷ []
digits (suc fuel) true n = digit n ∷ []
digits (suc fuel) false n = digits fuel (ltb (n / 10) 10) (n / 10) ++ (digit (n % 10) ∷ [])

-- a number without leading zeros; n has at most n + 1 digits
unfoldable pub decimal : ℕ → List ℕ
decimal n = digits n (ltb n 10) n

-- a whole number, with a minus where it is negative
unfoldable pub signed_text : ℤ → List ℕ
signed_text (pos n) = decimal n
signed_text (negsuc n) = 45 ∷ decimal (suc n)
