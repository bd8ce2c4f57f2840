-- SPECIFICATION 12.3: Wide numbers as bytes, low byte first: one number, and lists of words (4 bytes) and doubles (8
-- bytes).
use Rattle.std.specs.Prelude.{List, [], ◌∷◌, ◌++◌, map, ℕ, zero, suc, ◌+◌, ◌*◌, ◌/◌, ◌%◌, get_or, Float}
use Rattle.std.specs.Float.{binary64}
use Rattle.std.specs.Float.Ieee.{of_bits, to_bits}

-- the lowest `count` bytes of a number
unfoldable pub bytes_of : ℕ → ℕ → List ℕ
bytes_of zero value = []
bytes_of (suc count) value = value % 256 ∷ bytes_of count (value / 256)

-- the number that `width` bytes from `at` on stand for
unfoldable pub number_at : ℕ → List ℕ → ℕ → ℕ
number_at zero bytes at = 0
number_at (suc width) bytes at = get_or bytes at 0 + 256 * number_at width bytes (suc at)

-- f 0, f 1, and so on, `count` in all
unfoldable pub list_of : {A : Type 0} → ℕ → (ℕ → A) → List A
list_of zero f = []
list_of (suc count) f = f 0 ∷ list_of count (λ (i : ℕ). f (suc i))

-- the first `count` words
unfoldable pub words : List ℕ → ℕ → List ℕ
words bytes count = list_of count (λ (i : ℕ). number_at 4 bytes (4 * i))

-- the first `count` numbers of 8 bytes
unfoldable pub longs : List ℕ → ℕ → List ℕ
longs bytes count = list_of count (λ (i : ℕ). number_at 8 bytes (8 * i))

-- the first `count` doubles
unfoldable pub doubles : List ℕ → ℕ → List Float
doubles bytes count = list_of count (λ (i : ℕ). of_bits binary64 (number_at 8 bytes (8 * i)))

-- numbers of `width` bytes, one after the other
unfoldable pub all_bytes : ℕ → List ℕ → List ℕ
all_bytes width [] = []
all_bytes width (value ∷ values) = bytes_of width value ++ all_bytes width values

unfoldable pub word_bytes : List ℕ → List ℕ
word_bytes values = all_bytes 4 values

-- a NaN has the bits 0x7FF8000000000000 here
unfoldable pub double_bytes : List Float → List ℕ
double_bytes values = all_bytes 8 (map (to_bits binary64) values)
