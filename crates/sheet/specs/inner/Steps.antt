-- What the inner functions require and promise.
use Rattle.std.specs.Prelude.{cond, List, [], ◌∷◌, ℕ, ◌+◌, ◌*◌, ◌<◌, leb, length, Option, Some, None}
use Rattle.sheet.specs.declared.Record.{Record}
use Rattle.sheet.specs.Format.{field_at}

-- a field, with the place after it, or none if it is cut
unfoldable pub taken : (absent width bit : ℕ) → List ℕ → (at : ℕ) → Option (ℕ × ℕ)
taken absent width bit bytes at =
    cond (leb (at + width * bit) (length bytes)) (Some (field_at bit absent width bytes at, at + width * bit)) None

-- every record's patch is below n
unfoldable pub Inside : ℕ → List (Option Record) → Type 0
Inside n [] = Unit {0}
Inside n (None ∷ rest) = Unit {0}
Inside n (Some r ∷ rest) = (r.patch < n) × Inside n rest
