-- Two small lists: one number or none, and the values of a function.
use Rattle.std.specs.Prelude.{Bool, true, false, List, [], ◌∷◌, ◌++◌, ℕ, zero, suc}

-- i alone, or nothing
abbrev pub keep : Bool → ℕ → List ℕ
keep true i = i ∷ []
keep false i = []

-- f 0, f 1, and so on, `count` of them
unfoldable pub tabulate : ℕ → (ℕ → ℕ) → List ℕ
tabulate zero f = []
tabulate (suc count) f = tabulate count f ++ (f count ∷ [])
