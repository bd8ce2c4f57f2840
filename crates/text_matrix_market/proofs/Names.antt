-- A word against a name, as `all` compares them byte by byte: by induction on the two.
use mathlib.Core.Path.{◌≡◌, refl, ap, ap₂}
use mathlib.Core.Bool.{Bool, true, false, ◌&&◌}
use mathlib.Core.List.{List, [], ◌∷◌}
use Prim.Native.Nat.{ℕ, suc}
use native.Mathlib.Omega.{arith}
use lib.Dec.{eqb}
use lib.ListN.{length}
use Rattle.std.specs.Char.{to_ascii_lowercase}
use Rattle.std.specs.List.{list_all, zip}
use Rattle.std.proofs.lemmas.Bool.Decides.{nat_tests}
use Rattle.text_matrix_market.specs.Banner.{lower_case, same_word}

pub same_length : (word name : List ℕ) → (length word ≡ length name → ⊥) → false ≡ same_word word name
unfolding same_word
same_length [] [] h = absurd (h refl)
same_length [] (y ∷ name) h = refl
same_length (x ∷ word) [] h = refl
same_length (x ∷ word) (y ∷ name) h =
    other (eqb (lower_case x) y) (same_length word name (λ e. h (ap suc e)))
  where
    other : (t : Bool) → false ≡ same_word word name → false ≡ (t && same_word word name)
    other true e = e
    other false e = refl

-- std's test of a capital letter is the definition's
lower_same : (b : ℕ) → to_ascii_lowercase b ≡ lower_case b
lower_same b = grind (arith, nat_tests)

pub same_bytes : (word name : List ℕ) → length word ≡ length name
    → list_all (λ (p : ℕ × ℕ). eqb (to_ascii_lowercase p.0) p.1) (zip word name) ≡ same_word word name
unfolding same_word
same_bytes [] [] h = refl
same_bytes [] (y ∷ name) h = let z : ⊥ = omega arith in absurd z
same_bytes (x ∷ word) [] h = let z : ⊥ = omega arith in absurd z
same_bytes (x ∷ word) (y ∷ name) h =
    ap₂ ◌&&◌ (ap (λ (b : ℕ). eqb b y) (lower_same x)) (same_bytes word name (omega arith))
