-- Two sets of exponents added, and the opposite set.
use Rattle.std.specs.Prelude.{List, [], ◌∷◌, ℤ, neg_ℤ, ◌+ℤ◌}
use Rattle.exponents_powers.specs.Power.{Exponents, exponents}

unfoldable pub added : List ℤ → List ℤ → List ℤ
added [] l = []
added (x ∷ k) [] = []
added (x ∷ k) (y ∷ l) = (x +ℤ y) ∷ added k l

unfoldable pub negated : List ℤ → List ℤ
negated [] = []
negated (x ∷ l) = neg_ℤ x ∷ negated l

abbrev pub sum_of : Exponents → Exponents → Exponents
sum_of d e = exponents (added d.rows e.rows) (added d.columns e.columns)

abbrev pub opposite_of : Exponents → Exponents
opposite_of e = exponents (negated e.rows) (negated e.columns)
