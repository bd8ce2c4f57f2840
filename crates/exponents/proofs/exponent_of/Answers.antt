-- A factor that fails a test has no exponent, since one that has passes both; of any other the bits count the whole number.
use Rattle.std.proofs.Common.{◌≡◌, Bool, not, ◌&&◌, T, ℤ, pos, ◌-ℤ◌, Float, w32, FitsSigned, to_z, of_z, sym, ap, ap₂, ◌∙◌, subst, rules, arith}
use Rattle.std.proofs.lemmas.Bool.{false≢true}
use lib.Ieee.{binary64, fits, add, sub, eq, ne, le}
use lib.Ieee.Fits.{add-fits}
use borrow.Author.Tests.{not-false}
use mir.ValLaws.{to_z-of_z}
use Rattle.slices.proofs.Bools.{both}
use Rattle.exponents.specs.inner.Steps.{Exponent}
use Rattle.exponents.proofs.Moved.{middle, least, most, Counted, counted, passes, raised_bits, raised_fits, lowered_fits, exponent_found, exponent_none}
use Rattle.exponents.proofs.exponent_of.Goals as goal
use Rattle.exponents.proofs.exponent_of.Goals.{Start, Else-not-moved}

double : (c : Start) → T (fits binary64 c.args.factor)
double c = subst T (sym c.well_formed.0.1) tt

-- the factor, moved
abbrev moved : Float → Float
moved x = add binary64 x middle

place : (c : Else-not-moved) → Counted (moved c.args.factor)
place c =
    let y = moved c.args.factor in
    let t = both (le least y) (le y most) c.if-not-moved.false in
    counted y (add-fits binary64 c.args.factor middle) t.0 t.1

-- the difference, as it is read
read : (c : Else-not-moved) → let q = raised_bits (moved c.args.factor) in to_z w32 (of_z w32 (pos q)) -ℤ to_z w32 134217728 ≡ pos q -ℤ pos 134217728
read c = let p = place c in ap (λ (z : ℤ). z -ℤ pos 134217728) (to_z-of_z w32 (pos (raised_bits (moved c.args.factor))) (raised_fits p))

pub returns-then-not-moved : goal.returns-then-not-moved
returns-then-not-moved c =
    let x = c.args.factor in
    let d = double (goal.at.returns-then-not-moved c).Start in
    exponent_none x
    (λ t. let p = passes x d t in false≢true (sym (ap₂ (λ (a b : Bool). not (a && b)) p.0 p.1) ∙ (ap not c.if-not-moved.true)))

pub returns-then-moved-factor : goal.returns-then-moved-factor
unfolding ne
returns-then-moved-factor c =
    let x = c.args.factor in
    let d = double (goal.at.returns-then-moved-factor c).Start in
    exponent_none x (λ t. let p = passes x d t in false≢true (sym (ap not p.2) ∙ c.if-moved-factor.true))

pub overflow_sub-raised : goal.overflow_sub-raised
overflow_sub-raised c = let p = place (goal.at.overflow_sub-raised c).Else-not-moved in omega (arith, p.bits, p.low)

pub overflow_cast-result : goal.overflow_cast-result
overflow_cast-result c = raised_fits (place (goal.at.overflow_cast-result c).Else-not-moved)

pub overflow_sub-result : goal.overflow_sub-result
overflow_sub-result c =
    let at = (goal.at.overflow_sub-result c).Else-not-moved in
    subst (FitsSigned w32) (sym (read at)) (lowered_fits (place at))

pub returns : goal.returns
unfolding ne
returns c =
    let at = goal.at.returns c in
    let x = c.args.factor in
    let y = moved x in
    let p = place at.Else-not-moved in
    let r = pos (raised_bits y) -ℤ pos 134217728 in
    subst (Exponent x) (sym (ap (λ (z : ℤ). to_z w32 (of_z w32 z)) (read at.Else-not-moved) ∙ to_z-of_z w32 r (lowered_fits p)))
    (exponent_found x y (double at.Start) p (not-false (eq (sub binary64 y middle) x) (search rules)))
