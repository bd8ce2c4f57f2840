-- The lists of factors and the call: differences place by place, the numbers answered, and what a refusal and an accepted call leave.
use mathlib.Core.Path.{◌≡◌, refl, sym, ap, ap₂, ◌∙◌, subst}
use mathlib.Core.Logic.{◌≢◌}
use mathlib.Core.Bool.{Bool, true}
use mathlib.Core.List.{List, [], ◌∷◌, map}
use Prim.Native.Nat.{ℕ, zero, suc, ◌<◌}
use native.Mathlib.Nat.{suc_inj, not-suc-le-zero}
use native.Mathlib.Omega.{arith}
use borrow.Author.Tests.{eqb-true}
use lib.Dec.{eqb, leb}
use lib.IntN.{ℤ}
use lib.Ieee.{Float, nan, binary64, sub}
use lib.ListN.{length, get_or, get_or-map}
use Rattle.refusal.specs.Refusal.{exponent_range}
use Rattle.refusal.specs.Listed.{listed, exponent_numbers, OneOf}
use Rattle.slices.proofs.Bools.{both}
use Rattle.slices.specs.Outcome.{outcome_is, refusing, as_number}
use Rattle.sparse.specs.Fault.{unless}
use Rattle.sparse.specs.Validate.{size_fault}
use Rattle.sparse.proofs.First.{unless_holds, all_zero}
use Rattle.sparse.proofs.Listed.{Listed, test, or_listed, first_listed}
use Rattle.sparse.proofs.Accepted.{sizes_accepted}
use Rattle.exponents_powers.specs.Power.{exponents, within_limit}
use Rattle.exponents.specs.Exponent.{exponent_of, factor_fits}
use Rattle.exponents.specs.Call.{Duals, differences, row_factors, column_factors, lengths_fit, factors_fault, exponents_fault, make_exponents, set_of, Promises}
use Rattle.exponents.specs.inner.Steps.{Exponent}

-- ---- differences
pub differences_length : (v cmax : List Float) → length cmax ≡ length v → length (differences v cmax) ≡ length v
unfolding differences
differences_length [] cmax h = refl
differences_length (x ∷ v) [] h = let z : ⊥ = omega arith in absurd z
differences_length (x ∷ v) (c ∷ cmax) h = ap suc (differences_length v cmax (suc_inj h))

pub difference_at : (v cmax : List Float) → length cmax ≡ length v → (j : ℕ) → j < length v → get_or (differences v cmax) j nan ≡ sub binary64
    (get_or v j nan) (get_or cmax j nan)
unfolding differences
difference_at [] cmax h j l = absurd (not-suc-le-zero l)
difference_at (x ∷ v) [] h j l = let z : ⊥ = omega arith in absurd z
difference_at (x ∷ v) (c ∷ cmax) h zero l = refl
difference_at (x ∷ v) (c ∷ cmax) h (suc j) l = difference_at v cmax (suc_inj h) j (omega arith)

-- ---- a list of factors without a fault
pub factor_fits_lem : (l : List Float) → factors_fault l ≡ 0 → (i : ℕ) → i < length l → factor_fits (get_or l i nan) ≡ true
unfolding factors_fault
factor_fits_lem l h i b = unless_holds (factor_fits (get_or l i nan)) exponent_range (omega arith) ((all_zero _ (length l)).0 h i b)

-- what is written at i is what the definition has there
pub exponent_at_lem : (l : List Float) (i : ℕ) {r : ℤ} → Exponent (get_or l i nan) r → factor_fits (get_or l i nan) ≡ true → r ≡ get_or (map exponent_of l) i
    (exponent_of nan)
exponent_at_lem l i e f = e.is f ∙ sym (get_or-map exponent_of l i nan)

-- the test of a factor, by the exponent that was found
pub tested : {x y : Float} {r read : ℤ} {t : Bool} → x ≡ y → Exponent x r → read ≡ r → t ≡ within_limit read → factor_fits y ≡ t
tested e found same q = sym (q ∙ ap within_limit same ∙ found.fits ∙ ap factor_fits e)

-- ---- the lengths
pub record Fitting (n : ℕ) (d : Duals) (rows columns : ℕ) : Type 0 where
  pub of_u : length d.u ≡ n
  pub of_v : length d.v ≡ n
  pub of_cmax : length d.cmax ≡ n
  pub of_rows : rows ≡ n
  pub of_columns : columns ≡ n

pub fitting : (n : ℕ) (d : Duals) (rows columns : ℕ) → size_fault n 0 0 (lengths_fit n d rows columns) ≡ 0 → Fitting n d rows columns
unfolding lengths_fit
fitting n d rows columns z =
    let t = ((sizes_accepted n 0 0 (lengths_fit n d rows columns)).0 z).2 in
    let a = both (eqb (length d.u) n) _ t in
    let b = both (eqb (length d.v) n) _ a.1 in
    let c = both (eqb (length d.cmax) n) _ b.1 in
    let e = both (eqb rows n) (eqb columns n) c.1 in
    record { of_u = eqb-true _ _ a.0; of_v = eqb-true _ _ b.0; of_cmax = eqb-true _ _ c.0; of_rows = eqb-true _ _ e.0; of_columns = eqb-true _ _ e.1 }

-- ---- the number answered
-- with no entries to count there is no 2
sizes_listed : (n : ℕ) (t : Bool) → Listed exponent_numbers (size_fault n 0 0 t)
unfolding size_fault listed
sizes_listed n t = or_listed {a = unless (leb n 4096) 1} (test (leb n 4096) 1 refl refl) (test t 3 refl refl)

pub numbered : (n : ℕ) (d : Duals) (rows columns : ℕ) {fault : ℕ} → fault ≡ exponents_fault n d rows columns → OneOf exponent_numbers fault
unfolding exponents_fault factors_fault listed size_fault
numbered n d rows columns q = subst (OneOf exponent_numbers) (sym q) (or_listed sizes (or_listed (factors (row_factors d)) (factors (column_factors d)))).is
  where
    sizes : Listed exponent_numbers (size_fault n 0 0 (lengths_fit n d rows columns))
    sizes = sizes_listed n (lengths_fit n d rows columns)

    factors : (l : List Float) → Listed exponent_numbers (factors_fault l)
    factors l = first_listed (length l) 0 refl (λ i. test (factor_fits (get_or l i nan)) exponent_range refl refl)

-- ---- a refusal, and an accepted call
module _ (n : ℕ) (d : Duals) (rows columns : List ℤ) {fault : ℕ} (q : fault ≡ exponents_fault n d (length rows) (length columns)) where
  pub refuses : fault ≢ 0 → Promises n d rows columns fault rows columns
  unfolding make_exponents
  refuses z =
      record {
        outcome = go fault z ∙ ap (λ (f : ℕ). refusing as_number f (outcome_is 0 (set_of d)) (exponents rows columns)) q;
        number = numbered n d (length rows) (length columns) q;
      }
    where
      go : (f : ℕ) → f ≢ 0 → outcome_is f (exponents rows columns) ≡ refusing as_number f (outcome_is 0 (set_of d)) (exponents rows columns)
      go zero z = absurd (z refl)
      go (suc f) z = refl

pub accepts : (n : ℕ) (d : Duals) (rows columns : List ℤ) → exponents_fault n d (length rows) (length columns) ≡ 0 → {r c : List ℤ}
    → r ≡ map exponent_of (row_factors d) → c ≡ map exponent_of (column_factors d)
    → Promises n d rows columns 0 r c
unfolding make_exponents
accepts n d rows columns z e f =
    record {
      outcome =
          ap₂ (λ (a b : List ℤ). outcome_is 0 (exponents a b)) e f
          ∙ sym (ap (λ (x : ℕ). refusing as_number x (outcome_is 0 (set_of d)) (exponents rows columns)) z);
      number = numbered n d (length rows) (length columns) (sym z);
    }
