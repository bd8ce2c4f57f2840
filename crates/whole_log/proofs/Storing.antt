-- The three returns of the call that stores a logarithm: a wrong length, a logarithm, a refusal of x.
use mathlib.Core.Path.{◌≡◌, refl, sym, ap, ◌∙◌, subst}
use mathlib.Core.Bool.{Bool, true, false, cond}
use mathlib.Core.List.{List, [], ◌∷◌}
use mathlib.Core.Logic.{◌≢◌}
use Prim.Native.Nat.{ℕ, zero, suc}
use native.Mathlib.Omega.{arith}
use borrow.Author.Tests.{eq-eqb, ne_eqb}
use lib.Dec.{T, eqb}
use Rattle.std.specs.Prelude.{Result, Ok, Err}
use lib.IntN.{ℤ}
use lib.Ieee.{Float, nan, inf, fin, binary64, fits}
use lib.ListN.{length, set}
use Rattle.refusal.specs.Refusal.{accepted, slice_length, value_not_finite}
use Rattle.refusal.specs.Listed.{listed, OneOf, stored_log_numbers}
use Rattle.refusal.specs.Number.{fault_of}
use Rattle.whole_log.specs.Log.{value_of, log_fault, whole_log, Answer}
use Rattle.slices.specs.Outcome.{outcome_is, as_number}
use Rattle.slices.proofs.Refusing.{refused_is, done_is}
use Rattle.whole_log.specs.Stored.{stored_fault, Promises}
use Rattle.whole_log.proofs.Theorems.{number_is, log_correct}

-- 0, 3 and 9 are the numbers answered
pub stored_listed : (x : Float) (p : List ℤ) → OneOf stored_log_numbers (stored_fault x p)
unfolding listed
stored_listed x p = go (eqb (length p) 1) x
  where
    go : (b : Bool) (x : Float) → OneOf stored_log_numbers (cond b (log_fault x) slice_length)
    go false x = refl
    go true nan = refl
    go true (inf s) = refl
    go true (fin s zero e) = refl
    go true (fin s (suc m) e) = refl

-- a store into a list of one place
only : (p : List ℤ) (z : ℤ) → length p ≡ 1 → set p 0 z ≡ z ∷ []
only [] z h = let w : ⊥ = omega arith in absurd w
only (y ∷ []) z h = refl
only (y ∷ w ∷ p) z h = let w : ⊥ = omega arith in absurd w

in_list : (x : Float) (p : List ℤ) {number : ℕ} → number ≡ stored_fault x p → OneOf stored_log_numbers number
in_list x p e = subst (OneOf stored_log_numbers) (sym e) (stored_listed x p)

-- a refusal leaves the slice
by_refusal : (x : Float) (p : List ℤ) (fault : ℕ) → suc fault ≡ stored_fault x p → Promises x p (suc fault) p
by_refusal x p fault e = record {
  outcome = refused_is as_number (outcome_is accepted (value_of (whole_log x) ∷ [])) p e (λ z. let w : ⊥ = omega (arith, z) in absurd w);
  bounds = λ h. let w : ⊥ = omega arith in absurd w;
  number = in_list x p e;
}

pub other_length : (x : Float) (p : List ℤ) → length p ≢ 1 → Promises x p slice_length p
other_length x p h = by_refusal x p 2 (sym (ap (λ (b : Bool). cond b (log_fault x) slice_length) (ne_eqb (length p) 1 h)))

-- with one place the fault is that of x
one_place : (x : Float) (p : List ℤ) → length p ≡ 1 → stored_fault x p ≡ log_fault x
one_place x p h = ap (λ (b : Bool). cond b (log_fault x) slice_length) (eq-eqb (length p) 1 h)

pub found : (x : Float) (p : List ℤ) (log z : ℤ) → T (fits binary64 x) → length p ≡ 1 → whole_log x ≡ Ok log → z ≡ log → Promises x p accepted (set p 0 z)
found x p log z t h e k =
    let n : stored_fault x p ≡ accepted = one_place x p h ∙ sym (number_is x) ∙ ap fault_of e in
    let s : set p 0 z ≡ log ∷ [] = only p z h ∙ ap (λ (a : ℤ). a ∷ []) k in
    let v : set p 0 z ≡ value_of (whole_log x) ∷ [] = s ∙ sym (ap (λ (a : Result ℤ ℕ). value_of a ∷ []) e) in
    record {
      outcome = done_is as_number (outcome_is accepted (value_of (whole_log x) ∷ [])) p n (ap (λ (a : List ℤ). outcome_is accepted a) v);
      bounds = λ _. (log, s, subst (Answer x) e (log_correct x t));
      number = in_list x p (sym n);
    }

-- and a refusal's is 9
nine : (x : Float) (number : ℕ) → whole_log x ≡ Err number → number ≡ value_not_finite
unfolding whole_log
nine nan number e = sym (ap fault_of e)
nine (inf s) number e = sym (ap fault_of e)
nine (fin s zero k) number e = sym (ap fault_of e)
nine (fin s (suc m) k) number e = cc

pub refused : (x : Float) (p : List ℤ) (number : ℕ) → length p ≡ 1 → whole_log x ≡ Err number → Promises x p number p
refused x p number h e =
    let n : value_not_finite ≡ stored_fault x p = sym (nine x number e) ∙ sym (ap fault_of e) ∙ number_is x ∙ sym (one_place x p h) in
    subst (λ (k : ℕ). Promises x p k p) (sym (nine x number e)) (by_refusal x p 8 n)
