-- The cases that `sqrt` tells apart by comparing with zero and by the bits, each with the answer that the definition gives there.
use mathlib.Core.Path.{◌≡◌, refl, sym, ap, ◌∙◌, subst}
use mathlib.Core.Bool.{Bool, true, false, not, ◌||◌, beq, true≢false, false≢true}
use Prim.Native.Nat.{ℕ, zero, suc, ◌*◌, ◌^◌, ◌≤◌, ◌<◌}
use native.Mathlib.Nat.{mul-pos, zero-lt-suc}
use native.Mathlib.Omega.{arith}
use borrow.Author.Tests.{ltb-true, ltb-false}
use lib.IntN.{ℤ}
use lib.Dec.{T, eqb, eqb→eq, lit<}
use Rattle.std.specs.Prelude.{Ok, Err}
use lib.Ieee.{Float, nan, inf, fin, binary64, up, down, level, lt, eq, fits, is_nan, of_bits, to_bits}
use lib.Ieee.Bits.{of_bits-to_bits}
use lib.Ieee.Fits.{up_pos, and_l}
use Rattle.refusal.specs.Refusal.{no_root}
use Rattle.square_root.specs.Root.{square, root_of, sqrt_of}
use Rattle.float64.proofs.Bits.{bits_in, some_bits}

-- either zero equals zero
zero_is_zero : (s : Bool) (a b : ℕ) → a ≡ 0 → b ≡ 0 → level s a false b ≡ true
zero_is_zero true a b p q = ap (λ (n : ℕ). level true n false b) p ∙ ap (λ (n : ℕ). level true 0 false n) q
zero_is_zero false a b p q = ap (λ (n : ℕ). level false n false b) p ∙ ap (λ (n : ℕ). level false 0 false n) q

-- what is above zero
pub data Above : Float → Type 0 where
  infinite : Above (inf false)
  number : (m : ℕ) (e : ℤ) → Above (fin false (suc m) e)

pub above : (x : Float) → lt (of_bits binary64 0) x ≡ true → Above x
unfolding lt of_bits
above nan h = absurd (false≢true h)
above (inf true) h = absurd (false≢true h)
above (inf false) h = infinite
above (fin true m e) h = absurd (false≢true h)
above (fin false zero e) h = absurd (let l = ltb-true (0 * 1 * down e) (0 * up e * 1) h in omega arith)
above (fin false (suc m) e) h = number m e

pub above_no_nan : {x : Float} → Above x → T (not (is_nan x))
unfolding is_nan
above_no_nan infinite = tt
above_no_nan (number m e) = tt

pub above_bits : {x : Float} → Above x → T (fits binary64 x) → 0 < to_bits binary64 x
above_bits infinite t = unfold to_bits in lit< tt
above_bits (number m e) t = some_bits m e t

-- ---- the answers

pub finite_answer : {x : Float} → Above x → T (fits binary64 x) → to_bits binary64 x < 2047 * 2 ^ 52
    → sqrt_of x ≡ Ok (root_of (square (of_bits binary64 (to_bits binary64 x))))
unfolding sqrt_of
finite_answer infinite t h = absurd (let l : 2047 * 2 ^ 52 < 2047 * 2 ^ 52 = unfold to_bits in h in omega arith)
finite_answer (number m e) t h = ap (λ (z : Float). Ok (root_of (square z))) (sym (of_bits-to_bits binary64 (fin false (suc m) e) t))

pub infinite_answer : {x : Float} → Above x → T (fits binary64 x) → 2047 * 2 ^ 52 ≤ to_bits binary64 x → sqrt_of x ≡ Ok x
unfolding sqrt_of
infinite_answer infinite t h = refl
infinite_answer (number m e) t h = absurd (let l = bits_in (fin false (suc m) e) (record { double = t; is_finite = tt }) refl in omega arith)

pub zero_answer : (x : Float) → eq x (of_bits binary64 0) ≡ true → sqrt_of x ≡ Ok x
unfolding sqrt_of eq of_bits
zero_answer nan h = absurd (false≢true h)
zero_answer (inf s) h = absurd (false≢true h)
zero_answer (fin s zero e) h = refl
zero_answer (fin s (suc m) e) h =
    absurd
    (let l : suc m * up e * 1 ≡ 0 * 1 * down e =
    eqb→eq (suc m * up e * 1) (0 * 1 * down e)
    (and_l (eqb (suc m * up e * 1) (0 * 1 * down e)) (beq s false || eqb (suc m * up e * 1) 0) (subst T (sym h) tt)) in
    let g : 0 < suc m * up e = mul-pos (zero-lt-suc m) (up_pos e) in
    omega arith)

pub refused_answer : (x : Float) → lt (of_bits binary64 0) x ≡ false → eq x (of_bits binary64 0) ≡ false → sqrt_of x ≡ Err no_root
unfolding sqrt_of lt eq of_bits
refused_answer nan h g = refl
refused_answer (inf true) h g = refl
refused_answer (inf false) h g = absurd (true≢false h)
refused_answer (fin s zero e) h g = absurd (true≢false (sym (zero_is_zero s (0 * up e * 1) (0 * 1 * down e) (omega arith) (omega arith)) ∙ g))
refused_answer (fin true (suc m) e) h g = refl
refused_answer (fin false (suc m) e) h g =
    absurd
    (let l = ltb-false (0 * 1 * down e) (suc m * up e * 1) h in
    let g : 0 < suc m * up e = mul-pos (zero-lt-suc m) (up_pos e) in
    omega arith)
