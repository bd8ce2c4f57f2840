-- From the bits and their roots to the roots of the numbers; one place more of each.
use Rattle.std.proofs.Common.{◌≡◌, ℕ, ◌+◌, ◌<◌, Bool, true, not, T, List, length, get_or, set, sym, refl, ap, ◌∙◌, subst, arith, get_or-set_other, get_or-set_same}
use native.Mathlib.Decide.{ℕ_discrete}
use lib.Ieee.{Float, nan, binary64, lt, fits, is_nan, of_bits, nan_bits, to_bits}
use lib.Ieee.Bits.{of_bits-to_bits, nan_bits_is}
use Rattle.float64.specs.Constants as Constants
use Rattle.square_root.specs.Root.{value_of, sqrt_of}
use Rattle.square_root.proofs.Cases.{above, above_no_nan}
use Rattle.root_blocks.specs.inner.Blocks.{BitsOf, root_by, Taken, RootsBy, Roots}

-- the bits of a number above zero are no NaN's
pub own_bits : (x : Float) → lt Constants.zero x ≡ true → T (fits binary64 x) → T (not (nan_bits binary64 (to_bits binary64 x)))
own_bits x h t =
    subst (λ (b : Bool). T (not b)) (sym (nan_bits_is binary64 (to_bits binary64 x) ∙ ap is_nan (of_bits-to_bits binary64 x t))) (above_no_nan (above x h))

lane : (x : Float) {y : Float} (b : ℕ) → BitsOf x b → y ≡ root_by b → lt Constants.zero x ≡ true → y ≡ value_of (sqrt_of x)
lane x b t r h =
    r ∙ ap (λ (z : Float). value_of (sqrt_of z)) (ap (of_bits binary64) (t.1 h).0 ∙ of_bits-to_bits binary64 x (t.1 h).1)

-- the numbers' bits and the roots of the bits give the numbers' roots
pub lanes : {numbers roots : List Float} {from : ℕ} {bits : List ℕ} → Taken numbers from bits 16 → RootsBy bits roots 16
    → Roots numbers from roots 16
lanes {numbers} {roots} {from} {bits} t r = record { at = λ i h p. lane (get_or numbers (from + i) nan) (get_or bits i 0) (t.at i h) (r.at i h) p }

-- 1 is its own root
pub one_root : Constants.one ≡ root_by 0x3FF0_0000_0000_0000
unfolding sqrt_of of_bits
one_root = refl

-- ---- one place more: what holds of each place written, whatever it is

pub placed : {A : Type 0} (P : ℕ → A → Type 0) (l : List A) (i : ℕ) (a z : A) → i < length l → ((j : ℕ) → j < i → P j (get_or l j z)) → P i a
    → (j : ℕ) → j < i + 1 → P j (get_or (set l i a) j z)
placed {A} P l i a z h p q j k = go (ℕ_discrete j i)
  where
    go : Dec (j ≡ i) → P j (get_or (set l i a) j z)
    go (yes e) = subst (λ (j : ℕ). P j (get_or (set l i a) j z)) (sym e) (subst (P i) (sym (get_or-set_same l i a z h)) q)
    go (no e) = subst (P j) (sym (get_or-set_other l i j a z e)) (p j (omega (arith, e)))
