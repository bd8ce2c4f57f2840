-- The code's test of an entry is the definition's, for all doubles: by the order of their positions, where neither is a NaN.
use mathlib.Core.Path.{◌≡◌, refl, sym, subst}
use mathlib.Core.Bool.{Bool, true, false, not, ◌&&◌, ◌||◌}
use Prim.Native.Nat.{ℕ}
use native.Mathlib.Decide.{ℕ_discrete}
use native.Mathlib.Nat.{lt_irrefl}
use lib.Dec.{T, ltb, eqb, ltb→lt, eqb→eq, eqb_refl}
use lib.Ieee.{Float, nan, inf, fin, binary64, fits, lt, le, eq, ne, is_nan}
use Rattle.float64.specs.Constants.{rinf}
use Rattle.float64.specs.inner.Keys.{Ordered, position}
use Rattle.float64.proofs.Constants.{rinf_number}
use Rattle.float64.proofs.Order.{lt_key, eq_key}
use Rattle.float64.proofs.WholeNumbers.{ordered}
use Rattle.slices.proofs.Bools.{same_test}

-- ---- of numbers

-- of equals: r says that they are the limit, free and kept whose rows are free
of_equals : (r free kept : Bool) → (r || (free && not kept)) ≡ not (not r && (not free || kept))
of_equals true free kept = refl
of_equals false true kept = refl
of_equals false false kept = refl

of_others : (x y : Bool) → (not (x || false) || (not x && y)) ≡ (not x && true)
of_others true y = refl
of_others false y = refl

same_of_numbers : (p q r : ℕ) (free kept : Bool)
    → (not (ltb p q || eqb p q) || (not (ltb p q) && (eqb p r || (free && not kept))))
    ≡ (not (ltb p q) && not (eqb q p && not (eqb q r) && (not free || kept)))
same_of_numbers p q r free kept = go (ℕ_discrete p q)
  where
    go : Dec (p ≡ q) → (not (ltb p q || eqb p q) || (not (ltb p q) && (eqb p r || (free && not kept))))
        ≡ (not (ltb p q) && not (eqb q p && not (eqb q r) && (not free || kept)))
    go (yes e) =
        let less : ltb p p ≡ false = same_test (ltb p p) false (λ t. lt_irrefl p (ltb→lt p p t)) (λ t. absurd t) in
        let same : eqb p p ≡ true = same_test (eqb p p) true (λ t. tt) (λ t. eqb_refl p) in
        subst
        (λ (q : ℕ). (not (ltb p q || eqb p q) || (not (ltb p q) && (eqb p r || (free && not kept))))
        ≡ (not (ltb p q) && not (eqb q p && not (eqb q r) && (not free || kept))))
        e (rw (less, same) (of_equals (eqb p r) free kept))
    go (no e) =
        let apart : eqb p q ≡ false = same_test (eqb p q) false (λ t. e (eqb→eq p q t)) (λ t. absurd t) in
        let apart' : eqb q p ≡ false = same_test (eqb q p) false (λ t. e (sym (eqb→eq q p t))) (λ t. absurd t) in
        rw (apart, apart') (of_others (ltb p q) (eqb p r || (free && not kept)))

-- ---- of doubles

-- b: the kept value, v: the entry's
abbrev pub Same : Float → Float → Bool → Bool → Type 0
Same b v free kept = (not (le b v) || (not (lt b v) && (eq b rinf || (free && not kept))))
    ≡ (not (lt b v) && not (eq v b && ne v rinf && (not free || kept)))

by_positions : (b v : Float) (free kept : Bool) → Ordered b → Ordered v → Same b v free kept
unfolding le ne
by_positions b v free kept x y =
    rw (lt_key b v x y, eq_key b v x y, eq_key v b y x, eq_key b rinf x (ordered rinf rinf_number), eq_key v rinf y (ordered rinf rinf_number))
    (same_of_numbers (position b) (position v) (position rinf) free kept)

pub same : (b v : Float) (free kept : Bool) → T (fits binary64 b) → T (fits binary64 v) → Same b v free kept
unfolding le ne lt eq is_nan
same nan nan free kept p q = refl
same nan (inf s) free kept p q = refl
same nan (fin s m e) free kept p q = refl
same (inf s) nan free kept p q = refl
same (fin s m e) nan free kept p q = refl
same (inf s) (inf t) free kept p q =
    by_positions (inf s) (inf t) free kept (record { double = p; not_nan = tt }) (record { double = q; not_nan = tt })
same (inf s) (fin t n d) free kept p q =
    by_positions (inf s) (fin t n d) free kept (record { double = p; not_nan = tt }) (record { double = q; not_nan = tt })
same (fin s m e) (inf t) free kept p q =
    by_positions (fin s m e) (inf t) free kept (record { double = p; not_nan = tt }) (record { double = q; not_nan = tt })
same (fin s m e) (fin t n d) free kept p q =
    by_positions (fin s m e) (fin t n d) free kept (record { double = p; not_nan = tt }) (record { double = q; not_nan = tt })
