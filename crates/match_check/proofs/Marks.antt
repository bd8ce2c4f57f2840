-- The test of the pairs by marks of rows: after j columns a row is marked exactly if one of them has it.
use mathlib.Core.Path.{◌≡◌, refl, sym, ap, ◌∙◌, subst}
use mathlib.Core.Bool.{Bool, true, false, not, cond, ◌||◌}
use mathlib.Core.List.{List}
use Prim.Native.Nat.{ℕ, ◌+◌, ◌≤◌, ◌<◌}
use native.Mathlib.Nat.{zero-add}
use native.Mathlib.Numerals.{add-one}
use native.Mathlib.Decide.{ℕ_discrete}
use native.Mathlib.Omega.{arith}
use borrow.Author.Tests.{eq-eqb, ne_eqb, ltb-true}
use lib.Dec.{T, eqb, ltb}
use lib.Ieee.Bits.{is_true}
use lib.ListN.{length, get_or, set, replicate, length-set}
use lib.Seq.{get_or-set_same, get_or-set_other}
use Rattle.slices.proofs.Lists.{zeros}
use Rattle.sparse.specs.Pattern.{Pattern}
use Rattle.match_check.specs.Check.{some_of, taken_before, rows_below, rows_once, pairs_stand, pairing_fits}
use Rattle.match_check.proofs.Every.{some_more, every_first}

abbrev pub Marked : List ℕ → ℕ → List ℕ → Type 0
Marked perm j seen = (i : ℕ) → i < length seen → get_or seen i 0 ≡ cond (taken_before perm j i) 1 0

-- a mark that is clear says: not taken
pub clear_is : (perm : List ℕ) (j : ℕ) (seen : List ℕ) → Marked perm j seen → (i : ℕ) → i < length seen → eqb (get_or seen i 0) 0 ≡ not (taken_before perm j i)
clear_is perm j seen m i h = ap (λ (a : ℕ). eqb a 0) (m i h) ∙ go (taken_before perm j i)
  where
    go : (b : Bool) → eqb (cond b 1 0) 0 ≡ not b
    go true = refl
    go false = refl

pub marks_begin : (perm : List ℕ) (m : ℕ) → Marked perm 0 (replicate m 0)
unfolding some_of
marks_begin perm m i h = zeros m i

-- one column more
taken_more : (perm : List ℕ) (j i : ℕ) → taken_before perm (j + 1) i ≡ (taken_before perm j i || eqb (get_or perm j 0) i)
taken_more perm j i =
    ap (λ (m : ℕ). some_of m (λ c. eqb (get_or perm c 0) i) 0) (add-one j)
    ∙ some_more (λ c. eqb (get_or perm c 0) i) j 0
    ∙ ap (λ (m : ℕ). taken_before perm j i || eqb (get_or perm m 0) i) (zero-add j)

pub marks_go_on : (perm : List ℕ) (j : ℕ) (seen : List ℕ) → get_or perm j 0 < length seen → Marked perm j seen → Marked perm (j + 1) (set seen (get_or perm j 0) 1)
marks_go_on perm j seen b m i h = go (ℕ_discrete i (get_or perm j 0))
  where
    taken : (a : Bool) → (a || true) ≡ true
    taken true = refl
    taken false = refl

    free : (a : Bool) → (a || false) ≡ a
    free true = refl
    free false = refl

    go : Dec (i ≡ get_or perm j 0) → get_or (set seen (get_or perm j 0) 1) i 0 ≡ cond (taken_before perm (j + 1) i) 1 0
    go (yes e) =
        let t : taken_before perm (j + 1) i ≡ true =
        taken_more perm j i ∙ ap (λ (a : Bool). taken_before perm j i || a) (eq-eqb (get_or perm j 0) i (sym e)) ∙ taken (taken_before perm j i) in
        rw t (rw e (get_or-set_same seen (get_or perm j 0) 1 0 b))
    go (no n) =
        let t : taken_before perm (j + 1) i ≡ taken_before perm j i =
        taken_more perm j i ∙ ap (λ (a : Bool). taken_before perm j i || a) (ne_eqb (get_or perm j 0) i (λ e. n (sym e))) ∙ free (taken_before perm j i) in
        rw t (get_or-set_other seen (get_or perm j 0) i 1 0 n ∙ m i (rw length-set at h))

-- a row of the graph has a mark
pub row_in : (perm : List ℕ) → T (rows_below (length perm) perm) → length perm ≤ 4096 → (j : ℕ) → j < length perm → get_or perm j 0 < 4096
unfolding rows_below
row_in perm t few j h = let b =
    ltb-true (get_or perm j 0) (length perm) (every_first (λ i. ltb (get_or perm i 0) (length perm)) (length perm) (is_true _ t) j h) in omega arith

-- ---- the three tests of the pairs, one after the other
module _ (g : Pattern) (perm : List ℕ) {below : Bool} (b : below ≡ rows_below g.n perm) where
  pub lacks_rows : below ≡ false → false ≡ pairing_fits g perm
  unfolding pairing_fits
  lacks_rows t = let q : rows_below g.n perm ≡ false = sym b ∙ t in rw q refl

  module _ (t : below ≡ true) (l : length perm ≡ g.n) {once : Bool} (o : once ≡ rows_once (length perm) perm) where
    rows_are : rows_below g.n perm ≡ true
    rows_are = sym b ∙ t

    once_is : once ≡ rows_once g.n perm
    once_is = o ∙ ap (λ (m : ℕ). rows_once m perm) l

    pub lacks_once : once ≡ false → false ≡ pairing_fits g perm
    unfolding pairing_fits
    lacks_once z = let q : rows_once g.n perm ≡ false = sym once_is ∙ z in rw (rows_are, q) refl

    pub stands : once ≡ true → {stand : Bool} → stand ≡ pairs_stand g perm → stand ≡ pairing_fits g perm
    unfolding pairing_fits
    stands z e = let q : rows_once g.n perm ≡ true = sym once_is ∙ z in rw (rows_are, q) e

-- what the marking asks
pub rows_hold : (perm : List ℕ) {n : ℕ} {below : Bool} → length perm ≡ n → below ≡ rows_below n perm → below ≡ true → T (rows_below (length perm) perm)
rows_hold perm l b t = subst T (sym t ∙ b ∙ ap (λ (m : ℕ). rows_below m perm) (sym l)) tt
