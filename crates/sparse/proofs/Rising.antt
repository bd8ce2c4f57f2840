-- A column has no fault exactly if its rows rise to one below n: every row is below the last one, or it.
use mathlib.Core.Path.{◌≡◌, refl, sym, ◌∙◌}
use mathlib.Core.Bool.{Bool, true, false, cond, ◌&&◌}
use mathlib.Core.List.{List}
use mathlib.Core.Logic.{◌↔◌}
use Prim.Native.Nat.{ℕ, zero, suc, pred, ◌+◌, ◌-◌, ◌≤◌, ◌<◌, zero-le}
use native.Mathlib.Nat.{le_refl}
use native.Mathlib.Omega.{arith}
use borrow.Author.Tests.{ltb-true, leb-false, lt-ltb, eqb-true, eq-eqb}
use lib.Dec.{ltb, leb, eqb}
use lib.ListN.{get_or}
use Rattle.sparse.specs.Fault.{or_else}
use Rattle.sparse.specs.Validate.{general_column, general_entry, lower_column, lower_entry, rising_column, rising_pair}
use Rattle.slices.proofs.Bools.{both}
use Rattle.sparse.proofs.Accepted.{general_entry_lem, lower_entry_lem, rising_pair_lem}
use Rattle.sparse.proofs.First.{or-none, span_zero}
use Rattle.sparse.proofs.Entries.{general_right}

-- the rows from `from` on rise, below k
abbrev pub RisesTo : List ℕ → ℕ → ℕ → Type 0
RisesTo rows from k = (i : ℕ) → from ≤ i → suc i < k → get_or rows i 0 < get_or rows (suc i) 0

-- no row is above the last
below_last : (rows : List ℕ) (from last : ℕ) → RisesTo rows from (suc last) → (d i : ℕ) → from ≤ i → i + d ≡ last → get_or rows i 0 ≤ get_or rows last 0
below_last rows from last r zero i l e = let q : i ≡ last = omega arith in rw q (le_refl (get_or rows last 0))
below_last rows from last r (suc d) i l e = let p = r i l (omega arith) in let q = below_last rows from last r d (suc i) (omega arith) (omega arith) in
    omega arith

risen : (n : ℕ) (rows : List ℕ) (from to : ℕ) → from < to → RisesTo rows from to → get_or rows (to - 1) 0 < n → general_column n rows from to ≡ 0
unfolding general_column
risen n rows from to p r h =
    (span_zero (general_entry n rows from) from to).1 (λ k l b. general_right n rows k from (inside k l b) (above k (leb k from) refl l b))
  where
    inside : (k : ℕ) → from ≤ k → k < to → get_or rows k 0 < n
    inside k l b = let q = below_last rows from (to - 1) (λ i m u. r i m (omega arith)) (to - 1 - k) k l (omega arith) in omega arith

    before : (k : ℕ) → from < k → k < to → get_or rows (pred k) 0 < get_or rows k 0
    before zero l b = absurd (omega arith)
    before (suc k) l b = r k (omega arith) b

    above : (k : ℕ) (first : Bool) → leb k from ≡ first → from ≤ k → k < to → cond first 0 (get_or rows (pred k) 0 + 1) ≤ get_or rows k 0
    above k true e l b = zero-le
    above k false e l b = let q = before k (leb-false _ _ e) b in omega arith

pub none_risen : (n : ℕ) (rows : List ℕ) (from to : ℕ) → from ≡ to → general_column n rows from to ≡ 0
unfolding general_column
none_risen n rows from to e = (span_zero (general_entry n rows from) from to).1 (λ k l b. absurd (omega arith))

-- each place of a column without a fault
entry_right : (n : ℕ) (rows : List ℕ) (from to : ℕ) → general_column n rows from to ≡ 0 → (k : ℕ) → from ≤ k → k < to → (get_or rows k 0 < n)
    × (from < k → get_or rows (pred k) 0 < get_or rows k 0)
unfolding general_column
entry_right n rows from to e k l u = (general_entry_lem n rows from k).0 ((span_zero (general_entry n rows from) from to).0 e k l u)

pub rises_end : (n : ℕ) (rows : List ℕ) (from to k : ℕ) (fine : Bool) → from < k → k ≡ to → (fine ≡ true) ↔ RisesTo rows from k
    → (fine && ltb (get_or rows (to - 1) 0) n) ≡ eqb (general_column n rows from to) 0
rises_end n rows from to k fine p e r = agree _ _ forth back
  where
    agree : (a b : Bool) → (a ≡ true → b ≡ true) → (b ≡ true → a ≡ true) → a ≡ b
    agree true b f g = sym (f refl)
    agree false true f g = g refl
    agree false false f g = refl

    forth : (fine && ltb (get_or rows (to - 1) 0) n) ≡ true → eqb (general_column n rows from to) 0 ≡ true
    forth t =
        let b = both fine _ t in
        eq-eqb _ _ (risen n rows from to (omega arith) (λ i l h. r.0 b.0 i l (omega arith)) (ltb-true _ _ b.1))

    back : eqb (general_column n rows from to) 0 ≡ true → (fine && ltb (get_or rows (to - 1) 0) n) ≡ true
    back t =
        let z : general_column n rows from to ≡ 0 = eqb-true _ _ t in
        let fits : fine ≡ true = r.1 (λ i l h. (entry_right n rows from to z (suc i) (omega arith) (omega arith)).1 (omega arith)) in
        rw (fits, lt-ltb (get_or rows (to - 1) 0) n (entry_right n rows from to z (to - 1) (omega arith) (omega arith)).0) refl

-- ---- symmetric: nor has one whose first row is not above the diagonal
module _ (n : ℕ) (rows : List ℕ) (j from to : ℕ) where
  pub lower_risen : (from < to → j ≤ get_or rows from 0) → general_column n rows from to ≡ 0 → or_else (lower_column n rows j from to)
      (rising_column rows from to) ≡ 0
  unfolding lower_column rising_column
  lower_risen first e =
      or-none ((span_zero (lower_entry n rows j) from to).1 (λ k l u. (lower_entry_lem n rows j k).1 ((entry k l u).0, low (k - from) k (omega arith) u)))
      ∙ (span_zero (rising_pair rows) from (pred to)).1 (λ k l u. (rising_pair_lem rows k).1 ((entry (suc k) (omega arith) (omega arith)).1 (omega arith)))
    where
      entry : (k : ℕ) → from ≤ k → k < to → (get_or rows k 0 < n) × (from < k → get_or rows (pred k) 0 < get_or rows k 0)
      entry = entry_right n rows from to e

      low : (d k : ℕ) → k ≡ from + d → k < to → j ≤ get_or rows k 0
      low zero k q u = let e : k ≡ from = omega arith in rw e (first (omega arith))
      low (suc d) zero q u = absurd (omega arith)
      low (suc d) (suc k) q u = let r = (entry (suc k) (omega arith) u).1 (omega arith) in let s = low d k (omega arith) (omega arith) in omega arith
