-- Sorted triplets: none of the first k is in a later column than triplet k or in a later row of its column, and one of them has its
-- position exactly if the last one has. By comparing the numbers of positions.
use mathlib.Core.Path.{◌≡◌, refl, subst}
use mathlib.Core.Bool.{true, false, ◌||◌}
use mathlib.Core.List.{List}
use Prim.Native.Nat.{ℕ, zero, suc, ◌+◌, ◌-◌, ◌≤◌, ◌<◌}
use native.Mathlib.Nat.{le_refl, le_trans, add-zero, add-suc}
use native.Mathlib.Decide.{ℕ_discrete}
use native.Mathlib.Omega.{arith}
use borrow.Author.Tests.{eq-eqb, ne_eqb}
use lib.ListN.{length, get_or}
use Rattle.triplets.specs.Built.{stands, filled}
use Rattle.triplets_sorted.specs.inner.Steps.{position, Sorted, Repeat, Ready}
use Rattle.triplets_sorted.proofs.Prefix.{present}

module _ (rows cols : List ℕ) where
  -- a position that none of the first m triplets has
  pub absent : (i j m : ℕ) → ((x : ℕ) → x < m → get_or rows x 0 ≡ i → get_or cols x 0 ≡ j → ⊥) → filled rows cols i j m ≡ false
  unfolding filled
  absent i j zero h = refl
  absent i j (suc m) h =
      go (absent i j m (λ x l. h x (omega arith))) (ℕ_discrete (get_or rows m 0) i) (ℕ_discrete (get_or cols m 0) j)
    where
      go : filled rows cols i j m ≡ false → Dec (get_or rows m 0 ≡ i) → Dec (get_or cols m 0 ≡ j)
          → (filled rows cols i j m || stands rows cols i j m) ≡ false
      go f (yes e) (yes q) = absurd (h m (omega arith) e q)
      go f (no e) q = rw (f, ne_eqb (get_or rows m 0) i e)
      go f (yes e) (no q) = rw (f, eq-eqb (get_or rows m 0) i e, ne_eqb (get_or cols m 0) j q)

  module _ (ready : Ready rows cols) (sorted : Sorted rows cols) where
    climbs : (x d : ℕ) → x + d < length rows → position rows cols x ≤ position rows cols (x + d)
    climbs x zero h = rw (add-zero x) (le_refl (position rows cols x))
    climbs x (suc d) h = rw (add-suc x d) (le_trans (climbs x d (omega arith)) (sorted (x + d) (omega arith)))

    in_turn : (x y : ℕ) → x ≤ y → y < length rows → position rows cols x ≤ position rows cols y
    in_turn x y h l =
        let e : x + (y - x) ≡ y = omega arith in
        subst (λ (z : ℕ). position rows cols x ≤ position rows cols z) e (climbs x (y - x) (omega arith))

    module _ (k : ℕ) (h : k < length rows) where
      pub none_later : (i j : ℕ) → get_or cols k 0 < j → filled rows cols i j k ≡ false
      none_later i j l = absent i j k (λ x u e q. omega (arith, in_turn x k (omega arith) h, ready.rows_in k h, e, q))

      pub none_above : (i : ℕ) → get_or rows k 0 < i → filled rows cols i (get_or cols k 0) k ≡ false
      none_above i l = absent i (get_or cols k 0) k (λ x u e q. omega (arith, in_turn x k (omega arith) h, e, q))

      pub fresh : (Repeat rows cols k → ⊥) → filled rows cols (get_or rows k 0) (get_or cols k 0) k ≡ false
      fresh ne =
          absent (get_or rows k 0) (get_or cols k 0) k
          (λ x u e q.
          let some : 0 < k = omega arith in
          let before : position rows cols x ≤ position rows cols (k - 1) = in_turn x (k - 1) (omega arith) (omega arith) in
          let last : position rows cols (k - 1) ≤ position rows cols k = in_turn (k - 1) k (omega arith) h in
          ne (some, omega (arith, before, last, e, q)))

    pub repeated : (k : ℕ) → k < length rows → Repeat rows cols k → filled rows cols (get_or rows k 0) (get_or cols k 0) k ≡ true
    repeated k h r =
        let before : k - 1 < length rows = omega arith in
        let next : suc (k - 1) ≡ k = omega (arith, r.0) in
        let row : get_or rows k 0 ≡ get_or rows (k - 1) 0 = omega (arith, r.1, ready.rows_in k h, ready.rows_in (k - 1) before) in
        let col : get_or cols k 0 ≡ get_or cols (k - 1) 0 = omega (arith, r.1, ready.rows_in k h, ready.rows_in (k - 1) before) in
        rw (row, col) (subst (λ (x : ℕ). filled rows cols (get_or rows (k - 1) 0) (get_or cols (k - 1) 0) x ≡ true) next (present rows cols (k - 1)))
