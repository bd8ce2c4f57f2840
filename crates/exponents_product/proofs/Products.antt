-- Products against sums of logarithms, for any N in place of 65,536: if each size of a choice is below 2 ^ (q + 2), to the power N, and q makes at most m with
-- potentials of its row and column, and each of ours is at least 2 ^ q with an equal sum, no product is 2 ^ (2 * n) times ours (`near`). By induction over the
-- columns; potentials of rows add up to the same over any complete choice (`permuted`).
use mathlib.Core.Path.{◌≡◌, refl, sym, ap, ◌∙◌}
use mathlib.Core.Logic.{◌⊎◌, inl, inr}
use Prim.Native.Nat.{ℕ, zero, suc, ◌+◌, ◌-◌, ◌*◌, ◌^◌, ◌≤◌, ◌<◌}
use native.Mathlib.Nat.{pow-suc, mul_comm, mul-zero, zero-mul, le_of_eq, le_trans, lt_of_le_of_lt, lt_of_lt_of_le}
use native.Mathlib.Nat.{mul-le-mul, mul-le-mul_left, mul-le-mul_right, mul-lt-mul_of_pos_left}
use native.Mathlib.Omega.{arith}
use lib.Pow.{pow-add, pow_mono, pow_pos}
use Rattle.matching.specs.Sum.{sum_to}
use Rattle.matching.proofs.Sums.{sum_same, sum_add, sum_under, counting_by}
use Rattle.exponents.proofs.Bounds.{product_power}
use Rattle.exponents_product.specs.Product.{product_to, CompleteChoice, product_of, allowance}

-- ---- a sum over a complete choice
module _ {n : ℕ} {rows : ℕ → ℕ} (c : CompleteChoice n rows) where
  permuted_le : (w : ℕ → ℕ) → sum_to n (λ j. w (rows j)) ≤ sum_to n w
  permuted_le w = counting_by n n (λ j. w (rows j)) w rows (λ j b p. c.inside j b) (λ j b p. omega arith) (λ i j b d p q. c.once i j b d)

  -- as much of w, and of what w leaves of its own sum
  pub permuted : (w : ℕ → ℕ) → sum_to n (λ j. w (rows j)) ≡ sum_to n w
  permuted w =
      let B = sum_to n w in
      let v : ℕ → ℕ = λ i. B - w i in
      let fill : (i : ℕ) → i < n → w i + v i ≡ B = λ i h. omega (arith, sum_under n w i h) in
      let all = sum_same n (λ i. w i + v i) (λ i. B) fill in
      let chosen = sum_same n (λ j. w (rows j) + v (rows j)) (λ j. B) (λ j h. fill (rows j) (c.inside j h)) in
      omega (arith, permuted_le w, permuted_le v, all, chosen, sum_add n w v, sum_add n (λ j. w (rows j)) (λ j. v (rows j)))

-- ---- powers
one_power : (N : ℕ) → 1 ^ N ≡ 1
one_power zero = refl
one_power (suc N) = pow-suc 1 N ∙ ap (λ (x : ℕ). x * 1) (one_power N)

zero_power : (N : ℕ) → 0 < N → 0 ^ N ≡ 0
zero_power zero h = let z : ⊥ = omega arith in absurd z
zero_power (suc N) h = pow-suc 0 N ∙ mul-zero (0 ^ N)

-- a number whose power is not 0 is not 0
pub some_base : (N a : ℕ) → 0 < N → 0 < a ^ N → 0 < a
some_base N zero h p = let z : ⊥ = omega (arith, p, zero_power N h) in absurd z
some_base N (suc a) h p = omega arith

-- a product a is at most 2 ^ (2 * n) times b, both to the power N, and less where there are columns
abbrev pub NearTo : ℕ → ℕ → ℕ → ℕ → Type 0
NearTo N n a b = (a ^ N ≤ allowance n * b ^ N) × (0 < n → a ^ N < allowance n * b ^ N)

module _ (N : ℕ) where
  -- a size a: its power is below 2 ^ (q + 2), and q with p is at most m
  pub record Below (a p m : ℕ) : Type 0 where
    pub q : ℕ
    pub bound : a ^ N < 2 ^ (q + 2)
    pub sum : q + p ≤ m

  -- its power is at least 2 ^ q, and q with p is m
  pub record Tight (a p m : ℕ) : Type 0 where
    pub q : ℕ
    pub bound : 2 ^ q ≤ a ^ N
    pub sum : q + p ≡ m

  -- the same of a product of n sizes
  record AllBelow (n a p m : ℕ) : Type 0 where
    t : ℕ
    most : a ^ N ≤ 2 ^ (t + 2 * n)
    below : 0 < n → a ^ N < 2 ^ (t + 2 * n)
    sum : t + p ≤ m

  step_below : (n X a P p M m : ℕ) → AllBelow n X P M → Below a p m → AllBelow (suc n) (X * a) (P + p) (M + m)
  step_below n X a P p M m A B = record { t = A.t + B.q; most = omega (arith, strict); below = λ h. strict; sum = omega (arith, A.sum, B.sum) }
    where
      strict : (X * a) ^ N < 2 ^ (A.t + B.q + 2 * suc n)
      strict =
          let e : A.t + 2 * n + (B.q + 2) ≡ A.t + B.q + 2 * suc n = omega arith in
          lt_of_le_of_lt (le_trans (le_of_eq (product_power X a N)) (mul-le-mul_right (a ^ N) A.most))
          (lt_of_lt_of_le (mul-lt-mul_of_pos_left B.bound (pow_pos (A.t + 2 * n)))
          (le_of_eq (sym (pow-add 2 (A.t + 2 * n) (B.q + 2)) ∙ ap (λ (x : ℕ). 2 ^ x) e)))

  -- a product with a zero is zero
  product_below : (n : ℕ) (s p m : ℕ → ℕ) → ((j : ℕ) → j < n → (s j ≡ 0) ⊎ Below (s j) (p j) (m j))
      → (product_to n s ≡ 0) ⊎ AllBelow n (product_to n s) (sum_to n p) (sum_to n m)
  unfolding product_to sum_to
  product_below zero s p m h = inr (record { t = 0; most = le_of_eq (one_power N); below = λ b. let z : ⊥ = omega arith in absurd z; sum = omega arith })
  product_below (suc n) s p m h = go (product_below n s p m (λ j b. h j (omega arith))) (h n (omega arith))
    where
      go : (product_to n s ≡ 0) ⊎ AllBelow n (product_to n s) (sum_to n p) (sum_to n m) → (s n ≡ 0) ⊎ Below (s n) (p n) (m n)
          → (product_to n s * s n ≡ 0) ⊎ AllBelow (suc n) (product_to n s * s n) (sum_to n p + p n) (sum_to n m + m n)
      go (inl z) x = inl (ap (λ (y : ℕ). y * s n) z ∙ zero-mul (s n))
      go (inr A) (inl z) = inl (ap (λ (y : ℕ). product_to n s * y) z ∙ mul-zero (product_to n s))
      go (inr A) (inr B) = inr (step_below n (product_to n s) (s n) (sum_to n p) (p n) (sum_to n m) (m n) A B)

  product_tight : (n : ℕ) (s p m : ℕ → ℕ) → ((j : ℕ) → j < n → Tight (s j) (p j) (m j)) → Tight (product_to n s) (sum_to n p) (sum_to n m)
  unfolding product_to sum_to
  product_tight zero s p m h = record { q = 0; bound = le_of_eq (sym (one_power N)); sum = refl }
  product_tight (suc n) s p m h =
      let A = product_tight n s p m (λ j b. h j (omega arith)) in
      let B = h n (omega arith) in
      record {
        q = A.q + B.q;
        bound =
            le_trans (le_of_eq (pow-add 2 A.q B.q))
            (le_trans (mul-le-mul A.bound B.bound) (le_of_eq (sym (product_power (product_to n s) (s n) N))));
        sum = omega (arith, A.sum, B.sum);
      }

  -- ---- two choices
  -- x and x' are the parts above 0 of the potentials of rows and columns, y and y' those below 0, one more that of all columns
  module _ (some : 0 < N) (n unit : ℕ) (size : ℕ → ℕ → ℕ) (x x' y y' : ℕ → ℕ) where
    abbrev ups : (ℕ → ℕ) → ℕ → ℕ
    ups rows j = x (rows j) + x' j

    abbrev downs : (ℕ → ℕ) → ℕ → ℕ
    downs rows j = unit + (y (rows j) + y' j)

    ups_same : (rows : ℕ → ℕ) → CompleteChoice n rows → sum_to n (ups rows) ≡ sum_to n x + sum_to n x'
    ups_same rows c = sum_add n (λ j. x (rows j)) x' ∙ ap (λ (z : ℕ). z + sum_to n x') (permuted c x)

    downs_same : (rows : ℕ → ℕ) → CompleteChoice n rows → sum_to n (downs rows) ≡ sum_to n (λ j. unit) + (sum_to n y + sum_to n y')
    downs_same rows c =
        sum_add n (λ j. unit) (λ j. y (rows j) + y' j)
        ∙ ap (λ (z : ℕ). sum_to n (λ j. unit) + z) (sum_add n (λ j. y (rows j)) y' ∙ ap (λ (z : ℕ). z + sum_to n y') (permuted c y))

    module _ {ours : ℕ → ℕ} (mine : CompleteChoice n ours)
        (tight : (j : ℕ) → j < n → Tight (size (ours j) j) (ups ours j) (downs ours j))
        {rows : ℕ → ℕ} (other : CompleteChoice n rows)
        (below : (j : ℕ) → j < n → (size (rows j) j ≡ 0) ⊎ Below (size (rows j) j) (ups rows j) (downs rows j)) where
      S : Tight (product_of n size ours) (sum_to n (ups ours)) (sum_to n (downs ours))
      S = product_tight n (λ j. size (ours j) j) (ups ours) (downs ours) tight

      room : 2 ^ (S.q + 2 * n) ≤ allowance n * product_of n size ours ^ N
      room = le_trans (le_of_eq (pow-add 2 S.q (2 * n) ∙ mul_comm (2 ^ S.q) (2 ^ (2 * n)))) (mul-le-mul_left (2 ^ (2 * n)) S.bound)

      pub near : NearTo N n (product_of n size rows) (product_of n size ours)
      near = go (product_below n (λ j. size (rows j) j) (ups rows) (downs rows) below)
        where
          go : (product_of n size rows ≡ 0) ⊎ AllBelow n (product_of n size rows) (sum_to n (ups rows)) (sum_to n (downs rows))
              → NearTo N n (product_of n size rows) (product_of n size ours)
          go (inl z) =
              let l : product_of n size rows ^ N < allowance n * product_of n size ours ^ N =
              lt_of_le_of_lt (le_of_eq (ap (λ (y : ℕ). y ^ N) z ∙ zero_power N some)) (lt_of_lt_of_le (pow_pos (S.q + 2 * n)) room) in
              (omega (arith, l), λ h. l)
          go (inr A) =
              let e : A.t + 2 * n ≤ S.q + 2 * n =
              omega (arith, A.sum, S.sum, ups_same ours mine, ups_same rows other, downs_same ours mine, downs_same rows other) in
              let up : 2 ^ (A.t + 2 * n) ≤ allowance n * product_of n size ours ^ N = le_trans (pow_mono e) room in
              (le_trans A.most up, λ h. lt_of_lt_of_le (A.below h) up)
