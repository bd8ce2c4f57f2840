-- Whole roots of plain numbers. There is at most one (`root_unique`), and the definition's digit steps find it (`root_found`). Half of it, rounded up,
-- is the nearest number to half of the exact root (`over_half`, `under_half`). And one division gives 27 more digits of it (`extended_down`);
-- near a power of 4 it lies on a straight line (`near_above`, `near_below`).
use mathlib.Core.Path.{◌≡◌, sym, ap, ◌∙◌, subst}
use mathlib.Core.Bool.{Bool, true, false, not, cond}
use mathlib.Core.Logic.{◌⊎◌, inl, inr, ◌≢◌}
use Prim.Native.Nat.{ℕ, zero, suc, ◌+◌, ◌-◌, ◌*◌, ◌/◌, ◌%◌, ◌^◌, ◌≤◌, ◌<◌}
use native.Mathlib.Nat.{eq-or-lt_of_le, lt_of_le_of_lt, lt_of_lt_of_le, add_assoc, mul-add, add-mul, mul_comm, mul_assoc}
use native.Mathlib.Nat.{mul_right_comm, mul-mul-mul_comm, mul-le-mul, mul-le-mul_left, le_of_mul-le-mul_right, div-add-mod'}
use native.Mathlib.Nat.{mod-lt, pow-suc, le_refl}
use native.Mathlib.Omega.{arith}
use lib.Dec.{T, leb, leb→le, nleb→lt}
use Rattle.float64.proofs.Squares.{square_lt, root_lt}
use Rattle.square_root.specs.Root.{longer, whole_root}
use Rattle.square_root.specs.inner.Steps.{WholeRoot}

-- ---- squares

square_mono : (a b : ℕ) → a ≤ b → a * a ≤ b * b
square_mono a b h = mul-le-mul h h

-- (a + b) squared
pub expanded : (a b : ℕ) → (a + b) * (a + b) ≡ a * a + 2 * (a * b) + b * b
expanded a b =
    let e : (a + b) * (a + b) ≡ a * a + (a * b + (a * b + b * b)) = simp (mul-add, add-mul, mul_comm, add_assoc) in
    omega arith

pub next_square : (a : ℕ) → (a + 1) * (a + 1) ≡ a * a + 2 * a + 1
next_square a = let e = expanded a 1 in let o : a * 1 ≡ a = omega arith in omega arith

double_square : (p : ℕ) → 2 * p * (2 * p) ≡ 4 * (p * p)
double_square p = mul-mul-mul_comm 2 p 2 p

-- ---- one whole root at most

pub root_unique : {n p q : ℕ} → WholeRoot n p → WholeRoot n q → p ≡ q
root_unique {n} {p} {q} a b =
    let x : p < q + 1 = root_lt p (q + 1) (lt_of_le_of_lt a.at_most b.less) in
    let y : q < p + 1 = root_lt q (p + 1) (lt_of_le_of_lt b.at_most a.less) in
    omega arith

-- ---- digit steps

step : (n p : ℕ) → WholeRoot (n / 4) p → WholeRoot n (longer n (2 * p))
step n p w = go (leb ((2 * p + 1) * (2 * p + 1)) n) (leb→le ((2 * p + 1) * (2 * p + 1)) n) (nleb→lt ((2 * p + 1) * (2 * p + 1)) n)
  where
    go : (b : Bool) → (T b → (2 * p + 1) * (2 * p + 1) ≤ n) → (T (not b) → n < (2 * p + 1) * (2 * p + 1)) → WholeRoot n (cond b (2 * p + 1) (2 * p))
    go true h k =
        let e : (2 * p + 1 + 1) * (2 * p + 1 + 1) ≡ 4 * ((p + 1) * (p + 1)) = ap (λ (x : ℕ). x * x) (omega arith) ∙ double_square (p + 1) in
        record { at_most = h tt; less = omega (arith, w.less) }
    go false h k = record { at_most = omega (arith, double_square p, w.at_most); less = k tt }

pub root_found : (d n : ℕ) → n < 4 ^ d → WholeRoot n (whole_root d n)
unfolding whole_root
root_found zero n h = record { at_most = omega arith; less = h }
root_found (suc d) n h =
    let g : n < 4 ^ d * 4 = subst (λ (x : ℕ). n < x) (pow-suc 4 d) h in
    step n (whole_root d (n / 4)) (root_found d (n / 4) (omega arith))

-- ---- half of the whole root, rounded up

module _ {n q : ℕ} (w : WholeRoot n q) where
  pub under_half : (c : ℕ) → 2 * ((q + 1) / 2) < c → n < c * c
  under_half c h = lt_of_lt_of_le w.less (square_mono (q + 1) c (omega arith))

  -- a square that is not the square of an even number is not a multiple of 4
  pub over_half : n % 4 ≡ 0 → (c : ℕ) → c < 2 * ((q + 1) / 2) → c * c < n
  over_half four c h = go (eq-or-lt_of_le (omega arith))
    where
      go : (c ≡ q) ⊎ (c < q) → c * c < n
      go (inr l) = lt_of_lt_of_le (square_lt c q l) w.at_most
      go (inl e) =
          let t = q / 2 in
          let odd : q ≡ 2 * t + 1 = omega arith in
          let s : q * q ≡ 4 * (t * t) + 2 * (2 * t) + 1 = ap (λ (x : ℕ). x * x) odd ∙ next_square (2 * t) ∙ ap (λ (x : ℕ). x + 2 * (2 * t) + 1)
          (double_square t) in
          let r : c * c ≡ q * q = ap (λ (x : ℕ). x * x) e in
          omega (arith, w.at_most)

-- ---- 27 digits more: with r left over of n, the root of n * 2 ^ 54 is near s * 2 ^ 27 + r * 2 ^ 26 / s

-- the sizes of what the code computes
pub record Sizes (n s : ℕ) : Type 0 where
  pub least : 2 ^ 26 ≤ s
  pub most : s < 2 ^ 27
  pub over : n - s * s ≤ 2 * s
  pub next : (n - s * s) * 2 ^ 26 / s ≤ 2 ^ 27
  pub next_square : (n - s * s) * 2 ^ 26 / s * ((n - s * s) * 2 ^ 26 / s) ≤ 2 ^ 54
  pub left : (n - s * s) * 2 ^ 26 % s < s

module _ (n s : ℕ) (big : 2 ^ 52 ≤ n) (w : WholeRoot n s) where
  abbrev rest : ℕ
  rest = (n - s * s) * 2 ^ 26

  abbrev next : ℕ
  next = rest / s

  root_big : 2 ^ 26 ≤ s
  root_big = let h : 2 ^ 26 < s + 1 = root_lt (2 ^ 26) (s + 1) (lt_of_le_of_lt big w.less) in omega arith

  rest_small : n - s * s ≤ 2 * s
  rest_small = omega (arith, next_square s, w.less)

  next_small : next ≤ 2 ^ 27
  next_small = le_of_mul-le-mul_right {k = s} (omega (arith, div-add-mod' rest s, rest_small)) (omega (arith, root_big))

  pub sizes : n < 2 ^ 54 → Sizes n s
  sizes h = record {
    least = root_big;
    most = root_lt s (2 ^ 27) (lt_of_le_of_lt w.at_most h);
    over = rest_small;
    next = next_small;
    next_square = square_mono next (2 ^ 27) next_small;
    left = mod-lt rest (omega (arith, root_big));
  }

  -- what is left over by the new root, in squares and products that `omega` takes as unknowns
  balance : n * 2 ^ 54 + next * next ≡ (s * 2 ^ 27 + next) * (s * 2 ^ 27 + next) + rest % s * 2 ^ 28
  balance =
      let a = expanded (s * 2 ^ 27) next in
      let b : s * 2 ^ 27 * (s * 2 ^ 27) ≡ s * s * 2 ^ 54 = mul-mul-mul_comm s (2 ^ 27) s (2 ^ 27) in
      let c : s * 2 ^ 27 * next ≡ next * s * 2 ^ 27 = mul_right_comm s (2 ^ 27) next ∙ ap (λ (x : ℕ). x * 2 ^ 27) (mul_comm s next) in
      let d = div-add-mod' rest s in
      let e : s * s + (n - s * s) ≡ n = omega (arith, w.at_most) in
      omega arith

  pub extended_down : rest % s * 2 ^ 28 < next * next → WholeRoot (n * 2 ^ 54) (s * 2 ^ 27 + next - 1)
  extended_down h =
      let t = s * 2 ^ 27 + next - 1 in
      let back : t + 1 ≡ s * 2 ^ 27 + next = omega (arith, root_big) in
      let sq : (t + 1) * (t + 1) ≡ (s * 2 ^ 27 + next) * (s * 2 ^ 27 + next) = ap (λ (x : ℕ). x * x) back in
      let q : next * next ≤ next * 2 ^ 27 = mul-le-mul_left next next_small in
      record { at_most = omega (arith, balance, next_square t, next_small, root_big); less = omega (arith, balance) }

-- ---- near a power of 4 the root is a straight line, less than one away from it

above : (n k : ℕ) → n ≡ 2 ^ 52 + k → 0 < k → k ≤ 2 ^ 27 → WholeRoot (n * 2 ^ 54) (2 ^ 53 + k - 1)
above n zero e h l = absurd (omega arith)
above n (suc j) e h l =
    let q : 2 ^ 53 + suc j - 1 ≡ 2 ^ 53 + j = omega arith in
    let s = expanded (2 ^ 53) j in
    let t = next_square (2 ^ 53 + j) in
    let small : j * j ≤ 2 ^ 27 * 2 ^ 27 = square_mono j (2 ^ 27) (omega arith) in
    rw q record { at_most = omega arith; less = omega arith }

pub near_above : (n : ℕ) → 2 ^ 52 ≤ n → n ≢ 2 ^ 52 → n ≤ 2 ^ 52 + 2 ^ 27 → WholeRoot (n * 2 ^ 54) (n + 4503599627370495)
near_above n a b l = go (eq-or-lt_of_le a)
  where
    go : (2 ^ 52 ≡ n) ⊎ (2 ^ 52 < n) → WholeRoot (n * 2 ^ 54) (n + 4503599627370495)
    go (inl e) = absurd (b (sym e))
    go (inr h) =
        let e : 2 ^ 53 + (n - 2 ^ 52) - 1 ≡ n + 4503599627370495 = omega arith in
        subst (WholeRoot (n * 2 ^ 54)) e (above n (n - 2 ^ 52) (omega arith) (omega arith) (omega arith))

own_square : (e : ℕ) → e ≤ e * e
own_square zero = omega arith
own_square (suc k) = let m : suc k * 1 ≤ suc k * suc k = mul-le-mul_left (suc k) (omega arith) in omega arith

-- for any Q in place of 2 ^ 54, whose square has too many digits
past_line : (Q q e d n : ℕ) → q + (e + 1) ≡ Q → n + d ≡ Q → 0 < d → (2 * e ≡ d) ⊎ (2 * e < d) → n * Q < (q + 1) * (q + 1)
past_line Q q e d n s r h x =
    let whole : Q * Q ≡ q * q + 2 * (q * (e + 1)) + (e + 1) * (e + 1) =
    subst (λ (x : ℕ). x * x ≡ q * q + 2 * (q * (e + 1)) + (e + 1) * (e + 1)) s (expanded q (e + 1)) in
    let cross : Q * (e + 1) ≡ q * (e + 1) + (e + 1) * (e + 1) =
    subst (λ (x : ℕ). x * (e + 1) ≡ q * (e + 1) + (e + 1) * (e + 1)) s (add-mul q (e + 1) (e + 1)) in
    let parts : Q * Q ≡ n * Q + d * Q = subst (λ (x : ℕ). x * Q ≡ n * Q + d * Q) r (add-mul n d Q) in
    let column : Q * (e + 1) ≡ Q * e + Q = mul-add Q e 1 ∙ omega arith in
    let over : 2 * (Q * e) < d * Q + e * e = more x in
    omega (arith, next_square e, next_square q)
  where
    more : (2 * e ≡ d) ⊎ (2 * e < d) → 2 * (Q * e) < d * Q + e * e
    more (inl y) =
        let same : d * Q ≡ 2 * (Q * e) = ap (λ (k : ℕ). k * Q) (sym y) ∙ mul_assoc 2 e Q ∙ ap (λ (k : ℕ). 2 * k) (mul_comm e Q) in
        omega (arith, own_square e)
    more (inr y) =
        let grown : (2 * e + 1) * Q ≤ d * Q = mul-le-mul (omega arith) (le_refl Q) in
        let same : (2 * e + 1) * Q ≡ 2 * (Q * e) + Q =
        add-mul (2 * e) 1 Q ∙ ap (λ (k : ℕ). k + 1 * Q) (mul_assoc 2 e Q ∙ ap (λ (k : ℕ). 2 * k) (mul_comm e Q)) ∙ omega arith in
        omega arith

below : (n d : ℕ) → n + d ≡ 2 ^ 54 → 0 < d → d ≤ 2 ^ 27 → WholeRoot (n * 2 ^ 54) (2 ^ 54 - d / 2 - 1)
below n d r h l = go (2 ^ 54 - d / 2 - 1) (d / 2) (omega arith) (omega arith) (omega arith)
  where
    go : (q e : ℕ) → q + (e + 1) ≡ 2 ^ 54 → 2 * e ≤ d → d ≤ 2 * e + 1 → WholeRoot (n * 2 ^ 54) q
    go q e s a b =
        let whole : 2 ^ 54 * 2 ^ 54 ≡ q * q + 2 * (q * (e + 1)) + (e + 1) * (e + 1) =
        subst (λ (x : ℕ). x * x ≡ q * q + 2 * (q * (e + 1)) + (e + 1) * (e + 1)) s (expanded q (e + 1)) in
        let cross : 2 ^ 54 * (e + 1) ≡ q * (e + 1) + (e + 1) * (e + 1) =
        subst (λ (x : ℕ). x * (e + 1) ≡ q * (e + 1) + (e + 1) * (e + 1)) s (add-mul q (e + 1) (e + 1)) in
        let small : (e + 1) * (e + 1) ≤ 2 ^ 27 * 2 ^ 27 = square_mono (e + 1) (2 ^ 27) (omega arith) in
        record { at_most = omega arith; less = past_line (2 ^ 54) q e d n s r h (eq-or-lt_of_le a) }

pub near_below : (n : ℕ) → n < 2 ^ 54 → 2 ^ 54 - 2 ^ 27 ≤ n → WholeRoot (n * 2 ^ 54) (18014398509481983 - (2 ^ 54 - n) / 2)
near_below n h l =
    let e : 2 ^ 54 - (2 ^ 54 - n) / 2 - 1 ≡ 18014398509481983 - (2 ^ 54 - n) / 2 = omega arith in
    subst (WholeRoot (n * 2 ^ 54)) e (below n (2 ^ 54 - n) (omega arith) (omega arith) (omega arith))
