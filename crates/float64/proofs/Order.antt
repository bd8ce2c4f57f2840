-- The order of doubles is the order of their keys: lt, le and eq of two doubles other than NaN are the tests of the keys. A NaN is never less, at most or
-- equal. Both sizes are brought over one denominator, where the comparison's cross products are the sizes in units times a common factor.
use mathlib.Core.Path.{◌≡◌, refl, sym, ap, ap₂, ◌∙◌, subst}
use mathlib.Core.Logic.{◌⊎◌, inl, inr, ⊎_elim}
use mathlib.Core.Bool.{Bool, true, false, not, ◌&&◌, ◌||◌, beq}
use Prim.Native.Nat.{ℕ, ◌+◌, ◌-◌, ◌*◌, ◌≤◌, ◌<◌}
use native.Mathlib.Nat.{le_of_eq, eq-or-lt_of_le, le_of_lt, mul_assoc, mul_comm, mul_right_comm, add-mul, zero-mul, mul-pos, mul-lt-mul_of_pos_right}
use native.Mathlib.Nat.{lt_of_mul-lt-mul_right, eq_of_mul-eq-mul_right}
use native.Mathlib.Omega.{arith}
use lib.Dec.{T, leb, ltb, eqb, leb→le, le→leb, ltb→lt, lt→ltb, eqb→eq, eqb_refl}
use lib.IntN.{ℤ}
use lib.Ieee.{Float, nan, inf, fin, binary64, up, down, below, level, lt, le, eq, fits, is_nan}
use lib.Ieee.Fits.{down_pos, and_i, and_l, and_r, eq→eqb}
use Rattle.float64.specs.Number.{Number, negative, units_per_one, origin, magnitude}
use Rattle.float64.specs.inner.Keys.{Ordered, place, position}
use Rattle.slices.proofs.Bools.{same_test, same_ltb, same_eqb}
use Rattle.float64.proofs.Scale.{units_pos, mid_pos, own_value, mag_lt}

-- ---- cross products: a * u = x * p and b * u = y * p
module _ (u p : ℕ) (U : 0 < u) (P : 0 < p) where
  pub scaled_lt : (a b x y : ℕ) → a * u ≡ x * p → b * u ≡ y * p → ltb a b ≡ ltb x y
  scaled_lt a b x y e f =
      same_ltb a b x y
      (λ (h : a < b). lt_of_mul-lt-mul_right p (subst (λ (z : ℕ). z < y * p) e (subst (λ (z : ℕ). a * u < z) f (mul-lt-mul_of_pos_right h U))))
      (λ (h : x < y). lt_of_mul-lt-mul_right u (subst (λ (z : ℕ). z < b * u) (sym e) (subst (λ (z : ℕ). x * p < z) (sym f) (mul-lt-mul_of_pos_right h P))))

  scaled_eq : (a b x y : ℕ) → a * u ≡ x * p → b * u ≡ y * p → eqb a b ≡ eqb x y
  scaled_eq a b x y e f =
      same_eqb a b x y
      (λ (h : a ≡ b). eq_of_mul-eq-mul_right p P x y (sym e ∙ ap (λ (z : ℕ). z * u) h ∙ f))
      (λ (h : x ≡ y). eq_of_mul-eq-mul_right u U a b (e ∙ ap (λ (z : ℕ). z * p) h ∙ sym f))

  nothing : 0 * u ≡ 0 * p
  nothing = zero-mul u ∙ sym (zero-mul p)

  scaled_below : (s t : Bool) (a b x y : ℕ) → a * u ≡ x * p → b * u ≡ y * p → below s a t b ≡ below s x t y
  scaled_below false false a b x y e f = scaled_lt a b x y e f
  scaled_below false true a b x y e f = refl
  scaled_below true false a b x y e f = scaled_lt 0 (a + b) 0 (x + y) nothing (add-mul a b u ∙ ap₂ (λ (v w : ℕ). v + w) e f ∙ sym (add-mul x y p))
  scaled_below true true a b x y e f = scaled_lt b a y x f e

  scaled_level : (s t : Bool) (a b x y : ℕ) → a * u ≡ x * p → b * u ≡ y * p → level s a t b ≡ level s x t y
  scaled_level s t a b x y e f = ap₂ (λ (v w : Bool). v && (beq s t || w)) (scaled_eq a b x y e f) (scaled_eq a 0 x 0 e nothing)

-- ---- signed sizes below origin: their order is the order of their places on the line
below_is : (s t : Bool) (x y : ℕ) → x ≤ origin → y ≤ origin → below s x t y ≡ ltb (place s x) (place t y)
unfolding place
below_is false false x y h k = same_ltb x y (origin + x) (origin + y) (λ g. omega arith) (λ g. omega arith)
below_is false true x y h k =
    same_test false (ltb (origin + x) (origin - y)) (λ t. absurd t) (λ t. let z : origin + x < origin - y = ltb→lt (origin + x) (origin - y) t in omega arith)
below_is true false x y h k = same_ltb 0 (x + y) (origin - x) (origin + y) (λ g. omega arith) (λ g. omega arith)
below_is true true x y h k = same_ltb y x (origin - x) (origin - y) (λ g. omega arith) (λ g. omega arith)

unsigned : (b : Bool) → (b && true) ≡ b
unsigned true = refl
unsigned false = refl

opposite : (x y a b : ℕ) → (x ≡ y → x ≡ 0 → a ≡ b) → (a ≡ b → (x ≡ y) × (x ≡ 0)) → (eqb x y && eqb x 0) ≡ eqb a b
opposite x y a b f g =
    same_test (eqb x y && eqb x 0) (eqb a b) (λ t. eq→eqb (f (eqb→eq x y (and_l (eqb x y) (eqb x 0) t)) (eqb→eq x 0 (and_r (eqb x y) (eqb x 0) t))))
    (λ t. let z : (x ≡ y) × (x ≡ 0) = g (eqb→eq a b t) in and_i (eqb x y) (eqb x 0) (eq→eqb z.0) (eq→eqb z.1))

level_is : (s t : Bool) (x y : ℕ) → x ≤ origin → y ≤ origin → level s x t y ≡ eqb (place s x) (place t y)
unfolding place
level_is false false x y h k = unsigned (eqb x y) ∙ same_eqb x y (origin + x) (origin + y) (λ g. omega arith) (λ g. omega arith)
level_is true true x y h k = unsigned (eqb x y) ∙ same_eqb x y (origin - x) (origin - y) (λ g. omega arith) (λ g. omega arith)
level_is false true x y h k = opposite x y (origin + x) (origin - y) (λ p q. omega arith) (λ g. omega arith)
level_is true false x y h k = opposite x y (origin - x) (origin + y) (λ p q. omega arith) (λ g. omega arith)

-- ---- the comparisons of two doubles that are no NaN
finite_number : (s : Bool) (m : ℕ) (e : ℤ) → T (fits binary64 (fin s m e)) → Number (fin s m e)
finite_number s m e f = record { double = f; is_finite = tt }

module _ (s : Bool) (m : ℕ) (e : ℤ) (t : Bool) (n : ℕ) (d : ℤ) (f : T (fits binary64 (fin s m e))) (g : T (fits binary64 (fin t n d))) where
  P : 0 < down e * down d
  P = mul-pos (down_pos e) (down_pos d)

  pub left_over : m * up e * down d * units_per_one ≡ magnitude (fin s m e) * (down e * down d)
  left_over = mul_right_comm (m * up e) (down d) units_per_one ∙ ap (λ (z : ℕ). z * down d) (own_value (fin s m e) (finite_number s m e f)).1
      ∙ mul_assoc (magnitude (fin s m e)) (down e) (down d)

  pub right_over : n * up d * down e * units_per_one ≡ magnitude (fin t n d) * (down e * down d)
  right_over = mul_right_comm (n * up d) (down e) units_per_one ∙ ap (λ (z : ℕ). z * down e) (own_value (fin t n d) (finite_number t n d g)).1
      ∙ mul_assoc (magnitude (fin t n d)) (down d) (down e) ∙ ap (λ (z : ℕ). magnitude (fin t n d) * z) (mul_comm (down d) (down e))

  small : magnitude (fin s m e) ≤ origin
  small = le_of_lt (mag_lt (fin s m e) (finite_number s m e f))

  small' : magnitude (fin t n d) ≤ origin
  small' = le_of_lt (mag_lt (fin t n d) (finite_number t n d g))

  finite_lt : lt (fin s m e) (fin t n d) ≡ ltb (position (fin s m e)) (position (fin t n d))
  unfolding lt position place
  finite_lt = scaled_below units_per_one (down e * down d) units_pos P s t (m * up e * down d) (n * up d * down e) (magnitude (fin s m e))
      (magnitude (fin t n d)) left_over right_over ∙ below_is s t (magnitude (fin s m e)) (magnitude (fin t n d)) small small'

  finite_eq : eq (fin s m e) (fin t n d) ≡ eqb (position (fin s m e)) (position (fin t n d))
  unfolding eq position place
  finite_eq = scaled_level units_per_one (down e * down d) units_pos P s t (m * up e * down d) (n * up d * down e) (magnitude (fin s m e))
      (magnitude (fin t n d)) left_over right_over ∙ level_is s t (magnitude (fin s m e)) (magnitude (fin t n d)) small small'

-- an infinity against a finite double, whose position is between
between_keys : (x : Float) → Number x → (0 < position x) × (position x < origin + origin)
unfolding position
between_keys x n = go (negative x) (magnitude x) (mag_lt x n)
  where
    go : (s : Bool) (a : ℕ) → a < origin → (0 < place s a) × (place s a < origin + origin)
    go true a h = omega (arith, mid_pos)
    go false a h = omega (arith, mid_pos)

key_low : position (inf true) ≡ 0
unfolding position magnitude
key_low = z origin
  where
    z : (a : ℕ) → a - a ≡ 0
    z a = omega arith

key_high : position (inf false) ≡ origin + origin
unfolding position magnitude
key_high = refl

-- the test of a Bool known to hold, or not to, against the test of two keys known to be in order, or not to
yes_lt : (a b c d : ℕ) → c ≡ a → d ≡ b → a < b → true ≡ ltb c d
yes_lt a b c d p q h = same_test true (ltb c d) (λ t. lt→ltb c d (omega arith)) (λ t. tt)

no_lt : (a b c d : ℕ) → c ≡ a → d ≡ b → b ≤ a → false ≡ ltb c d
no_lt a b c d p q h = same_test false (ltb c d) (λ t. absurd t) (λ t. let z : c < d = ltb→lt c d t in omega arith)

no_eq : (a b c d : ℕ) → c ≡ a → d ≡ b → (a ≡ b → ⊥) → false ≡ eqb c d
no_eq a b c d p q h = same_test false (eqb c d) (λ t. absurd t) (λ t. h (sym p ∙ eqb→eq c d t ∙ q))

yes_eq : (a : ℕ) → true ≡ eqb a a
yes_eq a = same_test true (eqb a a) (λ t. eqb_refl a) (λ t. tt)

inf_lt : (s t : Bool) → lt (inf s) (inf t) ≡ ltb (position (inf s)) (position (inf t))
unfolding lt is_nan
inf_lt true true = no_lt 0 0 (position (inf true)) (position (inf true)) key_low key_low (omega arith)
inf_lt true false = yes_lt 0 (origin + origin) (position (inf true)) (position (inf false)) key_low key_high (omega (arith, mid_pos))
inf_lt false true = no_lt (origin + origin) 0 (position (inf false)) (position (inf true)) key_high key_low (omega arith)
inf_lt false false = no_lt (origin + origin) (origin + origin) (position (inf false)) (position (inf false)) key_high key_high (omega arith)

inf_lt_finite : (s : Bool) (y : Float) → Number y → s ≡ ltb (position (inf s)) (position y)
inf_lt_finite true y n = yes_lt 0 (position y) (position (inf true)) (position y) key_low refl (between_keys y n).0
inf_lt_finite false y n = no_lt (origin + origin) (position y) (position (inf false)) (position y) key_high refl (omega (arith, between_keys y n))

finite_lt_inf : (t : Bool) (x : Float) → Number x → not t ≡ ltb (position x) (position (inf t))
finite_lt_inf true x n = no_lt (position x) 0 (position x) (position (inf true)) refl key_low (omega arith)
finite_lt_inf false x n = yes_lt (position x) (origin + origin) (position x) (position (inf false)) refl key_high (between_keys x n).1

pub lt_key : (x y : Float) → Ordered x → Ordered y → lt x y ≡ ltb (position x) (position y)
unfolding lt is_nan
lt_key nan y p q = absurd p.not_nan
lt_key (inf s) nan p q = absurd q.not_nan
lt_key (fin s m e) nan p q = absurd q.not_nan
lt_key (inf s) (inf t) p q = inf_lt s t
lt_key (inf s) (fin t n d) p q = inf_lt_finite s (fin t n d) (finite_number t n d q.double)
lt_key (fin s m e) (inf t) p q = finite_lt_inf t (fin s m e) (finite_number s m e p.double)
lt_key (fin s m e) (fin t n d) p q = finite_lt s m e t n d p.double q.double

inf_eq : (s t : Bool) → eq (inf s) (inf t) ≡ eqb (position (inf s)) (position (inf t))
unfolding eq is_nan
inf_eq true true = yes_eq (position (inf true))
inf_eq true false = no_eq 0 (origin + origin) (position (inf true)) (position (inf false)) key_low key_high (λ h. omega (arith, mid_pos))
inf_eq false true = no_eq (origin + origin) 0 (position (inf false)) (position (inf true)) key_high key_low (λ h. omega (arith, mid_pos))
inf_eq false false = yes_eq (position (inf false))

inf_apart : (s : Bool) (y : Float) → Number y → (position (inf s) ≡ position y → ⊥)
inf_apart true y n h = omega (arith, key_low, between_keys y n)
inf_apart false y n h = omega (arith, key_high, between_keys y n)

pub eq_key : (x y : Float) → Ordered x → Ordered y → eq x y ≡ eqb (position x) (position y)
unfolding eq is_nan
eq_key nan y p q = absurd p.not_nan
eq_key (inf s) nan p q = absurd q.not_nan
eq_key (fin s m e) nan p q = absurd q.not_nan
eq_key (inf s) (inf t) p q = inf_eq s t
eq_key (inf s) (fin t n d) p q = no_eq (position (inf s)) (position (fin t n d)) (position (inf s)) (position (fin t n d)) refl refl
    (inf_apart s (fin t n d) (finite_number t n d q.double))
eq_key (fin s m e) (inf t) p q = no_eq (position (fin s m e)) (position (inf t)) (position (fin s m e)) (position (inf t)) refl refl
    (λ h. inf_apart t (fin s m e) (finite_number s m e p.double) (sym h))
eq_key (fin s m e) (fin t n d) p q = finite_eq s m e t n d p.double q.double

less_or_equal : (a b : ℕ) → (ltb a b || eqb a b) ≡ leb a b
less_or_equal a b = same_test (ltb a b || eqb a b) (leb a b)
    (λ t. le→leb a b (⊎_elim (λ u. le_of_lt (ltb→lt a b u)) (λ u. le_of_eq (eqb→eq a b u)) (or_split (ltb a b) (eqb a b) t)))
    (λ t. go (eq-or-lt_of_le (leb→le a b t)))
  where
    or_split : (p q : Bool) → T (p || q) → T p ⊎ T q
    or_split true q t = inl tt
    or_split false q t = inr t

    or_l : (p q : Bool) → T p → T (p || q)
    or_l true q t = tt
    or_l false q t = absurd t

    or_r : (p q : Bool) → T q → T (p || q)
    or_r true q t = tt
    or_r false q t = t

    go : (a ≡ b) ⊎ (a < b) → T (ltb a b || eqb a b)
    go (inl e) = or_r (ltb a b) (eqb a b) (eq→eqb e)
    go (inr l) = or_l (ltb a b) (eqb a b) (lt→ltb a b l)

pub le_key : (x y : Float) → Ordered x → Ordered y → le x y ≡ leb (position x) (position y)
unfolding le
le_key x y p q = ap₂ (λ (v w : Bool). v || w) (lt_key x y p q) (eq_key x y p q) ∙ less_or_equal (position x) (position y)
