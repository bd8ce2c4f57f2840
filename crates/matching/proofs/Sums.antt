-- Laws of sums, and the counting lemma: a sum is at most another whose summands its own are sent to, each to a larger one, no two to the same. By
-- induction on the index.
use mathlib.Core.Path.{◌≡◌, refl, sym, ap, ◌∙◌}
use mathlib.Core.Logic.{◌≢◌}
use mathlib.Core.Bool.{Bool, true, false, not}
use Prim.Native.Nat.{ℕ, zero, suc, ◌+◌, ◌*◌, ◌≤◌, ◌<◌}
use native.Mathlib.Nat.{add-zero, add-suc, zero-mul, add-mul, suc-mul}
use native.Mathlib.Decide.{ℕ_discrete}
use native.Mathlib.Omega.{arith}
use lib.Dec.{T}
use Rattle.matching.specs.Sum.{sum_to, or_zero, updated}
use Rattle.matching.proofs.Updated.{updated_same, updated_other}

-- ---- a summand that counts only under a test

pub or_zero_pos : (b : Bool) (a : ℕ) → 0 < or_zero b a → T b
or_zero_pos true a h = tt
or_zero_pos false a h = omega arith

pub or_zero_true : (b : Bool) (a : ℕ) → T b → or_zero b a ≡ a
or_zero_true true a t = refl
or_zero_true false a t = absurd t

pub or_zero_not : (b : Bool) (a : ℕ) → T b → or_zero (not b) a ≡ 0
or_zero_not true a t = refl
or_zero_not false a t = absurd t

pub or_zero_le : (b d : Bool) (a c : ℕ) → (T b → T d) → (T b → a ≤ c) → or_zero b a ≤ or_zero d c
or_zero_le true true a c f h = h tt
or_zero_le true false a c f h = absurd (f tt)
or_zero_le false d a c f h = omega arith

pub or_zero_same : (b : Bool) {x y : ℕ} → (T b → x ≡ y) → or_zero b x ≡ or_zero b y
or_zero_same true h = h tt
or_zero_same false h = refl

pub or_zero_add : (b : Bool) (x y : ℕ) → or_zero b (x + y) ≡ or_zero b x + or_zero b y
or_zero_add true x y = refl
or_zero_add false x y = refl

-- ---- sums

pub sum_le : (n : ℕ) (v w : ℕ → ℕ) → ((i : ℕ) → i < n → v i ≤ w i) → sum_to n v ≤ sum_to n w
unfolding sum_to
sum_le zero v w h = omega arith
sum_le (suc n) v w h = omega (arith, sum_le n v w (λ i b. h i (omega arith)), h n (omega arith))

pub sum_same : (n : ℕ) (v w : ℕ → ℕ) → ((i : ℕ) → i < n → v i ≡ w i) → sum_to n v ≡ sum_to n w
sum_same n v w h = omega (arith, sum_le n v w (λ i b. omega (arith, h i b)), sum_le n w v (λ i b. omega (arith, h i b)))

pub sum_split : (n m : ℕ) (w : ℕ → ℕ) → sum_to (n + m) w ≡ sum_to n w + sum_to m (λ i. w (n + i))
unfolding sum_to
sum_split n zero w = rw (add-zero n) (omega arith)
sum_split n (suc m) w = rw add-suc (omega (arith, sum_split n m w))

pub sum_add : (n : ℕ) (v w : ℕ → ℕ) → sum_to n (λ i. v i + w i) ≡ sum_to n v + sum_to n w
unfolding sum_to
sum_add zero v w = refl
sum_add (suc n) v w = omega (arith, sum_add n v w)

pub sum_times : (n : ℕ) (w : ℕ → ℕ) (a : ℕ) → sum_to n (λ i. w i * a) ≡ sum_to n w * a
unfolding sum_to
sum_times zero w a = sym (zero-mul a)
sum_times (suc n) w a = omega (arith, sum_times n w a, add-mul (sum_to n w) (w n) a)

pub sum_const : (n a : ℕ) → sum_to n (λ i. a) ≡ n * a
unfolding sum_to
sum_const zero a = sym (zero-mul a)
sum_const (suc n) a = omega (arith, sum_const n a, suc-mul n a)

-- two functions that differ at most at i
pub sum_change : (n : ℕ) (v w : ℕ → ℕ) (i : ℕ) → i < n → ((j : ℕ) → j < n → j ≢ i → v j ≡ w j) → sum_to n v + w i ≡ sum_to n w + v i
unfolding sum_to
sum_change zero v w i b h = omega arith
sum_change (suc n) v w i b h =
    elim (ℕ_discrete i n) [
      | yes e ↦ omega (arith, ap v e, ap w e, sum_same n v w (λ j c. h j (omega arith) (omega arith)))
      | no d ↦ omega (arith, sum_change n v w i (omega arith) (λ j c. h j (omega arith)), h n (omega arith) (omega arith))
    ]

pub sum_updated : (n : ℕ) (w : ℕ → ℕ) (i a : ℕ) → i < n → sum_to n (updated w i a) + w i ≡ sum_to n w + a
sum_updated n w i a b = omega (arith, sum_change n (updated w i a) w i b (λ j c d. updated_other w i a j d), updated_same w i a)

-- a summand is at most the sum
pub sum_under : (n : ℕ) (w : ℕ → ℕ) (i : ℕ) → i < n → w i ≤ sum_to n w
sum_under n w i b = omega (arith, sum_updated n w i 0 b)

-- a set and what it leaves
pub sum_parts : (n : ℕ) (S : ℕ → Bool) (w : ℕ → ℕ) → sum_to n (λ i. or_zero (S i) (w i)) + sum_to n (λ i. or_zero (not (S i)) (w i)) ≡ sum_to n w
sum_parts n S w = sym (sum_add n (λ i. or_zero (S i) (w i)) (λ i. or_zero (not (S i)) (w i)))
    ∙ sum_same n (λ i. or_zero (S i) (w i) + or_zero (not (S i)) (w i)) w (λ i b. both (S i) (w i))
  where
    both : (s : Bool) (a : ℕ) → or_zero s a + or_zero (not s) a ≡ a
    both true a = omega arith
    both false a = omega arith

-- ---- the counting lemma

-- i is sent to a place below m where w has at least what v has at i
pub record Sent (m : ℕ) (v w : ℕ → ℕ) (To : ℕ → ℕ → Type 0) (i : ℕ) : Type 0 where
  pub place : ℕ
  pub range : place < m
  pub sent : To i place
  pub enough : v i ≤ w place

-- a place stays as good when another one is emptied
elsewhere : {m : ℕ} {v w : ℕ → ℕ} {To : ℕ → ℕ → Type 0} {i : ℕ} (s : Sent m v w To i) (p : ℕ) → s.place ≢ p → Sent m v (updated w p 0) To i
elsewhere {w = w} s p d = record { place = s.place; range = s.range; sent = s.sent; enough = omega (arith, updated_other w p 0 s.place d, s.enough) }

-- each i with v i > 0 is sent to a place, no two to the same
pub counting : (n m : ℕ) (v w : ℕ → ℕ) (To : ℕ → ℕ → Type 0)
    → ((i : ℕ) → i < n → 0 < v i → Sent m v w To i)
    → ((i i' j : ℕ) → i < n → i' < n → To i j → To i' j → i ≡ i')
    → sum_to n v ≤ sum_to m w
unfolding sum_to
counting zero m v w To f once = omega arith
counting (suc n) m v w To f once =
    elim (ℕ_discrete (v n) 0) [
      | yes e ↦ omega (arith, counting n m v w To (λ i b. f i (omega arith)) earlier)
      | no d ↦
          let s : Sent m v w To n = f n (omega arith) (omega arith) in
          omega (arith, counting n m v (updated w s.place 0) To (rest s) earlier, sum_updated m w s.place 0 s.range, s.enough)
    ]
  where
    earlier : (i i' j : ℕ) → i < n → i' < n → To i j → To i' j → i ≡ i'
    earlier i i' j b b' = once i i' j (omega arith) (omega arith)

    rest : (s : Sent m v w To n) (i : ℕ) → i < n → 0 < v i → Sent m v (updated w s.place 0) To i
    rest s i b c =
        let t : Sent m v w To i = f i (omega arith) c in
        elsewhere t s.place (λ e. omega (arith, once i n s.place (omega arith) (omega arith) (rw e at t.sent) s.sent))

-- the same with a function f
pub counting_by : (n m : ℕ) (v w : ℕ → ℕ) (f : ℕ → ℕ)
    → ((i : ℕ) → i < n → 0 < v i → f i < m)
    → ((i : ℕ) → i < n → 0 < v i → v i ≤ w (f i))
    → ((i j : ℕ) → i < n → j < n → 0 < v i → 0 < v j → f i ≡ f j → i ≡ j)
    → sum_to n v ≤ sum_to m w
counting_by n m v w f range enough once =
    counting n m v w (λ i j. (0 < v i) × (f i ≡ j)) (λ i b c. record { place = f i; range = range i b c; sent = (c, refl); enough = enough i b c })
    (λ i i' j b b' s t. once i i' b b' s.0 t.0 (s.1 ∙ sym t.1))

-- the same for two sets: the one has at most as many elements as the other
pub count_le : (n m : ℕ) (S R : ℕ → Bool) (f : ℕ → ℕ)
    → ((i : ℕ) → i < n → T (S i) → (f i < m) × T (R (f i)))
    → ((i j : ℕ) → i < n → j < n → T (S i) → T (S j) → f i ≡ f j → i ≡ j)
    → sum_to n (λ i. or_zero (S i) 1) ≤ sum_to m (λ j. or_zero (R j) 1)
count_le n m S R f into once =
    counting_by n m (λ i. or_zero (S i) 1) (λ j. or_zero (R j) 1) f (λ i b p. (into i b (or_zero_pos (S i) 1 p)).0)
    (λ i b p. or_zero_le (S i) (R (f i)) 1 1 (λ t. (into i b t).1) (λ t. omega arith))
    (λ i j b d p q. once i j b d (or_zero_pos (S i) 1 p) (or_zero_pos (S j) 1 q))
