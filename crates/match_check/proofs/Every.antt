-- Loops that test: the result of the test over k places, whether or not one failed. By one turn of the definition.
use mathlib.Core.Path.{◌≡◌, refl, sym, ap, ◌∙◌, subst}
use mathlib.Core.Bool.{Bool, true, false, ◌&&◌, ◌||◌}
use Prim.Native.Nat.{ℕ, zero, suc, ◌+◌, ◌-◌, ◌≤◌, ◌<◌}
use native.Mathlib.Nat.{add-zero, add-suc, suc-add, not-suc-le-zero, sub-zero, zero-add}
use native.Mathlib.Numerals.{add-one}
use native.Mathlib.Omega.{arith}
use Rattle.slices.proofs.Bools.{both}
use Rattle.match_check.specs.Check.{every_of, some_of}

and_assoc : (a b c : Bool) → (a && (b && c)) ≡ ((a && b) && c)
and_assoc true b c = refl
and_assoc false b c = refl

and-true : (a : Bool) → (a && true) ≡ a
and-true true = refl
and-true false = refl

or_assoc : (a b c : Bool) → (a || (b || c)) ≡ ((a || b) || c)
or_assoc true b c = refl
or_assoc false b c = refl

or-false : (a : Bool) → (a || false) ≡ a
or-false true = refl
or-false false = refl

-- ---- every place
module _ (f : ℕ → Bool) (from to : ℕ) where
  -- the test of all, when those before k are worth `fine`
  abbrev pub Every : Bool → ℕ → Type 0
  Every fine k = every_of (to - from) f from ≡ (fine && every_of (to - k) f k)

  pub every_begins : Every true from
  every_begins = refl

  every_turn : (m k : ℕ) → m ≡ suc (to - (k + 1)) → every_of m f k ≡ (f k && every_of (to - (k + 1)) f (k + 1))
  unfolding every_of
  every_turn m k e = rw (e, add-one k) refl

  pub every_goes_on : (fine : Bool) (k : ℕ) → k < to → Every fine k → Every (fine && f k) (k + 1)
  every_goes_on fine k h e = e ∙ ap (λ (b : Bool). fine && b) (every_turn (to - k) k (omega arith)) ∙ and_assoc fine (f k) _

  every_none : (m k : ℕ) → m ≡ 0 → every_of m f k ≡ true
  unfolding every_of
  every_none m k e = rw e refl

  pub every_ends : (fine : Bool) (k : ℕ) → to ≤ k → Every fine k → fine ≡ every_of (to - from) f from
  every_ends fine k h e = sym (e ∙ ap (λ (b : Bool). fine && b) (every_none (to - k) k (omega arith)) ∙ and-true fine)

-- from the first place on
pub every_all : (f : ℕ → Bool) (to : ℕ) (fine : Bool) (k : ℕ) → to ≤ k → Every f 0 to fine k → fine ≡ every_of to f 0
every_all f to fine k h e = every_ends f 0 to fine k h e ∙ ap (λ (m : ℕ). every_of m f 0) (sub-zero to)

-- ---- one place
module _ (f : ℕ → Bool) (from to : ℕ) where
  abbrev pub Some : Bool → ℕ → Type 0
  Some found k = some_of (to - from) f from ≡ (found || some_of (to - k) f k)

  pub some_begins : Some false from
  some_begins = refl

  some_turn : (m k : ℕ) → m ≡ suc (to - (k + 1)) → some_of m f k ≡ (f k || some_of (to - (k + 1)) f (k + 1))
  unfolding some_of
  some_turn m k e = rw (e, add-one k) refl

  pub some_goes_on : (found : Bool) (k : ℕ) → k < to → Some found k → Some (found || f k) (k + 1)
  some_goes_on found k h e = e ∙ ap (λ (b : Bool). found || b) (some_turn (to - k) k (omega arith)) ∙ or_assoc found (f k) _

  some_none : (m k : ℕ) → m ≡ 0 → some_of m f k ≡ false
  unfolding some_of
  some_none m k e = rw e refl

  pub some_ends : (found : Bool) (k : ℕ) → to ≤ k → Some found k → found ≡ some_of (to - from) f from
  some_ends found k h e = sym (e ∙ ap (λ (b : Bool). found || b) (some_none (to - k) k (omega arith)) ∙ or-false found)

-- one place more, at the end
pub some_more : (f : ℕ → Bool) (m k : ℕ) → some_of (suc m) f k ≡ (some_of m f k || f (k + m))
unfolding some_of
some_more f zero k = rw add-zero (or-false (f k))
some_more f (suc m) k = ap (λ (b : Bool). f k || b) (some_more f m (suc k)) ∙ or_assoc (f k) (some_of m f (suc k)) (f (suc k + m))
    ∙ ap (λ (i : ℕ). (f k || some_of m f (suc k)) || f i) (omega arith)

-- ---- what the tests mean
pub every_each : (f : ℕ → Bool) (count k : ℕ) → every_of count f k ≡ true → (i : ℕ) → i < count → f (k + i) ≡ true
unfolding every_of
every_each f zero k e i h = absurd (not-suc-le-zero h)
every_each f (suc count) k e zero h = rw add-zero (both (f k) _ e).0
every_each f (suc count) k e (suc i) h = rw (add-suc k i, ← suc-add k i) (every_each f count (suc k) (both (f k) _ e).1 i (omega arith))

pub each_every : (f : ℕ → Bool) (count k : ℕ) → ((i : ℕ) → i < count → f (k + i) ≡ true) → every_of count f k ≡ true
unfolding every_of
each_every f zero k h = refl
each_every f (suc count) k h =
    let a : f k ≡ true = rw add-zero at (h 0 (omega arith)) in
    rw a (each_every f count (suc k) (λ i l. rw (suc-add k i, ← add-suc k i) (h (suc i) (omega arith))))

-- the same for the places from `from` up to `to`, and for the first ones
pub every_span : (f : ℕ → Bool) (from to : ℕ) → every_of (to - from) f from ≡ true → (k : ℕ) → from ≤ k → k < to → f k ≡ true
every_span f from to e k l h = let s : from + (k - from) ≡ k = omega arith in
    subst (λ (i : ℕ). f i ≡ true) s (every_each f (to - from) from e (k - from) (omega arith))

pub every_first : (f : ℕ → Bool) (count : ℕ) → every_of count f 0 ≡ true → (k : ℕ) → k < count → f k ≡ true
every_first f count e k h = subst (λ (i : ℕ). f i ≡ true) (zero-add k) (every_each f count 0 e k h)

pub first_every : (f : ℕ → Bool) (count : ℕ) → ((k : ℕ) → k < count → f k ≡ true) → every_of count f 0 ≡ true
first_every f count h = each_every f count 0 (λ i l. subst (λ (k : ℕ). f k ≡ true) (sym (zero-add i)) (h i l))

pub span_every : (f : ℕ → Bool) (from to : ℕ) → ((k : ℕ) → from ≤ k → k < to → f k ≡ true) → every_of (to - from) f from ≡ true
span_every f from to h = each_every f (to - from) from (λ i l. h (from + i) (omega arith) (omega arith))

-- two tests that agree at every place
same_from : (f h : ℕ → Bool) (count k : ℕ) → ((i : ℕ) → i < count → f (k + i) ≡ h (k + i)) → every_of count f k ≡ every_of count h k
unfolding every_of
same_from f h zero k e = refl
same_from f h (suc count) k e =
    let a : f k ≡ h k = rw add-zero at (e 0 (omega arith)) in
    rw (a, same_from f h count (suc k) (λ i l. rw (suc-add k i, ← add-suc k i) (e (suc i) (omega arith)))) refl

pub every_same : (f h : ℕ → Bool) (count : ℕ) → ((k : ℕ) → k < count → f k ≡ h k) → every_of count f 0 ≡ every_of count h 0
every_same f h count e = same_from f h count 0 (λ i l. subst (λ (k : ℕ). f k ≡ h k) (sym (zero-add i)) (e i l))
