-- Laws of the first fault: how a loop finds it, and that it is 0 exactly if nothing is wrong. By one step of the definition each.
use mathlib.Core.Path.{◌≡◌, refl, sym, ap, ◌∙◌, subst}
use mathlib.Core.Bool.{Bool, true, false, not, ◌||◌}
use mathlib.Core.Logic.{◌↔◌, ◌≢◌}
use Prim.Native.Nat.{ℕ, zero, suc, ◌+◌, ◌-◌, ◌≤◌, ◌<◌}
use native.Mathlib.Nat.{add-zero, zero-add, sub-zero, not-suc-le-zero, suc-add, add-suc}
use native.Mathlib.Numerals.{add-one}
use native.Mathlib.Omega.{arith}
use Rattle.sparse.specs.Fault.{unless, or_else, first_of}

-- ---- a chain of faults
pub or-none : {a b : ℕ} → a ≡ 0 → or_else a b ≡ b
or-none {a} {b} h = rw h

pub or_some : (a b : ℕ) → a ≢ 0 → or_else a b ≡ a
or_some zero b h = absurd (h refl)
or_some (suc a) b h = refl

-- how a function answers the chain: with the first fault that it found, or with the second
pub answer_first : {x a : ℕ} (b : ℕ) → x ≡ a → x ≢ 0 → x ≡ or_else a b
answer_first {x} {a} b e h = e ∙ sym (or_some a b (λ z. h (e ∙ z)))

pub answer_second : {w x a b : ℕ} → w ≡ a → w ≡ 0 → x ≡ b → x ≡ or_else a b
answer_second e z h = h ∙ sym (or-none (sym e ∙ z))

-- no fault in two is none in either
pub or-zero : (a b : ℕ) → or_else a b ≡ 0 → (a ≡ 0) × (b ≡ 0)
or-zero zero b h = (refl, h)
or-zero (suc a) b h = let z : ⊥ = omega arith in absurd z

pub unless_holds : (t : Bool) (number : ℕ) → number ≢ 0 → unless t number ≡ 0 → t ≡ true
unless_holds true number h e = refl
unless_holds false number h e = absurd (h e)

-- ---- a loop that looks for the first fault
-- places before k have none: the whole search is the search from k on
abbrev pub Passed : ℕ → (ℕ → ℕ) → ℕ → ℕ → Type 0
Passed whole f to k = whole ≡ first_of (to - k) f k

turn : (f : ℕ → ℕ) (m i k : ℕ) → m ≡ suc i → first_of m f k ≡ or_else (f k) (first_of i f (suc k))
unfolding first_of
turn f m i k e = rw e

none : (f : ℕ → ℕ) (m k : ℕ) → m ≡ 0 → first_of m f k ≡ 0
unfolding first_of
none f m k e = rw e

pub from_zero : (f : ℕ → ℕ) (to : ℕ) → Passed (first_of to f 0) f to 0
from_zero f to = rw sub-zero

module _ {whole : ℕ} (f : ℕ → ℕ) (to k : ℕ) (p : Passed whole f to k) where
  pub pass : k < to → f k ≡ 0 → Passed whole f to (k + 1)
  pass h e = p ∙ turn f (to - k) (to - (k + 1)) k (omega arith) ∙ or-none e ∙ ap (first_of (to - (k + 1)) f) (sym (add-one k))

  pub found : {x : ℕ} → k < to → f k ≡ x → x ≢ 0 → x ≡ whole
  found {x} h e s =
      let r : first_of (to - k) f k ≡ or_else x (first_of (to - (k + 1)) f (suc k)) =
      turn f (to - k) (to - (k + 1)) k (omega arith) ∙ ap (λ (y : ℕ). or_else y (first_of (to - (k + 1)) f (suc k))) e in
      sym (p ∙ r ∙ or_some x _ s)

  pub done : to ≤ k → 0 ≡ whole
  done h = sym (p ∙ none f (to - k) k (omega arith))

-- ---- a loop that looks at every place for one number
-- places before k have no fault, or one has it, and the whole search finds the number
abbrev pub Gathered : ℕ → ℕ → (ℕ → ℕ) → ℕ → ℕ → Bool → Type 0
Gathered whole number f to k false = Passed whole f to k
Gathered whole number f to k true = whole ≡ number

pub gather : (whole number : ℕ) (f : ℕ → ℕ) (to k : ℕ) (fell here : Bool) → number ≢ 0 → k < to → f k ≡ unless (not here) number
    → Gathered whole number f to k fell → Gathered whole number f to (k + 1) (fell || here)
gather whole number f to k true here positive h e p = p
gather whole number f to k false true positive h e p = sym (found f to k p h e positive)
gather whole number f to k false false positive h e p = pass f to k p h e

pub gathered : (whole number : ℕ) (f : ℕ → ℕ) (to k : ℕ) (fell : Bool) → to ≤ k → Gathered whole number f to k fell
    → whole ≡ unless (not fell) number
gathered whole number f to k true h p = p
gathered whole number f to k false h p = sym (done f to k p h)

-- ---- no fault among `count` is none at each
pub each_zero : (f : ℕ → ℕ) (count k : ℕ) → first_of count f k ≡ 0 → (i : ℕ) → i < count → f (k + i) ≡ 0
unfolding first_of
each_zero f zero k e i h = absurd (not-suc-le-zero h)
each_zero f (suc count) k e zero h = rw add-zero (or-zero (f k) _ e).0
each_zero f (suc count) k e (suc i) h = rw (add-suc k i, ← suc-add k i) (each_zero f count (suc k) (or-zero (f k) _ e).1 i (omega arith))

pub zero_each : (f : ℕ → ℕ) (count k : ℕ) → ((i : ℕ) → i < count → f (k + i) ≡ 0) → first_of count f k ≡ 0
unfolding first_of
zero_each f zero k h = refl
zero_each f (suc count) k h =
    or-none (rw add-zero at (h 0 (omega arith)))
    ∙ zero_each f count (suc k) (λ i l. rw (suc-add k i, ← add-suc k i) (h (suc i) (omega arith)))

-- the same for the places from `from` up to `to`
pub span_zero : (f : ℕ → ℕ) (from to : ℕ) → (first_of (to - from) f from ≡ 0) ↔ ((k : ℕ) → from ≤ k → k < to → f k ≡ 0)
span_zero f from to = (
  λ e k l h. let s : from + (k - from) ≡ k = omega arith in subst (λ (i : ℕ). f i ≡ 0) s (each_zero f (to - from) from e (k - from) (omega arith)),
  λ h. zero_each f (to - from) from (λ i l. h (from + i) (omega arith) (omega arith)),
)

pub all_zero : (f : ℕ → ℕ) (count : ℕ) → (first_of count f 0 ≡ 0) ↔ ((k : ℕ) → k < count → f k ≡ 0)
all_zero f count = (λ e k h. rw zero-add at (each_zero f count 0 e k h), λ h. zero_each f count 0 (λ i l. rw zero-add (h i l)))
