-- The largest over a stretch: at least each of them, 0 where all are, and what a loop has found so far is where the rest begins.
use mathlib.Core.Path.{◌≡◌, refl, sym, ◌∙◌, subst}
use mathlib.Core.Logic.{◌⊎◌, inl, inr}
use Prim.Native.Nat.{ℕ, zero, suc, ◌+◌, ◌-◌, ◌≤◌, ◌<◌}
use native.Mathlib.Nat.{add-zero, add-suc, suc-add, not-suc-le-zero}
use native.Mathlib.Numerals.{add-one}
use native.Mathlib.Omega.{arith}
use borrow.Author.Tests.{lt-ltb, le-ltb}
use native.Mathlib.Decide.{dec_le}
use native.Mathlib.Nat.{lt_of_not-le}
use Rattle.hungarian.specs.Counts.{larger}
use Rattle.match_gap.specs.Gap.{most_of}

-- the larger of two is each or above it
pub larger_is : (a b : ℕ) → (a ≤ larger a b) × (b ≤ larger a b) × ((larger a b ≡ a) ⊎ (larger a b ≡ b))
unfolding larger
larger_is a b = elim (dec_le b a) [
  | yes h ↦ rw (le-ltb a b h) (omega arith, h, inl refl)
  | no f ↦ rw (lt-ltb a b (lt_of_not-le f)) (let h = lt_of_not-le f in omega arith, omega arith, inr refl)
]

pub most_least : (count : ℕ) (f : ℕ → ℕ) (k most : ℕ) → most ≤ most_of count f k most
unfolding most_of
most_least zero f k most = omega arith
most_least (suc count) f k most = omega (arith, (larger_is most (f k)).0, most_least count f (suc k) (larger most (f k)))

most_at : (count : ℕ) (f : ℕ → ℕ) (k most i : ℕ) → i < count → f (k + i) ≤ most_of count f k most
unfolding most_of
most_at zero f k most i h = absurd (not-suc-le-zero h)
most_at (suc count) f k most zero h = rw add-zero (omega (arith, (larger_is most (f k)).1, most_least count f (suc k) (larger most (f k))))
most_at (suc count) f k most (suc i) h = rw (add-suc k i, ← suc-add k i) (most_at count f (suc k) (larger most (f k)) i (omega arith))

-- each of a stretch is at most the largest
pub most_span : (f : ℕ → ℕ) (from to k : ℕ) → from ≤ k → k < to → f k ≤ most_of (to - from) f from 0
most_span f from to k l h = let e : from + (k - from) ≡ k = omega arith in
    subst (λ (i : ℕ). f i ≤ most_of (to - from) f from 0) e (most_at (to - from) f from 0 (k - from) (omega arith))

most_none : (count : ℕ) (f : ℕ → ℕ) (k : ℕ) → ((i : ℕ) → i < count → f (k + i) ≡ 0) → most_of count f k 0 ≡ 0
unfolding most_of larger
most_none zero f k z = refl
most_none (suc count) f k z =
    let e : f k ≡ 0 = rw add-zero at (z 0 (omega arith)) in
    rw e (most_none count f (suc k) (λ i h. rw (suc-add k i, ← add-suc k i) (z (suc i) (omega arith))))

pub span_none : (f : ℕ → ℕ) (from to : ℕ) → ((k : ℕ) → from ≤ k → k < to → f k ≡ 0) → most_of (to - from) f from 0 ≡ 0
span_none f from to z = most_none (to - from) f from (λ i h. z (from + i) (omega arith) (omega arith))

-- ---- a loop
module _ (f : ℕ → ℕ) (from to : ℕ) where
  -- `most` is the largest of those before k
  abbrev pub Most : ℕ → ℕ → Type 0
  Most most k = most_of (to - k) f k most ≡ most_of (to - from) f from 0

  turn : (m k most : ℕ) → m ≡ suc (to - (k + 1)) → most_of m f k most ≡ most_of (to - (k + 1)) f (k + 1) (larger most (f k))
  unfolding most_of
  turn m k most e = rw (e, add-one k) refl

  pub most_begins : Most 0 from
  most_begins = refl

  pub most_goes_on : (most k : ℕ) → k < to → Most most k → Most (larger most (f k)) (k + 1)
  most_goes_on most k h e = sym (turn (to - k) k most (omega arith)) ∙ e

  ended : (m k most : ℕ) → m ≡ 0 → most_of m f k most ≡ most
  unfolding most_of
  ended m k most e = rw e

  pub most_ends : (most k : ℕ) → to ≤ k → Most most k → most ≡ most_of (to - from) f from 0
  most_ends most k h e = sym (ended (to - k) k most (omega arith)) ∙ e
