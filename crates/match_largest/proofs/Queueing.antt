-- The columns without a row, queued one after the other: the places so far are those of the columns before j. By one more column.
use mathlib.Core.Path.{◌≡◌, refl, sym, ap, ◌∙◌}
use mathlib.Core.Bool.{Bool, true, false}
use mathlib.Core.List.{List}
use Prim.Native.Nat.{ℕ, ◌+◌, ◌≤◌, ◌<◌}
use native.Mathlib.Nat.{mul-one, not-suc-le-zero}
use native.Mathlib.Numerals.{add-one}
use native.Mathlib.Decide.{ℕ_discrete}
use native.Mathlib.Omega.{arith}
use borrow.Author.Tests.{eqb-true, eqb-false}
use lib.Dec.{eqb}
use lib.ListN.{length, get_or, set, length-set}
use lib.Seq.{get_or-set_same, get_or-set_other}
use mir.Val.{bool_byte}
use Rattle.limits.specs.Limits.{none}
use Rattle.matching.specs.Sum.{sum_to, or_zero}
use Rattle.matching.proofs.Sums.{sum_le, sum_const}
use Rattle.match_largest.specs.Marks.{row_at, is_free}
use Rattle.match_largest.specs.inner.Sweeps.{Queued}

or_bit : (b : Bool) → or_zero b 1 ≤ 1
or_bit true = omega arith
or_bit false = omega arith

pub bit_byte : (b : Bool) → or_zero b 1 ≡ bool_byte b
bit_byte true = refl
bit_byte false = refl

pub byte_most : (b : Bool) → bool_byte b ≤ 1
byte_most true = omega arith
byte_most false = omega arith

-- a count is at most its range
pub count_few : (n : ℕ) (S : ℕ → Bool) → sum_to n (λ i. or_zero (S i) 1) ≤ n
count_few n S = omega (arith, sum_le n (λ i. or_zero (S i) 1) (λ i. 1) (λ i b. or_bit (S i)), sum_const n 1, mul-one n)

-- one more
pub count_more : (n : ℕ) (S : ℕ → Bool) → sum_to (n + 1) (λ i. or_zero (S i) 1) ≡ sum_to n (λ i. or_zero (S i) 1) + bool_byte (S n)
unfolding sum_to
count_more n S = rw (add-one n, ← bit_byte (S n)) refl

pub queue_begins : (perm : List ℕ) {queue : List ℕ} → length queue ≡ 4097 → Queued perm 0 queue 0
unfolding sum_to
queue_begins perm e = record { places = e; count = refl; is_column = λ p h. absurd (not-suc-le-zero h); place = λ c h. absurd (not-suc-le-zero h) }

pub queue_few : {perm : List ℕ} {j : ℕ} {queue : List ℕ} {free : ℕ} → Queued perm j queue free → free ≤ j
queue_few {perm} {j} q = omega (arith, q.count, count_few j (is_free perm))

pub queue_next : {perm : List ℕ} {j : ℕ} {queue : List ℕ} {free : ℕ} → Queued perm j queue free → j < 4096
    → Queued perm (j + 1) (set queue free j) (free + bool_byte (eqb (get_or perm j 0) none))
queue_next {perm} {j} {queue} {free} q h = go (is_free perm j) refl
  where
    here : get_or (set queue free j) free 0 ≡ j
    here = get_or-set_same queue free j 0 (omega (arith, q.places, queue_few q))

    there : (p : ℕ) → p < free → get_or (set queue free j) p 0 ≡ get_or queue p 0
    there p l = get_or-set_other queue free p j 0 (λ e. let z : ⊥ = omega arith in z)

    old : (p : ℕ) → p < free → (get_or (set queue free j) p 0 < j + 1) × (row_at perm (get_or (set queue free j) p 0) ≡ none)
    old p l = let r = q.is_column p l in (omega (arith, there p l, r.0), ap (row_at perm) (there p l) ∙ r.1)

    stays : (c : ℕ) → c < j → row_at perm c ≡ none → (p : ℕ) × (p < free) × (get_or (set queue free j) p 0 ≡ c)
    stays c l e = let r = q.place c l e in (r.0, r.1, there r.0 r.1 ∙ r.2)

    go : (b : Bool) → is_free perm j ≡ b → Queued perm (j + 1) (set queue free j) (free + bool_byte b)
    go true t = record {
      places = length-set queue free j ∙ q.places;
      count = ap (λ (m : ℕ). m + 1) q.count ∙ sym (count_more j (is_free perm) ∙ ap (λ (b : Bool). sum_to j (λ c. or_zero (is_free perm c) 1) + bool_byte b) t);
      is_column = λ p l. elim (ℕ_discrete p free) [
        | yes e ↦
            let at : get_or (set queue free j) p 0 ≡ j = ap (λ (m : ℕ). get_or (set queue free j) m 0) e ∙ here in
            (omega (arith, at), ap (row_at perm) at ∙ eqb-true (row_at perm j) none t)
        | no d ↦ old p (omega arith)
      ];
      place = λ c l e. elim (ℕ_discrete c j) [
        | yes f ↦ (free, omega arith, here ∙ sym f)
        | no d ↦ let r = stays c (omega arith) e in (r.0, omega (arith, r.1), r.2)
      ];
    }
    go false t = record {
      places = length-set queue free j ∙ q.places;
      count = omega (arith, q.count, count_more j (is_free perm) ∙ ap (λ (b : Bool). sum_to j (λ c. or_zero (is_free perm c) 1) + bool_byte b) t);
      is_column = λ p l. old p (omega arith);
      place = λ c l e. elim (ℕ_discrete c j) [
        | yes f ↦ absurd (eqb-false (row_at perm j) none t (ap (row_at perm) (sym f) ∙ e))
        | no d ↦ let r = stays c (omega arith) e in (r.0, omega (arith, r.1), r.2)
      ];
    }

pub counted_none : (S : ℕ → Bool) → 0 ≡ sum_to 0 (λ i. or_zero (S i) 1)
unfolding sum_to
counted_none S = refl
