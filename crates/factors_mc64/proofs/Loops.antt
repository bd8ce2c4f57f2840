-- The loops: a list that holds f 0, f 1 and so on below i, and the marks of the rows among the first k of perm.
use mathlib.Core.Path.{◌≡◌, refl, sym, ap, ◌∙◌}
use mathlib.Core.Bool.{Bool, true, false, ◌||◌, true≢false}
use mathlib.Core.List.{List}
use Prim.Native.Nat.{ℕ, ◌+◌, ◌≤◌, ◌<◌}
use native.Mathlib.Numerals.{add-one}
use native.Mathlib.Omega.{arith}
use borrow.Author.Tests.{eqb-true, eqb-false, ltb-true, ne_eqb}
use lib.Dec.{eqb, ltb}
use lib.ListN.{length, get_or, take, set, replicate, length-set, length-replicate, get_or-replicate}
use lib.Seq.{take_all, take-suc-set, get_or-set_same, get_or-set_other}
use lib.Ieee.{Float}
use Rattle.limits.specs.Limits.{none}
use Rattle.refusal.specs.Refusal.{matching_range}
use Rattle.sparse.specs.Fault.{unless}
use Rattle.factors_mc64.specs.Factors.{doubles_of, is_matched_row}
use Rattle.factors_mc64.specs.Calls.{row_or_none}
use Rattle.factors_mc64.specs.inner.Steps.{bit, Marked}

-- ---- a list that is filled from the front
pub fill_goes_on : (f : ℕ → Float) (l : List Float) (i : ℕ) (x : Float) → i < length l → x ≡ f i → take i l ≡ doubles_of f i
    → take (i + 1) (set l i x) ≡ doubles_of f (i + 1)
unfolding doubles_of
fill_goes_on f l i x h e t = rw (add-one i, take-suc-set l i x h, t, e) refl

pub fill_ends : (f : ℕ → Float) (l : List Float) (n i : ℕ) → i ≡ n → length l ≡ n → take i l ≡ doubles_of f i → l ≡ doubles_of f n
fill_ends f l n i e h t = sym (take_all i l (omega arith)) ∙ t ∙ ap (doubles_of f) e

-- ---- the rows of a matching
-- refusal 10 of place k
abbrev pub row_fault : ℕ → List ℕ → ℕ → ℕ
row_fault n perm k = unless (row_or_none n (get_or perm k 0)) matching_range

-- ---- the marks
pub row_inside : (n row : ℕ) → row_or_none n row ≡ true → (row ≡ none → ⊥) → row < n
row_inside n row t h = ltb-true row n (other (eqb row none) (ltb row n) (ne_eqb row none h) t)
  where
    other : (a b : Bool) → a ≡ false → (a || b) ≡ true → b ≡ true
    other true b e t = absurd (true≢false e)
    other false b e t = t

pub no_marks_lem : (n : ℕ) (perm : List ℕ) → Marked n perm 0 (replicate n 0)
unfolding is_matched_row
no_marks_lem n perm = record { words = length-replicate n 0; marks = λ i h. get_or-replicate n i 0 0 h }

marked_too : (b t : Bool) → t ≡ true → 1 ≡ bit (b || t)
marked_too true t e = refl
marked_too false t e = rw e refl

as_before : (b t : Bool) → t ≡ false → bit b ≡ bit (b || t)
as_before true t e = refl
as_before false t e = rw e refl

module _ {n : ℕ} {perm work : List ℕ} {k : ℕ} (m : Marked n perm k work) where
  -- a column without a row
  pub mark_none : n ≤ 4096 → get_or perm k 0 ≡ none → Marked n perm (k + 1) work
  unfolding is_matched_row
  mark_none h e = rw (add-one k)
      (record {
        words = m.words;
        marks = λ i l. m.marks i l ∙ as_before (is_matched_row perm i k) (eqb (get_or perm k 0) i)
            (ne_eqb (get_or perm k 0) i (λ z. omega arith));
      })

  pub mark_row : get_or perm k 0 < n → Marked n perm (k + 1) (set work (get_or perm k 0) 1)
  unfolding is_matched_row
  mark_row h = rw (add-one k) (record { words = simp length-set m.words; marks = λ i l. go i l (eqb (get_or perm k 0) i) refl })
    where
      go : (i : ℕ) → i < n → (t : Bool) → eqb (get_or perm k 0) i ≡ t → get_or (set work (get_or perm k 0) 1) i 0 ≡ bit
          (is_matched_row perm i k || eqb (get_or perm k 0) i)
      go i l true e =
          let p : get_or perm k 0 ≡ i = eqb-true (get_or perm k 0) i e in
          let w : i < length work = omega (arith, m.words) in
          ap (λ (q : ℕ). get_or (set work q 1) i 0) p ∙ get_or-set_same work i 1 0 w ∙ marked_too (is_matched_row perm i k) (eqb (get_or perm k 0) i) e
      go i l false e =
          get_or-set_other work (get_or perm k 0) i 1 0 (λ z. eqb-false (get_or perm k 0) i e (sym z))
          ∙ m.marks i l ∙ as_before (is_matched_row perm i k) (eqb (get_or perm k 0) i) e

-- the test of a mark
pub mark_tells : {n : ℕ} {perm work : List ℕ} {k : ℕ} → Marked n perm k work → (i : ℕ) → i < n → eqb (get_or work i 0) 1 ≡ is_matched_row perm i k
mark_tells {n} {perm} {work} {k} m i h = ap (λ (w : ℕ). eqb w 1) (m.marks i h) ∙ bit_tells (is_matched_row perm i k)
  where
    bit_tells : (b : Bool) → eqb (bit b) 1 ≡ b
    bit_tells true = refl
    bit_tells false = refl
