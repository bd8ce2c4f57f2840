-- The log factors as bytes: what sizes without a fault say, and the cases of the answers.
use mathlib.Core.Path.{◌≡◌, refl, sym, ap, ap₂, ◌∙◌}
use mathlib.Core.Logic.{◌≢◌}
use mathlib.Core.Bool.{Bool, true, not, ◌&&◌}
use mathlib.Core.List.{List, [], ◌∷◌}
use Prim.Native.Nat.{ℕ, zero, suc, ◌+◌, ◌-◌, ◌*◌, ◌≤◌, ◌<◌}
use native.Mathlib.Omega.{arith}
use borrow.Author.Tests.{eqb-true, leb-true}
use lib.Dec.{eqb, leb}
use lib.ListN.{length, get_or, take, replicate, get_or-replicate}
use lib.Seq.{sets, get_or-take}
use lib.Ieee.{Float, nan, binary64, sub, to_bits}
use Rattle.limits.specs.Limits.{none}
use Rattle.refusal.specs.Refusal.{too_many_columns, slice_length, matching_range}
use Rattle.slices.specs.Outcome.{outcome_is, Outcome, refusing, as_number}
use Rattle.sparse.specs.Fault.{unless}
use Rattle.sparse.proofs.First.{or-none, or-zero, unless_holds, all_zero, answer_first}
use Rattle.slices.proofs.Bools.{both}
use Rattle.matching.specs.Match.{match_of}
use Rattle.factors_mc64.specs.Factors.{doubles_of, is_matched_row, log_factor, factor_at, held, symmetric_factors}
use Rattle.factors_mc64.specs.Calls.{row_or_none, matching_fault}
use Rattle.factors_mc64.specs.inner.Steps.{Rows, Marked}
use Rattle.hungarian_match.proofs.LocalArrays.{part_length}
use Rattle.factors_mc64.proofs.Loops.{mark_tells}
use Rattle.factors_mc64.proofs.Exact.{doubles_length, doubles_at}
use Rattle.byte_numbers.proofs.Words.{laid, lay_none, lay_more, lay_all, double_bytes_are, bits_of, bits_length, bits_at, double_at, double_at_lem}
use Rattle.byte_numbers.specs.Bytes.{bytes_of, words, doubles, word_bytes, double_bytes}
use Rattle.byte_forms.specs.MatchBytes.{byte_columns}
use Rattle.byte_forms.specs.FactorBytes.{FactorBytes, factor_bytes, factor_sizes, cache_read, factors_laid}
use Rattle.byte_forms.specs.FactorBytes.{symmetric_sizes}
use Rattle.byte_forms.specs.inner.Steps.{cache_result, Duals}
use Rattle.byte_forms.specs.FactorBytes.{log_factors_bytes, sides_laid, side_sizes, unsymmetric_bytes}

-- ---- sizes
module _ (n : ℕ) (u v cmax factors : List ℕ) (others : Bool) where
  pub sizes_fit : factor_sizes n (length u) (length v) (length cmax) (length factors) others ≡ 0
      → Duals n (8 * n) u v cmax × (length factors ≡ 8 * n) × (others ≡ true)
  unfolding factor_sizes
  sizes_fit e =
      let s = or-zero (unless (leb n byte_columns) too_many_columns) _ e in
      let l0 = both (eqb (length u) (8 * n)) _ (unless_holds _ slice_length (omega arith) s.1) in
      let l1 = both (eqb (length v) (8 * n)) _ l0.1 in
      let l2 = both (eqb (length cmax) (8 * n)) _ l1.1 in
      let l3 = both (eqb (length factors) (8 * n)) others l2.1 in (
        record {
          columns = leb-true n byte_columns (unless_holds _ too_many_columns (omega arith) s.0);
          row_duals = eqb-true _ _ l0.0;
          column_duals = eqb-true _ _ l1.0;
          largest = eqb-true _ _ l2.0;
        },
        eqb-true _ _ l3.0,
        l3.1,
      )

-- a fault is the answer
refused_by : (f : ℕ) (done : Outcome ℕ FactorBytes) (first second : List ℕ) → f ≢ 0 → outcome_is f (factor_bytes first second) ≡ refusing as_number f done
    (factor_bytes first second)
refused_by zero done first second h = absurd (h refl)
refused_by (suc f) done first second h = refl

-- ---- factors laid down one after the other
module _ (f : ℕ → Float) (n : ℕ) (d : List ℕ) where
  -- the bytes of the first i factors, in front of what was there
  abbrev pub laid_to : ℕ → List ℕ
  laid_to i = laid 8 (bits_of (doubles_of f n)) d i

  factors_count : length (bits_of (doubles_of f n)) ≡ n
  factors_count = bits_length (doubles_of f n) ∙ doubles_length f n

  pub laid_none : d ≡ laid_to 0
  laid_none = lay_none 8 (bits_of (doubles_of f n)) d

  pub laid_more : (i : ℕ) (x : Float) {l : List ℕ} → i < n → length l ≡ 8 * n → l ≡ laid_to i → x ≡ f i
      → sets l (8 * i) (bytes_of 8 (to_bits binary64 x)) ≡ laid_to (i + 1)
  laid_more i x h k e q =
      let z = to_bits binary64 nan in
      let b : to_bits binary64 x ≡ get_or (bits_of (doubles_of f n)) i z =
      ap (to_bits binary64) (q ∙ sym (doubles_at f n i h)) ∙ sym (bits_at (doubles_of f n) i) in
      ap₂ (λ (s : List ℕ) (v : ℕ). sets s (8 * i) (bytes_of 8 v)) e b
      ∙ lay_more 8 (bits_of (doubles_of f n)) d i z (omega (arith, factors_count)) (sym (ap length e) ∙ k ∙ ap (λ (m : ℕ). 8 * m) (sym factors_count))

  pub laid_all : (i : ℕ) → i ≡ n → length d ≡ 8 * n → laid_to i ≡ double_bytes (doubles_of f n)
  laid_all i e h =
      ap laid_to (e ∙ sym factors_count) ∙ lay_all 8 (bits_of (doubles_of f n)) d (h ∙ ap (λ (m : ℕ). 8 * m) (sym factors_count))
      ∙ double_bytes_are (doubles_of f n)

-- ---- unsymmetric
-- the factors of row and column j
abbrev pub row_at : ℕ → List ℕ → ℕ → Float
row_at n u j = held (get_or (doubles u n) j nan)

abbrev pub column_at : ℕ → List ℕ → List ℕ → ℕ → Float
column_at n v cmax j = held (sub binary64 (get_or (doubles v n) j nan) (get_or (doubles cmax n) j nan))

module _ (n : ℕ) (u v cmax rows columns : List ℕ) {found : ℕ}
    (e : found ≡ factor_sizes n (length u) (length v) (length cmax) (length rows) (eqb (length columns) (8 * n))) where
  pub sides_refused : found ≢ 0 → outcome_is found (factor_bytes rows columns) ≡ unsymmetric_bytes n u v cmax rows columns
  unfolding unsymmetric_bytes side_sizes
  sides_refused h =
      refused_by found (sides_laid n (doubles u n) (doubles v n) (doubles cmax n)) rows columns h
      ∙ ap (λ (f : ℕ). refusing as_number f (sides_laid n (doubles u n) (doubles v n) (doubles cmax n)) (factor_bytes rows columns)) e

  pub sides_sized : found ≡ 0 → Duals n (8 * n) u v cmax × (length rows ≡ 8 * n) × (length columns ≡ 8 * n)
  sides_sized z = let s = sizes_fit n u v cmax rows _ (sym e ∙ z) in (s.0, s.1, eqb-true _ _ s.2)

  pub sides_result : {t : Outcome ℕ FactorBytes} → found ≡ 0 → t ≡ sides_laid n (doubles u n) (doubles v n) (doubles cmax n)
      → t ≡ unsymmetric_bytes n u v cmax rows columns
  unfolding unsymmetric_bytes side_sizes
  sides_result z h = h ∙ ap (λ (f : ℕ). refusing as_number f (sides_laid n (doubles u n) (doubles v n) (doubles cmax n)) (factor_bytes rows columns)) (sym z ∙ e)

-- ---- symmetric
-- what an accepted match has
pub pairs_fit_lem : (n matched : ℕ) (perm : List ℕ) → length perm ≡ n → matching_fault n matched perm ≡ 0 → (matched ≤ n) × Rows n perm
unfolding matching_fault
pairs_fit_lem n matched perm l e =
    let z = or-zero (unless (leb matched n) matching_range) _ e in (
      leb-true matched n (unless_holds (leb matched n) matching_range (omega arith) z.0),
      λ k h. unless_holds (row_or_none n (get_or perm k 0)) matching_range (omega arith) ((all_zero _ (length perm)).0 z.1 k (omega (arith, l))),
    )

-- an array of zeros has no marks
pub array_unmarked : (n : ℕ) (perm : List ℕ) → n ≤ byte_columns → Marked n perm 0 (take n (replicate 256 0))
unfolding is_matched_row
array_unmarked n perm h =
    record {
      words = part_length n 256 0 (omega arith);
      marks = λ i l. get_or-take n (replicate 256 0) i 0 l ∙ get_or-replicate 256 i 0 0 (omega arith);
    }

-- the factor of index i, from its mark and what was read
pub factor_read : {n : ℕ} {perm marks : List ℕ} (u v cmax : List ℕ) (i : ℕ) {x a b c : Float} → Marked n perm n marks → i < n
    → x ≡ log_factor (not (eqb (get_or perm i 0) none) && eqb (get_or marks i 0) 1) a b c
    → a ≡ double_at u i → b ≡ double_at v i → c ≡ double_at cmax i
    → x ≡ factor_at n (match_of perm (doubles u n) (doubles v n) (doubles cmax n)) i
factor_read {n} u v cmax i m h e a b c = e ∙ rw (
  mark_tells m i h,
  a ∙ sym (double_at_lem u n i h),
  b ∙ sym (double_at_lem v n i h),
  c ∙ sym (double_at_lem cmax n i h),
) refl

module _ (n matched : ℕ) (perm u v cmax factors unmatched : List ℕ) {found : ℕ} (e : found ≡ matching_fault n matched (words perm n)) where
  pub pairs_refused : found ≢ 0
      → outcome_is found (factor_bytes factors unmatched) ≡ cache_result n matched (cache_read n perm u v cmax) factors unmatched
  unfolding cache_result cache_read
  pairs_refused h =
      let done = factors_laid n matched (cache_read n perm u v cmax) in
      refused_by found done factors unmatched h ∙ ap (λ (f : ℕ). refusing as_number f done (factor_bytes factors unmatched)) e

  pub pairs_laid : {x y : List ℕ} → found ≡ 0
      → x ≡ double_bytes (symmetric_factors n (match_of (words perm n) (doubles u n) (doubles v n) (doubles cmax n)))
      → y ≡ word_bytes ((n - matched) ∷ [])
      → outcome_is 0 (factor_bytes x y) ≡ cache_result n matched (cache_read n perm u v cmax) factors unmatched
  unfolding cache_result cache_read factors_laid
  pairs_laid z p q =
      ap₂ (λ (x y : List ℕ). outcome_is 0 (factor_bytes x y)) p q
      ∙ ap (λ (f : ℕ). refusing as_number f (factors_laid n matched (cache_read n perm u v cmax)) (factor_bytes factors unmatched)) (sym z ∙ e)

module _ (n matched : ℕ) (perm u v cmax factors unmatched : List ℕ) {found : ℕ}
    (e : found ≡ factor_sizes n (length u) (length v) (length cmax) (length factors) (eqb (length perm) (4 * n) && eqb (length unmatched) 4)) where
  pub factors_refused : found ≢ 0 → outcome_is found (factor_bytes factors unmatched) ≡ log_factors_bytes n matched perm u v cmax factors unmatched
  unfolding log_factors_bytes symmetric_sizes
  factors_refused h =
      refused_by found (factors_laid n matched (cache_read n perm u v cmax)) factors unmatched h
      ∙ ap (λ (f : ℕ). refusing as_number f (factors_laid n matched (cache_read n perm u v cmax)) (factor_bytes factors unmatched))
      (answer_first (matching_fault n matched (cache_read n perm u v cmax).perm) e h)

  pub factors_sized : found ≡ 0 → Duals n (8 * n) u v cmax × (length perm ≡ 4 * n) × ((length factors ≡ 8 * n) × (length unmatched ≡ 4))
  factors_sized z =
      let s = sizes_fit n u v cmax factors _ (sym e ∙ z) in
      let o = both (eqb (length perm) (4 * n)) (eqb (length unmatched) 4) s.2 in
      (s.0, eqb-true _ _ o.0, (s.1, eqb-true _ _ o.1))

  pub factors_result : {t : Outcome ℕ FactorBytes} → found ≡ 0 → t ≡ cache_result n matched (cache_read n perm u v cmax) factors unmatched
      → t ≡ log_factors_bytes n matched perm u v cmax factors unmatched
  unfolding log_factors_bytes symmetric_sizes cache_result
  factors_result z h =
      h
      ∙ ap (λ (f : ℕ). refusing as_number f (factors_laid n matched (cache_read n perm u v cmax)) (factor_bytes factors unmatched))
      (sym (or-none {b = matching_fault n matched (cache_read n perm u v cmax).perm} (sym e ∙ z)))
