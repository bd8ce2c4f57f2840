-- What the tests of triplets leave for the assembly: sizes, and indices below n. And how a call's answer and slices are what it promises.
use Rattle.std.proofs.Common.{Result, Ok, Err}
use mathlib.Core.Path.{◌≡◌, refl, sym, ap, ◌∙◌, subst}
use mathlib.Core.Bool.{Bool, true, false, false≢true, cond}
use mathlib.Core.List.{List}
use mathlib.Core.Logic.{◌≢◌, ◌⊎◌, inl, inr}
use Prim.Native.Nat.{ℕ, ◌+◌, ◌*◌, ◌≤◌, ◌<◌}
use native.Mathlib.Omega.{arith}
use borrow.Author.Tests.{eqb-true, ltb-true, lt-ltb, le-ltb, lt-leb, le-leb}
use lib.Dec.{eqb, ltb}
use lib.ListN.{length, get_or}
use Rattle.refusal.specs.Refusal.{index_range, upper_triangle}
use Rattle.refusal.specs.Listed.{OneOf}
use Rattle.slices.specs.Outcome.{outcome_is}
use Rattle.sparse.specs.Fault.{first_of}
use Rattle.sparse.specs.Validate.{size_fault}
use Rattle.slices.proofs.Refusing.{refused_is}
use Rattle.triplets.specs.Built.{Triplets, Slices, kept_count, built}
use Rattle.triplets.specs.inner.Steps.{Built, Sized, Roomy}
use Rattle.refusal.specs.Number.{number, fault_of}
use Rattle.refusal.specs.declared.Refusal.{Refusal}
use Rattle.refusal.proofs.Numbers.{number_ne_zero}
use Rattle.sparse.specs.Assemble.{AnswersBy, outcome, general_triplet, lower_triplet, triplet_of, triplet_lengths, triplet_fault, triplet_fault_of}
use Rattle.limits.specs.Limits.{max_general, max_symmetric}
use Rattle.triplets.specs.Order.{Below}
use Rattle.sparse.proofs.First.{or-zero, unless_holds, all_zero, answer_first, answer_second}
use Rattle.sparse.proofs.Listed.{Listed}
use Rattle.slices.proofs.Bools.{both}
use Rattle.sparse.proofs.Accepted.{sizes_accepted}

-- ---- outcomes
module _ (n : ℕ) (t : Triplets) (s : Slices) where
  -- what a call promises of its answer and the slices left
  pub record Promised (numbers : List ℕ) (answer : Result ℕ ℕ) (after : Slices) (fault : ℕ) : Type 0 where
    pub outcome_lem : outcome_is answer after ≡ outcome fault n t s
    pub answered : AnswersBy fault (kept_count n t) answer
    pub number_lem : OneOf numbers (fault_of answer)

  pub refused : {numbers : List ℕ} (e : Refusal) (fault : ℕ) → Listed numbers fault → number e ≡ fault → Promised numbers (Err (number e)) s fault
  refused {numbers} e fault l q =
      record {
        outcome_lem = refused_is Err (outcome_is (Ok (kept_count n t)) (built n t s)) s q (number_ne_zero e);
        answered = record { number = q; count = λ z. absurd (number_ne_zero e z) };
        number_lem = subst (OneOf numbers) (sym q) l.is;
      }

  pub accepted : {numbers : List ℕ} (after : Slices) (kept fault : ℕ) → Listed numbers fault → 0 ≡ fault → Built n t s after kept
      → Promised numbers (Ok kept) after fault
  accepted {numbers} after kept fault l q b =
      let o : outcome_is (Ok kept) after ≡ outcome 0 n t s = λ i. record { answer = Ok (b.count i); after = b.slices i } in
      record {
        outcome_lem = o ∙ ap (λ (f : ℕ). outcome f n t s) q;
        answered = record { number = q; count = λ z. b.count };
        number_lem = subst (OneOf numbers) (sym q) l.is;
      }

-- ---- lengths
pub pairs_fit_lem : (n count cols vals col_ptr row_idx values work : ℕ) → triplet_lengths n count cols vals col_ptr row_idx values work ≡ true → cols ≡ count
unfolding triplet_lengths
pairs_fit_lem n count cols vals col_ptr row_idx values work e = eqb-true cols count (both (eqb cols count) _ e).0

module _ (limit n : ℕ) (t : Triplets) (s : Slices) (low : limit ≤ 262144)
    (sizes : size_fault n limit (length t.rows)
    (triplet_lengths n (length t.rows) (length t.cols) (length t.vals) (length s.col_ptr) (length s.row_idx) (length s.values)
    (length s.work)) ≡ 0) where
  pub pairs_are : length t.cols ≡ length t.rows
  pairs_are = pairs_fit_lem n (length t.rows) (length t.cols) _ _ _ _ _ ((sizes_accepted n limit (length t.rows) _).0 sizes).2

  module _ (inside : Below n t.rows) (cols_in : Below n t.cols) where
    pub ready : Sized n t.rows t.cols s.col_ptr s.work × Roomy n t.rows t.cols t.vals s.row_idx s.values s.work
    unfolding triplet_lengths
    ready =
        let m = length t.rows in
        let a = (sizes_accepted n limit m _).0 sizes in
        let c = both (eqb (length t.cols) m) _ a.2 in
        let v = both (eqb (length t.vals) m) _ c.1 in
        let p = both (eqb (length s.col_ptr) (n + 1)) _ v.1 in
        let r = both (eqb (length s.row_idx) m) _ p.1 in
        let x = both (eqb (length s.values) m) _ r.1 in
        let work : length s.work ≡ 2 * n + 2 + m = eqb-true (length s.work) (2 * n + 2 + m) x.1 in (
          record {
            columns = a.0;
            entries = omega (arith, a.1);
            pairs = eqb-true _ _ c.0;
            colptrs = eqb-true _ _ p.0;
            room = work;
            rows_in =
                inside;
            cols_in = cols_in;
          },
          record {
            columns = a.0;
            entries = omega (arith, a.1);
            pairs = eqb-true _ _ c.0;
            triples = eqb-true _ _ v.0;
            row_room = eqb-true _ _ r.0;
            value_room = eqb-true _ _ x.0;
            room = work;
            rows_in = inside;
            cols_in = cols_in;
          },
        )

-- ---- indices
module _ (n : ℕ) (rows cols : List ℕ) where
  in_range_lem : (k : ℕ) → general_triplet n rows cols k ≡ 0 → (get_or rows k 0 < n) × (get_or cols k 0 < n)
  in_range_lem k e =
      let b = both (ltb (get_or rows k 0) n) (ltb (get_or cols k 0) n) (unless_holds _ index_range (omega arith) e) in
      (ltb-true _ _ b.0, ltb-true _ _ b.1)

  general_inside : first_of (length rows) (general_triplet n rows cols) 0 ≡ 0 → (k : ℕ) → k < length rows → (get_or rows k 0 < n) × (get_or cols k 0 < n)
  general_inside e k h = in_range_lem k ((all_zero _ (length rows)).0 e k h)

  lower_inside : first_of (length rows) (lower_triplet n rows cols) 0 ≡ 0 → (k : ℕ) → k < length rows → (get_or rows k 0 < n) × (get_or cols k 0 < n)
  lower_inside e k h = in_range_lem k (or-zero (general_triplet n rows cols k) _ ((all_zero _ (length rows)).0 e k h)).0

  pub either_inside : (lower : Bool) → first_of (length rows) (triplet_of lower n rows cols) 0 ≡ 0 → (k : ℕ) → k < length rows
      → (get_or rows k 0 < n) × (get_or cols k 0 < n)
  either_inside true = lower_inside
  either_inside false = general_inside

-- ---- the tests of one triplet, (row, col)
module _ (n : ℕ) (rows cols : List ℕ) (k : ℕ) {row col : ℕ} (r : row ≡ get_or rows k 0) (c : col ≡ get_or cols k 0) where
  outside : (n ≤ row) ⊎ ((row < n) × (n ≤ col)) → general_triplet n rows cols k ≡ index_range
  outside (inl h) = rw (← r, le-ltb row n h)
  outside (inr h) = rw (← r, ← c, lt-ltb row n h.0, le-ltb col n h.1)

  within : row < n → col < n → general_triplet n rows cols k ≡ 0
  within h l = rw (← r, ← c, lt-ltb row n h, lt-ltb col n l)

  pub triplet_out : (lower : Bool) → (n ≤ row) ⊎ ((row < n) × (n ≤ col)) → triplet_of lower n rows cols k ≡ index_range
  triplet_out true out = rw (outside out)
  triplet_out false out = outside out

  pub triplet_above : (lower : Bool) → lower ≡ true → row < n → col < n → row < col → triplet_of lower n rows cols k ≡ upper_triangle
  triplet_above true low h l above = rw (within h l, ← r, ← c, lt-leb col row above)
  triplet_above false low h l above = absurd (false≢true low)

  pub triplet_right : (lower : Bool) → (lower ≡ true → col ≤ row) → row < n → col < n → triplet_of lower n rows cols k ≡ 0
  triplet_right true below h l = rw (within h l, ← r, ← c, le-leb col row (below refl))
  triplet_right false below h l = within h l

-- ---- the calls: what is found is the fault, and without one the assembly has what it requires
module _ (lower : Bool) (n : ℕ) (t : Triplets) (s : Slices) {limit : ℕ} (limit_is : limit ≡ cond lower max_symmetric max_general) where
  abbrev Lengths : Bool
  Lengths = triplet_lengths n (length t.rows) (length t.cols) (length t.vals) (length s.col_ptr) (length s.row_idx) (length s.values) (length s.work)

  low : limit ≤ 262144
  low = rw limit_is (go lower)
    where
      go : (l : Bool) → cond l max_symmetric max_general ≤ 262144
      go true = omega arith
      go false = omega arith

  pub sizes_found : {found : ℕ} → found ≡ size_fault n limit (length t.rows) Lengths → found ≢ 0 → found ≡ triplet_fault_of lower n t s
  unfolding triplet_fault
  sizes_found e some = answer_first _ (e ∙ ap (λ (l : ℕ). size_fault n l (length t.rows) Lengths) limit_is) some

  module _ (fine : 0 ≡ size_fault n limit (length t.rows) Lengths) where
    pub indices_found : {found : ℕ} → found ≡ first_of (length t.rows) (triplet_of lower n t.rows t.cols) 0 → found ≡ triplet_fault_of lower n t s
    unfolding triplet_fault
    indices_found e = answer_second (fine ∙ ap (λ (l : ℕ). size_fault n l (length t.rows) Lengths) limit_is) refl e

    pub paired : length t.cols ≡ length t.rows
    paired = pairs_are limit n t s low (sym fine)

    pub assembles : 0 ≡ first_of (length t.rows) (triplet_of lower n t.rows t.cols) 0
        → Sized n t.rows t.cols s.col_ptr s.work × Roomy n t.rows t.cols t.vals s.row_idx s.values s.work
    assembles e =
        let i = either_inside n t.rows t.cols lower (sym e) in
        ready limit n t s low (sym fine) (λ k h. (i k h).0) (λ k h. (i k (omega (arith, h, paired))).1)
