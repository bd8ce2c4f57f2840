-- What the test of the marked rows means: where each has a column, the marked columns are closed and the pairing is largest; where one has none, a
-- walk leads to it and the pairing is not (Berge). And what the marks of a largest pairing show, by counting.
use mathlib.Core.Path.{◌≡◌, refl, sym, ap, ◌∙◌, subst}
use mathlib.Core.Logic.{◌≢◌}
use mathlib.Core.Bool.{Bool, true, false, not, ◌&&◌, ◌||◌}
use mathlib.Core.List.{List, [], ◌∷◌}
use Prim.Native.Nat.{ℕ, ◌+◌, ◌≤◌, ◌<◌}
use native.Mathlib.Nat.{mul-one}
use native.Mathlib.Decide.{ℕ_discrete}
use native.Mathlib.Omega.{arith}
use borrow.Author.Tests.{eq-eqb, ne_eqb}
use lib.Dec.{T, T_not, eqb, eqb→eq}
use lib.Ieee.Fits.{eq→eqb}
use lib.ListN.{get_or}
use Rattle.limits.specs.Limits.{none}
use Rattle.sparse.specs.Columns.{Columns}
use Rattle.matching.specs.Sum.{sum_to, or_zero}
use Rattle.matching.specs.Matching.{IsMatching, Largest, size}
use Rattle.matching.specs.Pairing.{paired_entries, matched_count}
use Rattle.matching.proofs.Sums.{or_zero_pos, sum_same, sum_add, sum_parts, sum_const, Sent, counting, count_le}
use Rattle.matching.proofs.Matchings.{Closed, largest}
use Rattle.sparse.specs.Pattern.{Pattern, row_of, column_of, entries, bipartite}
use Rattle.sparse.proofs.Columns.{in_range_lem, simple}
use Rattle.match_check.specs.Check.{taken_before}
use Rattle.match_check.proofs.Every.{every_first, first_every}
use Rattle.match_largest.specs.Marks.{row_at, is_free, marked_columns, marked_rows, is_held, is_largest}
use Rattle.match_largest.specs.Call.{Reached, ReachedRow, HeldBy, Shown, marks_in, marks_of, pairs}
use Rattle.match_largest.proofs.Berge.{Good, Walk, larger, good_matching, good_size}
use Rattle.match_largest.proofs.Rounds.{column_reached_lem, reached_column, row_reached, reached_row, column_bit, row_bit_lem, columns_length, rows_length}
use Rattle.match_largest.proofs.Pairs.{taken_by, not_taken}

module _ (g : Pattern) (perm : List ℕ) (w : Columns g.n g.col_ptr g.row_idx) (p : Good (bipartite g) none (row_at perm)) where
  abbrev column_mark : ℕ → ℕ
  column_mark j = get_or (marked_columns g perm) j 0

  abbrev row_mark : ℕ → ℕ
  row_mark i = get_or (marked_rows g perm) i 0

  -- every entry of a marked column is in a marked row
  pub closed : (k : ℕ) → k < entries g → column_mark (column_of g k) ≡ 1 → row_mark (row_of g k) ≡ 1
  closed k h m = reached_row g perm w (row_of g k) ((in_range_lem g w).rows k h)
      (record { entry = k; within = h; row = refl; column = column_reached_lem g perm w (column_of g k) ((in_range_lem g w).cols k h) m })

  free_marked : (j : ℕ) → j < g.n → row_at perm j ≡ none → column_mark j ≡ 1
  free_marked j h e = reached_column g perm w (Reached.begins h e)

  -- ---- each marked row has a column
  module _ (t : is_largest g perm ≡ true) where
    pub held : (i : ℕ) → i < g.n → row_mark i ≡ 1 → HeldBy g perm (marked_columns g perm) i
    unfolding is_largest
    held i h m =
        let e : (not (eqb (row_mark i) 1) || taken_before perm g.n i) ≡ true = every_first (is_held g perm) g.n t i h in
        let q : taken_before perm g.n i ≡ true = subst (λ (b : Bool). (not b || taken_before perm g.n i) ≡ true) (eq-eqb (row_mark i) 1 m) e in
        let c = taken_by perm g.n i q in
        let r = row_reached g perm w i h m in
        record {
          column = c.0;
          within = c.1;
          row = c.2;
          marked =
              reached_column g perm w (Reached.goes r.entry r.within r.column c.1 (c.2 ∙ sym r.row));
        }

    shut : Closed (bipartite g) (pairs g perm) (λ j. eqb (column_mark j) 1)
    unfolding paired_entries
    shut = record {
      outside = λ j h z.
          let r = p.stand j h (λ e. T_not (eqb (column_mark j) 1) z (eq→eqb (free_marked j h e))) in
          (r.0, r.1, eq→eqb (ap (row_at perm) r.3 ∙ sym r.2), r.3);
      inside = λ k h z.
          let c = held (row_of g k) ((in_range_lem g w).rows k h) (closed k h (eqb→eq (column_mark (column_of g k)) 1 z)) in
          let r = p.stand c.column c.within (λ e. let y : ⊥ = omega (arith, c.row, p.outside, (in_range_lem g w).rows k h) in y) in
          (r.0, r.1, eq→eqb (ap (row_at perm) r.3 ∙ sym r.2), r.2 ∙ c.row, eq→eqb (ap column_mark r.3 ∙ c.marked));
    }

    pub held_largest : Largest (bipartite g) (pairs g perm)
    held_largest = largest (in_range_lem g w) (good_matching (in_range_lem g w) (simple g w) p) shut

  -- ---- one has none
  walk : {j : ℕ} → Reached g perm j → Walk (bipartite g) none (row_at perm) j
  walk (Reached.begins h e) = Walk.begins h e
  walk (Reached.goes k b r h e) = Walk.goes k b (walk r) h e

  not_most : (i : ℕ) → ReachedRow g perm i → taken_before perm g.n i ≡ false → Largest (bipartite g) (pairs g perm) → ⊥
  not_most i r t l =
      let free : (c : ℕ) → c < g.n → row_at perm c ≢ row_of g r.entry = λ c h e. not_taken perm g.n i t c h (e ∙ r.row) in
      let m = larger (in_range_lem g w) p r.entry r.within (walk r.column) free in
      let z : ⊥ = omega (
        arith,
        m.more,
        good_size (in_range_lem g w) (simple g w) m.good,
        good_size (in_range_lem g w) (simple g w) p,
        l.most (paired_entries (bipartite g) m.perm) (good_matching (in_range_lem g w) (simple g w) m.good),
      ) in
      z

  pub largest_held : Largest (bipartite g) (pairs g perm) → is_largest g perm ≡ true
  unfolding is_largest
  largest_held l = first_every (is_held g perm) g.n each
    where
      each : (i : ℕ) → i < g.n → is_held g perm i ≡ true
      each i h = elim (ℕ_discrete (row_mark i) 1) [
        | yes m ↦ go (taken_before perm g.n i) refl m
        | no d ↦ rw (ne_eqb (row_mark i) 1 d) refl
      ]
        where
          go : (b : Bool) → taken_before perm g.n i ≡ b → row_mark i ≡ 1 → (not (eqb (row_mark i) 1) || b) ≡ true
          go true e m = rw (eq-eqb (row_mark i) 1 m) refl
          go false e m = absurd (not_most i (row_reached g perm w i h m) e l)

  -- ---- so many columns stay empty
  -- a list of bits counts its ones
  bits_count : (n : ℕ) (f : ℕ → ℕ) → ((i : ℕ) → i < n → f i ≤ 1) → sum_to n f ≡ sum_to n (λ i. or_zero (eqb (f i) 1) 1)
  bits_count n f b = sum_same n f (λ i. or_zero (eqb (f i) 1) 1) (λ i h. elim (ℕ_discrete (f i) 1) [
    | yes e ↦ e ∙ sym (ap (λ (t : Bool). or_zero t 1) (eq-eqb (f i) 1 e))
    | no d ↦ omega (arith, b i h, ap (λ (t : Bool). or_zero t 1) (ne_eqb (f i) 1 d))
  ])

  both_in : (a b : Bool) → T (a && b) → T a × T b
  both_in true b t = (tt, t)
  both_in false b t = absurd t

  split : (a b : Bool) → or_zero a 1 ≡ or_zero (a && b) 1 + or_zero (a && not b) 1
  split true true = refl
  split true false = refl
  split false b = refl

  pub empty : (R : ℕ → Bool) → IsMatching (bipartite g) R → size (bipartite g) R + marks_in g.n (marked_columns g perm) ≤ g.n + marks_in g.n
      (marked_rows g perm)
  unfolding size
  empty R m =
      omega (
        arith,
        bits_count g.n column_mark (column_bit g perm w),
        bits_count g.n row_mark (row_bit_lem g perm w),
        sum_parts g.n (λ j. eqb (column_mark j) 1) (λ j. 1),
        sum_const g.n 1,
        mul-one g.n,
        sum_same (entries g) (λ k. or_zero (R k) 1)
            (λ k. or_zero (R k && eqb (column_mark (column_of g k)) 1) 1 + or_zero (R k && not (eqb (column_mark (column_of g k)) 1)) 1)
            (λ k h. split (R k) (eqb (column_mark (column_of g k)) 1)),
        sum_add (entries g) (λ k. or_zero (R k && eqb (column_mark (column_of g k)) 1) 1) (λ k. or_zero (R k && not (eqb (column_mark (column_of g k)) 1)) 1),
        count_le (entries g) g.n (λ k. R k && eqb (column_mark (column_of g k)) 1) (λ i. eqb (row_mark i) 1) (row_of g)
            (λ k h t. (
              (in_range_lem g w).rows k h,
              eq→eqb (closed k h (eqb→eq (column_mark (column_of g k)) 1 (both_in (R k) (eqb (column_mark (column_of g k)) 1) t).1)),
            ))
            (λ k l b d s t e. m.rows k l b d (both_in (R k) _ s).0 (both_in (R l) _ t).0 e),
        count_le (entries g) g.n (λ k. R k && not (eqb (column_mark (column_of g k)) 1)) (λ j. not (eqb (column_mark j) 1)) (column_of g)
            (λ k h t. ((in_range_lem g w).cols k h, (both_in (R k) (not (eqb (column_mark (column_of g k)) 1)) t).1))
            (λ k l b d s t e. m.cols k l b d (both_in (R k) _ s).0 (both_in (R l) _ t).0 e),
      )

  -- ---- what an accepted pairing leaves
  module _ (t : is_largest g perm ≡ true) where
    -- each marked row is sent to its column, which has a row and is marked
    sent : (i : ℕ) → i < g.n → row_mark i ≡ 1 → Sent g.n (λ r. or_zero (eqb (row_mark r) 1) 1)
        (λ j. or_zero (eqb (column_mark j) 1 && not (is_free perm j)) 1) (λ r j. row_at perm j ≡ r) i
    sent i h m =
        let c = held t i h m in
        let f : is_free perm c.column ≡ false = ne_eqb (row_at perm c.column) none (λ e. let z : ⊥ = omega (arith, c.row, p.outside) in z) in
        record {
          place = c.column;
          range = c.within;
          sent = c.row;
          enough =
              omega (
                arith,
                ap (λ (b : Bool). or_zero b 1) (eq-eqb (row_mark i) 1 m),
                ap (λ (b : Bool). or_zero (b && not (is_free perm c.column)) 1)
                    (eq-eqb (column_mark c.column) 1 c.marked),
                ap (λ (b : Bool). or_zero (not b) 1) f,
              );
        }

    count_free : sum_to g.n (λ j. or_zero (eqb (column_mark j) 1 && not (not (is_free perm j))) 1) ≡ sum_to g.n (λ j. or_zero (is_free perm j) 1)
    count_free = sum_same g.n _ _ (λ j h. elim (ℕ_discrete (row_at perm j) none) [
      | yes e ↦ rw (eq-eqb (column_mark j) 1 (free_marked j h e), eq-eqb (row_at perm j) none e) refl
      | no d ↦ rw (ne_eqb (row_at perm j) none d) (none_of (eqb (column_mark j) 1))
    ])
      where
        none_of : (b : Bool) → or_zero (b && false) 1 ≡ 0
        none_of true = refl
        none_of false = refl

    pub short : marks_in g.n (marked_columns g perm) + size (bipartite g) (pairs g perm) ≡ g.n + marks_in g.n (marked_rows g perm)
    unfolding matched_count
    short =
        omega (
          arith,
          empty (pairs g perm) (good_matching (in_range_lem g w) (simple g w) p),
          good_size (in_range_lem g w) (simple g w) p,
          bits_count g.n column_mark (column_bit g perm w),
          bits_count g.n row_mark (row_bit_lem g perm w),
          sum_parts g.n (is_free perm) (λ j. 1),
          sum_const g.n 1,
          mul-one g.n,
          count_free,
          sum_same g.n (λ j. or_zero (eqb (column_mark j) 1) 1)
              (λ j. or_zero (eqb (column_mark j) 1 && not (is_free perm j)) 1 + or_zero (eqb (column_mark j) 1 && not (not (is_free perm j))) 1)
              (λ j h. split (eqb (column_mark j) 1) (not (is_free perm j))),
          sum_add g.n (λ j. or_zero (eqb (column_mark j) 1 && not (is_free perm j)) 1) (λ j. or_zero (eqb (column_mark j) 1 && not (not (is_free perm j))) 1),
          counting g.n g.n (λ i. or_zero (eqb (row_mark i) 1) 1) (λ j. or_zero (eqb (column_mark j) 1 && not (is_free perm j)) 1) (λ r j. row_at perm j ≡ r)
              (λ i h q. sent i h (eqb→eq (row_mark i) 1 (or_zero_pos (eqb (row_mark i) 1) 1 q)))
              (λ i j k b d e f. sym e ∙ f),
        )

    pub shown : Shown g perm (marks_of g perm)
    unfolding marks_of
    shown = record {
      column_length = columns_length g perm;
      row_length = rows_length g perm;
      column_marks = λ j h. (column_reached_lem g perm w j h, reached_column g perm w);
      row_marks = λ i h. (row_reached g perm w i h, reached_row g perm w i h);
      column_bits = column_bit g perm w;
      row_bits = row_bit_lem g perm w;
      closed = closed;
      held = held t;
      count = ap (λ (m : ℕ). m ∷ []) (sym (good_size (in_range_lem g w) (simple g w) p));
      short = short;
      empty = empty;
    }
