-- What the test of the pairs means: it passes exactly if the pairs (perm j, j) are a complete matching. No row occurs twice, so entries of one row
-- are of one column; each column is sent to its entry, so there are n. And n entries in n columns leave no column out.
use mathlib.Core.Path.{◌≡◌, refl, sym, ap, ◌∙◌, subst}
use mathlib.Core.Bool.{Bool, true, false, not, ◌&&◌, ◌||◌}
use mathlib.Core.Logic.{◌≢◌}
use mathlib.Core.List.{List}
use Prim.Native.Nat.{ℕ, zero, suc, ◌+◌, ◌-◌, ◌≤◌, ◌<◌}
use native.Mathlib.Nat.{add-zero, add-suc, suc-add, zero-add, mul-one, not-suc-le-zero}
use native.Mathlib.Decide.{ℕ_discrete, dec_lt}
use native.Mathlib.Omega.{arith}
use borrow.Author.Tests.{eqb-true, eqb-false, not-true, eq-eqb, ne_eqb, lt-ltb}
use lib.Dec.{T, eqb, ltb, eqb→eq, eqb_refl}
use lib.ListN.{get_or}
use lib.Ieee.Fits.{eq→eqb}
use Rattle.slices.proofs.Bools.{both, neither}
use Rattle.sparse.specs.Columns.{Columns}
use Rattle.matching.specs.Sum.{or_zero}
use Rattle.matching.specs.Matching.{IsMatching, Complete, size}
use Rattle.matching.specs.Pairing.{paired_entries}
use Rattle.matching.proofs.Sums.{Sent, counting, count_le, sum_const, sum_parts, sum_under, or_zero_true}
use Rattle.matching.proofs.Matchings.{size_bound}
use Rattle.matching.proofs.Pairings.{not_eqb}
use Rattle.sparse.specs.Pattern.{Pattern, row_of, column_of, entries, start, end, bipartite, InColumn}
use Rattle.sparse.proofs.Columns.{in_range_lem, in_column_lem, simple, column-is, in_entries, row_below}
use Rattle.match_check.specs.Check.{some_of, has_row, row_fresh, pair_stands, rows_below, rows_once, pairs_stand, pairing_fits}
use Rattle.match_check.proofs.Every.{every_first, first_every}

-- ---- one of several places
pub some_place : (f : ℕ → Bool) (count k : ℕ) → some_of count f k ≡ true → (i : ℕ) × (k ≤ i) × (i < k + count) × (f i ≡ true)
unfolding some_of
some_place f zero k e = let z : ⊥ = subst T (sym e) tt in absurd z
some_place f (suc count) k e = go (f k) refl e (some_place f count (suc k))
  where
    go : (b : Bool) → f k ≡ b → (b || some_of count f (suc k)) ≡ true
        → (some_of count f (suc k) ≡ true → (i : ℕ) × (suc k ≤ i) × (i < suc k + count) × (f i ≡ true)) → (i : ℕ) × (k ≤ i) × (i < k + suc count) × (f i ≡ true)
    go true q h rest = (k, omega arith, omega arith, q)
    go false q h rest = let r = rest h in (r.0, omega (arith, r.1), omega (arith, r.2), r.3)

pub some_none : (f : ℕ → Bool) (count k : ℕ) → some_of count f k ≡ false → (i : ℕ) → i < count → f (k + i) ≡ false
unfolding some_of
some_none f zero k e i h = absurd (not-suc-le-zero h)
some_none f (suc count) k e zero h = rw add-zero (neither (f k) _ e).0
some_none f (suc count) k e (suc i) h = rw (add-suc k i, ← suc-add k i) (some_none f count (suc k) (neither (f k) _ e).1 i (omega arith))

pub none-some : (f : ℕ → Bool) (count k : ℕ) → ((i : ℕ) → i < count → f (k + i) ≡ false) → some_of count f k ≡ false
unfolding some_of
none-some f zero k h = refl
none-some f (suc count) k h =
    let a : f k ≡ false = rw add-zero at (h 0 (omega arith)) in
    rw a (none-some f count (suc k) (λ i l. rw (suc-add k i, ← add-suc k i) (h (suc i) (omega arith))))

-- a place that passes is one of them
pub some_found : (f : ℕ → Bool) (count k i : ℕ) → k ≤ i → i < k + count → f i ≡ true → some_of count f k ≡ true
some_found f count k i l h t = go (some_of count f k) refl
  where
    go : (b : Bool) → some_of count f k ≡ b → b ≡ true
    go true e = refl
    go false e = let s : k + (i - k) ≡ i = omega arith in sym (subst (λ (m : ℕ). f m ≡ false) s (some_none f count k e (i - k) (omega arith))) ∙ t

-- ---- a pairing that passes
module _ (g : Pattern) (perm : List ℕ) (w : Columns g.n g.col_ptr g.row_idx) (t : pairing_fits g perm ≡ true) where
  standing : (rows_once g.n perm && pairs_stand g perm) ≡ true
  unfolding pairing_fits
  standing = (both (rows_below g.n perm) _ t).1

  not-before : (i j : ℕ) → i < j → j < g.n → get_or perm i 0 ≡ get_or perm j 0 → ⊥
  unfolding rows_once
  not-before i j l h e =
      let b = every_first (row_fresh perm) g.n (both (rows_once g.n perm) _ standing).0 j h in
      eqb-false (get_or perm i 0) (get_or perm j 0)
      (subst (λ (m : ℕ). eqb (get_or perm m 0) (get_or perm j 0) ≡ false) (zero-add i)
      (some_none (λ m. eqb (get_or perm m 0) (get_or perm j 0)) j 0 (not-true _ b) i l)) e

  -- no row twice
  once : (i j : ℕ) → i < g.n → j < g.n → get_or perm i 0 ≡ get_or perm j 0 → i ≡ j
  once i j h l e = elim (ℕ_discrete i j) [
    | yes q ↦ q
    | no d ↦ elim (dec_lt i j) [
      | yes b ↦ absurd (not-before i j b l e)
      | no b ↦ absurd (not-before j i (omega arith) h (sym e))
    ]
  ]

  -- the entry of column j
  pair_entry_lem : (j : ℕ) → j < g.n → (k : ℕ) × InColumn g j k × (row_of g k ≡ get_or perm j 0)
  unfolding pairs_stand
  pair_entry_lem j h =
      let c = every_first (pair_stands g perm) g.n (both (rows_once g.n perm) _ standing).1 j h in
      let r = some_place (λ k. eqb (get_or g.row_idx k 0) (get_or perm j 0)) (end g j - start g j) (start g j) c in
      (r.0, record { column = h; above = r.1; below = omega (arith, r.1, r.2) }, eqb-true _ _ r.3)

  abbrev pairs : ℕ → Bool
  pairs = paired_entries (bipartite g) (λ j. get_or perm j 0)

  row_is : (k : ℕ) → T (pairs k) → get_or perm (column_of g k) 0 ≡ row_of g k
  unfolding paired_entries
  row_is k s = eqb→eq (get_or perm (column_of g k) 0) (row_of g k) s

  matching : IsMatching (bipartite g) pairs
  matching = record {
    rows = λ k l b d s r e. simple g w k l b d e
        (once (column_of g k) (column_of g l) ((in_range_lem g w).cols k b) ((in_range_lem g w).cols l d) (row_is k s ∙ e ∙ sym (row_is l r)));
    cols = λ k l b d s r e. simple g w k l b d (sym (row_is k s) ∙ ap (λ (j : ℕ). get_or perm j 0) e ∙ row_is l r) e;
  }

  sent : (j : ℕ) → j < g.n → Sent (entries g) (λ i. 1) (λ k. or_zero (pairs k) 1) (λ i k. column_of g k ≡ i) j
  unfolding paired_entries
  sent j h =
      let r = pair_entry_lem j h in
      let e : column_of g r.0 ≡ j = column-is g w j r.0 r.1 in
      let s : T (pairs r.0) = eq→eqb (ap (λ (i : ℕ). get_or perm i 0) e ∙ sym r.2) in
      record { place = r.0; range = in_entries g w j r.0 r.1; sent = e; enough = omega (arith, or_zero_true (pairs r.0) 1 s) }

  enough : g.n ≤ size (bipartite g) pairs
  unfolding size
  enough = omega (
    arith,
    mul-one g.n,
    sum_const g.n 1,
    counting g.n (entries g) (λ i. 1) (λ k. or_zero (pairs k) 1) (λ i k. column_of g k ≡ i)
        (λ i h p. sent i h) (λ i j k b d p q. sym p ∙ q),
  )

  pub complete : Complete (bipartite g) (paired_entries (bipartite g) (λ j. get_or perm j 0))
  complete = record { matching = matching; full = let a = size_bound (in_range_lem g w) matching in omega (arith, enough) }

-- ---- a complete matching passes
module _ (g : Pattern) (perm : List ℕ) (w : Columns g.n g.col_ptr g.row_idx)
    (c : Complete (bipartite g) (paired_entries (bipartite g) (λ j. get_or perm j 0))) where
  abbrev held : ℕ → Bool
  held = paired_entries (bipartite g) (λ j. get_or perm j 0)

  held_row : (k : ℕ) → T (held k) → get_or perm (column_of g k) 0 ≡ row_of g k
  unfolding paired_entries
  held_row k s = eqb→eq (get_or perm (column_of g k) 0) (row_of g k) s

  -- a column without its entry would leave too few
  stands : (j : ℕ) → j < g.n → has_row g.row_idx (get_or perm j 0) (start g j) (end g j) ≡ true
  unfolding size
  stands j h = go (has_row g.row_idx (get_or perm j 0) (start g j) (end g j)) refl
    where
      elsewhere : has_row g.row_idx (get_or perm j 0) (start g j) (end g j) ≡ false → (k : ℕ) → k < entries g → T (held k) → column_of g k ≢ j
      elsewhere z k b s e =
          let i : InColumn g j k = subst (λ (m : ℕ). InColumn g m k) e (in_column_lem g w k b) in
          let r : get_or g.row_idx k 0 ≡ get_or perm j 0 = sym (held_row k s) ∙ ap (λ (m : ℕ). get_or perm m 0) e in
          let t = some_found (λ m. eqb (get_or g.row_idx m 0) (get_or perm j 0)) (end g j - start g j) (start g j) k i.above
          (omega (arith, i.above, i.below)) (eq-eqb _ _ r) in
          let y : ⊥ = subst T (sym t ∙ z) tt in y

      go : (b : Bool) → has_row g.row_idx (get_or perm j 0) (start g j) (end g j) ≡ b → b ≡ true
      go true z = refl
      go false z =
          let l = count_le (entries g) g.n held (λ i. not (eqb i j)) (column_of g)
          (λ k b s. ((in_range_lem g w).cols k b, not_eqb (column_of g k) j (elsewhere z k b s))) c.matching.cols in
          let y : ⊥ = omega (
            arith,
            l,
            c.full,
            sum_parts g.n (λ i. eqb i j) (λ i. 1),
            sum_const g.n 1,
            mul-one g.n,
            sum_under g.n (λ i. or_zero (eqb i j) 1) j h,
            or_zero_true (eqb j j) 1 (eqb_refl j),
          ) in
          absurd y

  -- each column has an entry in its row
  pub entry_at : (j : ℕ) → j < g.n → (k : ℕ) × InColumn g j k × (row_of g k ≡ get_or perm j 0)
  entry_at j h =
      let r = some_place (λ k. eqb (get_or g.row_idx k 0) (get_or perm j 0)) (end g j - start g j) (start g j) (stands j h) in
      (r.0, record { column = h; above = r.1; below = omega (arith, r.1, r.2) }, eqb-true _ _ r.3)

  is_held : (j k : ℕ) → InColumn g j k → row_of g k ≡ get_or perm j 0 → T (held k)
  unfolding paired_entries
  is_held j k i e = eq→eqb (ap (λ (m : ℕ). get_or perm m 0) (column-is g w j k i) ∙ sym e)

  -- two columns of one row are one
  apart : (i j : ℕ) → i < g.n → j < g.n → get_or perm i 0 ≡ get_or perm j 0 → i ≡ j
  apart i j h l e =
      let a = entry_at i h in
      let b = entry_at j l in
      let q : a.0 ≡ b.0 = c.matching.rows a.0 b.0 (in_entries g w i a.0 a.1) (in_entries g w j b.0 b.1)
      (is_held i a.0 a.1 a.2) (is_held j b.0 b.1 b.2) (a.2 ∙ e ∙ sym b.2) in
      sym (column-is g w i a.0 a.1) ∙ ap (column_of g) q ∙ column-is g w j b.0 b.1

  pub complete_passes : pairing_fits g perm ≡ true
  unfolding pairing_fits rows_below rows_once pairs_stand
  complete_passes =
      let a : rows_below g.n perm ≡ true =
      first_every (λ j. ltb (get_or perm j 0) g.n) g.n
      (λ j h. let r = entry_at j h in lt-ltb (get_or perm j 0) g.n (omega (arith, r.2, row_below g w j r.0 r.1))) in
      let b : rows_once g.n perm ≡ true =
      first_every (row_fresh perm) g.n
      (λ j h. ap not (none-some (λ m. eqb (get_or perm m 0) (get_or perm j 0)) j 0
      (λ i l. ne_eqb (get_or perm (0 + i) 0) (get_or perm j 0) (λ e. let q = apart (0 + i) j (omega arith) h e in let z : ⊥ = omega arith in z)))) in
      let d : pairs_stand g perm ≡ true = first_every (pair_stands g perm) g.n stands in
      rw (a, b) d
