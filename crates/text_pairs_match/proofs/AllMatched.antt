-- A largest matching of a graph whose entries together are a matching has them all: it is as large as their set, so none is left out.
-- Of any match: no two columns have the same row, since each of its pairs is an entry of the matching.
use mathlib.Core.Path.{◌≡◌, sym, ap, ◌∙◌}
use mathlib.Core.Logic.{◌≢◌}
use mathlib.Core.Bool.{Bool, true, false, not}
use Prim.Native.Nat.{ℕ, ◌≤◌, ◌<◌}
use native.Mathlib.Nat.{mul-one}
use native.Mathlib.Decide.{ℕ_discrete}
use native.Mathlib.Omega.{arith}
use lib.Dec.{T, eqb→eq}
use lib.Ieee.Fits.{eq→eqb}
use Rattle.limits.specs.Limits.{none}
use Rattle.matching.specs.Sum.{sum_to, or_zero}
use Rattle.matching.specs.Matching.{size}
use Rattle.matching.specs.Pairing.{paired_entries}
use Rattle.matching.proofs.Sums.{sum_const, sum_parts, sum_under}
use Rattle.sparse.specs.Pattern.{Pattern, bipartite, row_of, column_of, entries}
use Rattle.hungarian.specs.Match.{Matching}
use Rattle.hungarian.specs.Optimal.{row_for, matched_entries, IsEntry, LargestMatch}
use Rattle.text_pairs_read.specs.Pairs.{Rows}
use Rattle.text_pairs_match.specs.PairGraph.{RowsOnce, AllMatching}

-- ---- any match
module _ {g : Pattern} {m : Matching} (R : LargestMatch g m) where
  -- the entry of a matched column is one of ours
  entry_matched : (j : ℕ) (e : IsEntry g (row_for m j) j) → T (matched_entries g m e.entry)
  unfolding matched_entries paired_entries
  entry_matched j e = eq→eqb (ap (row_for m) e.column ∙ sym e.row)

  pub ranged_once : RowsOnce g.n m.perm
  ranged_once i j h l f e =
      let a : IsEntry g (row_for m i) i = R.pairs i h f in
      let b : IsEntry g (row_for m j) j = R.pairs j l (λ z. f (e ∙ z)) in
      let s : a.entry ≡ b.entry = R.matching.rows a.entry b.entry a.within b.within (entry_matched i a) (entry_matched j b)
      (a.row ∙ e ∙ sym b.row) in
      sym a.column ∙ ap (column_of g) s ∙ b.column

  pub ranged_rows : g.n ≤ 64 → Rows g.n m.perm
  ranged_rows few = record { few = few; places = R.places; rows = R.rows }

-- ---- a set that has as many of the numbers below n as there are has each
all_of : (n : ℕ) (S : ℕ → Bool) → n ≤ sum_to n (λ k. or_zero (S k) 1) → (k : ℕ) → k < n → T (S k)
all_of n S h k l = go (S k) (omega (arith, sum_parts n S (λ i. 1), sum_const n 1, mul-one n, sum_under n (λ i. or_zero (not (S i)) 1) k l))
  where
    go : (b : Bool) → or_zero (not b) 1 ≤ 0 → T b
    go true z = tt
    go false z = let y : ⊥ = omega arith in absurd y

-- ---- a graph whose entries are a matching
module _ {g : Pattern} {m : Matching} (R : LargestMatch g m) (all : AllMatching g) where
  all_size : size (bipartite g) (λ k. true) ≡ entries g
  unfolding size
  all_size = sum_const (entries g) 1 ∙ mul-one (entries g)

  pub all_counted : m.matched ≡ entries g
  unfolding size
  all_counted =
      omega (
        arith,
        all_size,
        R.largest (λ k. true) all,
        R.pair_count,
        sum_parts (entries g) (matched_entries g m) (λ k. 1),
        sum_const (entries g) 1,
        mul-one (entries g),
      )

  pub each_matched : (k : ℕ) → k < entries g → row_for m (column_of g k) ≡ row_of g k
  unfolding size matched_entries paired_entries
  each_matched k h = eqb→eq (row_for m (column_of g k)) (row_of g k) (all_of (entries g) (matched_entries g m) (omega (arith, all_counted, R.pair_count)) k h)

  -- a column without an entry has none
  pub empty_free : (j : ℕ) → j < g.n → ((k : ℕ) → k < entries g → column_of g k ≢ j) → row_for m j ≡ none
  empty_free j h empty = go (ℕ_discrete (row_for m j) none)
    where
      go : Dec (row_for m j ≡ none) → row_for m j ≡ none
      go (yes e) = e
      go (no f) = let e = R.pairs j h f in absurd (empty e.entry e.within e.column)
