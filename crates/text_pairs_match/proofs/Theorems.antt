-- The match of a match's pairs is those pairs: their graph's entries are a matching, which the match has whole, and a column without a pair has no entry.
use mathlib.Core.Path.{◌≡◌, refl, sym, ap, ◌∙◌, subst}
use mathlib.Core.Bool.{Bool, true, false, true≢false}
use mathlib.Core.List.{List}
use Prim.Native.Nat.{ℕ, ◌≤◌, ◌<◌}
use native.Mathlib.Omega.{arith}
use borrow.Author.Tests.{eqb-true, not-false}
use lib.Dec.{eqb}
use lib.ListN.{length, get_or}
use lib.Seq.{ext_get_or}
use Rattle.limits.specs.Limits.{none}
use Rattle.sparse.specs.Pattern.{Pattern, start, InColumn}
use Rattle.hungarian.specs.Match.{Matching, hungarian_match}
use Rattle.hungarian.specs.Optimal.{row_for, LargestMatch}
use Rattle.sparse.proofs.Columns.{in_column_lem, in_entries, column-is}
use Rattle.hungarian.proofs.Theorems.{match_optimal}
use Rattle.text_pairs_read.specs.Pairs.{pair_entries, Rows}
use Rattle.text_pairs_match.specs.PairGraph.{pair_graph, RowsOnce}
use Rattle.text_pairs_match.proofs.AllMatched.{ranged_rows, ranged_once, all_counted, each_matched, empty_free}
use Rattle.text_pairs_match.proofs.PairLists.{taken, pairs_counted_lem}
use Rattle.text_pairs_match.proofs.PairEntries.{pairs_accepted, pairs_whole, entry_count_lem, columns, only, entry_of, row_is, pairs_matching}

module _ (n : ℕ) (perm : List ℕ) (R : Rows n perm) (once : RowsOnce n perm) where
  pub pairs_ranged : LargestMatch (pair_graph n perm).pattern (hungarian_match (pair_graph n perm))
  pairs_ranged = (match_optimal (pair_graph n perm) (pairs_accepted n perm R) (pairs_whole n perm R)).ranged

  -- the match has each pair
  pub pairs_matched : (hungarian_match (pair_graph n perm)).matched ≡ length (pair_entries n perm)
  pairs_matched = all_counted pairs_ranged (pairs_matching n perm R once) ∙ entry_count_lem n perm R

  same_row : (j : ℕ) → j < n → row_for (hungarian_match (pair_graph n perm)) j ≡ get_or perm j 0
  same_row j h = go (taken perm j) refl
    where
      go : (b : Bool) → taken perm j ≡ b → row_for (hungarian_match (pair_graph n perm)) j ≡ get_or perm j 0
      go true t =
          let k : ℕ = start (pair_graph n perm).pattern j in
          let c : InColumn (pair_graph n perm).pattern j k = entry_of n perm R j h t in
          ap (row_for (hungarian_match (pair_graph n perm))) (sym (column-is (pair_graph n perm).pattern (columns n perm R) j k c))
          ∙ each_matched pairs_ranged (pairs_matching n perm R once) k (in_entries (pair_graph n perm).pattern (columns n perm R) j k c)
          ∙ row_is n perm R j k c
      go false t =
          empty_free pairs_ranged (pairs_matching n perm R once) j h
          (λ k l e. true≢false (sym
          (only n perm R j k (subst (λ (i : ℕ). InColumn (pair_graph n perm).pattern i k) e (in_column_lem (pair_graph n perm).pattern (columns n perm R) k l))).1
          ∙ t))
          ∙ sym (eqb-true (get_or perm j 0) none (not-false (eqb (get_or perm j 0) none) t))

  -- and no other
  pub pairs_back : (hungarian_match (pair_graph n perm)).perm ≡ perm
  pairs_back = ext_get_or 0 (hungarian_match (pair_graph n perm)).perm perm (pairs_ranged.places ∙ sym R.places)
      (λ j h. same_row j (omega (arith, pairs_ranged.places)))

-- ---- of any match of a graph that a file may have
module _ {g : Pattern} {m : Matching} (few : g.n ≤ 64) (R : LargestMatch g m) where
  -- it has as many pairs as it counts
  pub ranged_counted : length (pair_entries g.n m.perm) ≡ m.matched
  ranged_counted = pairs_counted_lem g.n m.perm ∙ sym R.counted

  pub match_again : (hungarian_match (pair_graph g.n m.perm)).perm ≡ m.perm
  match_again = pairs_back g.n m.perm (ranged_rows R few) (ranged_once R)

  pub count_again : (hungarian_match (pair_graph g.n m.perm)).matched ≡ m.matched
  count_again = pairs_matched g.n m.perm (ranged_rows R few) (ranged_once R) ∙ ranged_counted
