-- The columns of the entries rise, so no pair is repeated (`pairs_apart`). By induction on the columns.
use mathlib.Core.Path.{◌≡◌, refl, sym, subst}
use mathlib.Core.Bool.{Bool, true, false, cond, and-false}
use mathlib.Core.List.{List, [], ◌∷◌, ◌++◌, append-nil, map}
use Prim.Native.Nat.{ℕ, zero, suc, ◌<◌}
use native.Mathlib.Omega.{arith}
use borrow.Author.Tests.{ne_eqb}
use lib.Dec.{eqb}
use lib.ListN.{get_or}
use Rattle.text_matrix_market.specs.declared.stages.Entry.{Entry}
use Rattle.text_matrix_market.specs.File.{entry_row, entry_column, pair_among, repeats, repeated}
use Rattle.text_pairs_read.specs.Pairs.{pair_entry, pair_entries}

-- each entry is in a column above c
abbrev After : ℕ → List Entry → Type 0
After c [] = Unit
After c (t ∷ entries) = (c < t.column) × After c entries

-- columns rise, and are below k
abbrev Rising : ℕ → List Entry → Type 0
Rising k [] = Unit
Rising k (t ∷ entries) = (t.column < k) × After t.column entries × Rising k entries

after_more : (c : ℕ) (entries : List Entry) (t : Entry) → After c entries → c < t.column → After c (entries ++ (t ∷ []))
after_more c [] t p h = (h, tt)
after_more c (s ∷ entries) t p h = (p.0, after_more c entries t p.1 h)

rising_more : (row k : ℕ) (entries : List Entry) → Rising k entries → Rising (suc k) (entries ++ (pair_entry row k ∷ []))
rising_more row k [] p = (omega arith, tt, tt)
rising_more row k (t ∷ entries) p =
    (omega (arith, p.0), after_more t.column entries (pair_entry row k) p.1 p.0, rising_more row k entries p.2)

rising_later : (k : ℕ) (entries : List Entry) → Rising k entries → Rising (suc k) entries
rising_later k [] p = tt
rising_later k (t ∷ entries) p = (omega (arith, p.0), p.1, rising_later k entries p.2)

columns_rise : (k : ℕ) (perm : List ℕ) → Rising k (pair_entries k perm)
unfolding pair_entries
columns_rise zero perm = tt
columns_rise (suc k) perm = go (eqb (get_or perm k 0) 4294967295) (columns_rise k perm)
  where
    go : (none : Bool) → Rising k (pair_entries k perm) → Rising (suc k) (pair_entries k perm ++ cond none [] (pair_entry (get_or perm k 0) k ∷ []))
    go true p = subst (Rising (suc k)) (sym (append-nil (pair_entries k perm))) (rising_later k (pair_entries k perm) p)
    go false p = rising_more (get_or perm k 0) k (pair_entries k perm) p

-- ---- an entry and those behind it
after_other : (t : Entry) (entries : List Entry) → After t.column entries
    → pair_among t.row t.column (map entry_row entries) (map entry_column entries) ≡ false
unfolding pair_among
after_other t [] p = refl
after_other t (s ∷ entries) p =
    rw (ne_eqb s.column t.column (λ e. omega (arith, p.0)), and-false, after_other t entries p.1)

rising_apart : (k : ℕ) (entries : List Entry) → Rising k entries → repeated entries ≡ false
unfolding repeats
rising_apart k [] p = refl
rising_apart k (t ∷ entries) p = rw (after_other t entries p.1, rising_apart k entries p.2)

pub pairs_apart : (n : ℕ) (perm : List ℕ) → repeated (pair_entries n perm) ≡ false
pairs_apart n perm = rising_apart n (pair_entries n perm) (columns_rise n perm)
