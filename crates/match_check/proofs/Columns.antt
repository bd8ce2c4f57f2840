-- The loops over columns: where a column's entries are, and how the column's own test counts among all.
use Rattle.std.proofs.Common.{take, drop}
use Rattle.std.proofs.lemmas.List.{get_or-take, get_or-drop, length-take-le, length-drop}
use mathlib.Core.Path.{◌≡◌, sym, ap, ◌∙◌}
use mathlib.Core.Bool.{Bool}
use mathlib.Core.List.{List}
use Prim.Native.Nat.{ℕ, suc, ◌+◌, ◌-◌, ◌≤◌, ◌<◌}
use native.Mathlib.Nat.{le_refl}
use native.Mathlib.Numerals.{add-one}
use native.Mathlib.Omega.{arith}
use lib.ListN.{length, get_or}
use lib.Ieee.{Float}
use Rattle.sparse.specs.Pattern.{pattern}
use Rattle.sparse.proofs.Columns.{pointers_rise}
use Rattle.match_check.specs.Check.{Claim, every_of, some_of}
use Rattle.match_check.specs.inner.Steps.{AcceptedPattern, Stretch, Checkable}

module _ {n : ℕ} {col_ptr row_idx : List ℕ} (p : AcceptedPattern n col_ptr row_idx) (j : ℕ) (h : j < n) where
  pub rises : get_or col_ptr j 0 ≤ get_or col_ptr (j + 1) 0
  rises = pointers_rise (pattern n col_ptr row_idx) p.columns j (j + 1) (omega arith) (omega arith)

  pub within : get_or col_ptr (j + 1) 0 ≤ length row_idx
  within = let l = pointers_rise (pattern n col_ptr row_idx) p.columns (j + 1) n (omega arith) (le_refl n) in omega (arith, p.columns.pointers.last)

pub stretch : {n : ℕ} {col_ptr row_idx : List ℕ} {cost : List Float} {s : Claim} → Checkable n col_ptr row_idx cost s → (j : ℕ) → j < n
    → Stretch (get_or col_ptr j 0) (get_or col_ptr (j + 1) 0) row_idx cost s.u
stretch c j h = record {
  rises = rises c.pattern j h;
  within = within c.pattern j h;
  costs = c.costs;
  rows = λ k l. let b = c.pattern.columns.inside k l in omega (arith, c.row_duals);
}

-- the entries of a column as a list of their own
module _ {A : Type 0} (list : List A) (from to : ℕ) (l : from ≤ to) (h : to ≤ length list) where
  pub part_length : length (take (to - from) (drop from list)) ≡ to - from
  part_length = length-take-le (to - from) (drop from list) (omega (arith, length-drop from list))

  pub part_at : (i : ℕ) (d : A) → i < to - from → get_or (take (to - from) (drop from list)) i d ≡ get_or list (from + i) d
  part_at i d b = get_or-take (to - from) (drop from list) i d b ∙ get_or-drop from list i d

-- the code's next column is the definition's
pub every_column : (col_ptr : List ℕ) (f : ℕ → Bool) (j : ℕ) {r : Bool} → r ≡ every_of (get_or col_ptr (j + 1) 0 - get_or col_ptr j 0) f (get_or col_ptr j 0)
    → every_of (get_or col_ptr (suc j) 0 - get_or col_ptr j 0) f (get_or col_ptr j 0) ≡ r
every_column col_ptr f j e = sym (e ∙ ap (λ (i : ℕ). every_of (get_or col_ptr i 0 - get_or col_ptr j 0) f (get_or col_ptr j 0)) (add-one j))

pub some_column : (col_ptr : List ℕ) (f : ℕ → Bool) (j : ℕ) {r : Bool} → r ≡ some_of (get_or col_ptr (j + 1) 0 - get_or col_ptr j 0) f (get_or col_ptr j 0)
    → some_of (get_or col_ptr (suc j) 0 - get_or col_ptr j 0) f (get_or col_ptr j 0) ≡ r
some_column col_ptr f j e = sym (e ∙ ap (λ (i : ℕ). some_of (get_or col_ptr i 0 - get_or col_ptr j 0) f (get_or col_ptr j 0)) (add-one j))
