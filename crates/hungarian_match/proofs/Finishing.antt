-- The last loops: perm and the column duals entry by entry, the row duals from the front.
use mathlib.Core.Path.{◌≡◌, refl, sym, ap, ◌∙◌, subst}
use mathlib.Core.Logic.{◌≢◌, ⊎_elim}
use mathlib.Core.Bool.{true, false, cond}
use mathlib.Core.List.{List, [], ◌∷◌, ◌++◌}
use Prim.Native.Nat.{ℕ, zero, suc, ◌+◌, ◌*◌, ◌<◌, ◌≤◌}
use native.Mathlib.Numerals.{add-one}
use native.Mathlib.Omega.{arith}
use lib.Dec.{eqb}
use lib.ListN.{length, get_or, take, drop, set}
use lib.Seq.{take-nil, drop-nil}
use lib.Ieee.{Float, nan, binary64, sub}
use Rattle.limits.specs.Limits.{none}
use Rattle.slices.proofs.Lists.{copied, whole}
use Rattle.float64.specs.Constants.{zero as fzero}
use Rattle.sparse.specs.Pattern.{row_of}
use Rattle.hungarian.specs.Graph.{CostGraph, graph_of}
use Rattle.hungarian.specs.Init.{reduced}
use Rattle.hungarian.specs.Match.{perm_of, column_duals, row_duals}
use Rattle.hungarian.specs.inner.Layout.{region, iperm_at, jperm_at}
use Rattle.hungarian.proofs.Regions.{region_at, region_length}
use Rattle.hungarian_path.proofs.Growths.{jperm_at_lem}
use Rattle.hungarian_match.specs.inner.StepsFinish.{Finishable, Columned}

-- ---- perm and the column duals
module _ (g : CostGraph) where
  pub perm_length : (ks : List ℕ) → length (perm_of g ks) ≡ length ks
  unfolding perm_of
  perm_length [] = refl
  perm_length (k ∷ ks) = ap suc (perm_length ks)

  pub perm_at : (ks : List ℕ) (j : ℕ) → j < length ks → get_or (perm_of g ks) j 0 ≡ cond (eqb (get_or ks j 0) none) none (row_of g.pattern (get_or ks j 0))
  unfolding perm_of
  perm_at [] j h = absurd (omega arith)
  perm_at (k ∷ ks) zero h = refl
  perm_at (k ∷ ks) (suc j) h = perm_at ks j (omega arith)

  pub duals_length : (u : List Float) (ks : List ℕ) → length (column_duals g u ks) ≡ length ks
  unfolding column_duals
  duals_length u [] = refl
  duals_length u (k ∷ ks) = ap suc (duals_length u ks)

  pub dual_at : (u : List Float) (ks : List ℕ) (j : ℕ) → j < length ks → get_or (column_duals g u ks) j nan ≡ cond (eqb (get_or ks j 0) none) fzero
      (reduced g u (get_or ks j 0))
  unfolding column_duals
  dual_at u [] j h = absurd (omega arith)
  dual_at u (k ∷ ks) zero h = refl
  dual_at u (k ∷ ks) (suc j) h = dual_at u ks j (omega arith)

-- ---- the row duals
pub rows_length : (l : List ℕ) (u : List Float) → length (row_duals l u) ≡ length u
unfolding row_duals
rows_length [] u = refl
rows_length (j ∷ l) [] = refl
rows_length (j ∷ l) (x ∷ u) = ap suc (rows_length l u)

-- ---- the entry of column j, in the slice
pub column_count_lem : {n : ℕ} {rows : List ℕ} {cost u : List Float} {w : List ℕ} → Finishable n rows cost u w → length (region jperm_at n w) ≡ n
column_count_lem {n} {rows} {cost} {u} {w} F = region_length jperm_at n w (omega (arith, F.workspace.words))

-- an entry that is one: it and its row are in range
pub entry_inside : {n : ℕ} {rows : List ℕ} {cost u : List Float} {w : List ℕ} → Finishable n rows cost u w → (j : ℕ) → j < n → get_or w (n + j) 0 ≢ none
    → (get_or w (n + j) 0 < length rows) × (get_or rows (get_or w (n + j) 0) 0 < n)
entry_inside {n} {rows} {cost} {u} {w} F j h x =
    let e = jperm_at_lem n w j h in
    let k : get_or w (n + j) 0 < length rows =
    subst (λ (y : ℕ). y < length rows) e
    (⊎_elim (λ (y : get_or (region jperm_at n w) j 0 ≡ none). absurd (x (sym e ∙ y))) (λ (y : get_or (region jperm_at n w) j 0 < length rows). y)
    (F.entries j h)) in
    (k, F.inside (get_or w (n + j) 0) k)

-- ---- perm and v below j
pub record Copied (n : ℕ) (rows : List ℕ) (cost u : List Float) (ks perm : List ℕ) (v : List Float) (j : ℕ) : Type 0 where
  pub rows_at : (col_ptr : List ℕ) → take j perm ≡ take j (perm_of (graph_of n col_ptr rows cost) ks)
  pub duals_at : (col_ptr : List ℕ) → take j v ≡ take j (column_duals (graph_of n col_ptr rows cost) u ks)

module _ {n : ℕ} {rows : List ℕ} {cost u : List Float} {ks perm : List ℕ} {v : List Float} where
  module _ {j : ℕ} (h : j < length ks) (a : length perm ≡ length ks) (b : length v ≡ length ks) (C : Copied n rows cost u ks perm v j) where
    -- a free column
    pub copy_free : eqb (get_or ks j 0) none ≡ true → Copied n rows cost u ks (set perm j none) (set v j fzero) (j + 1)
    copy_free t = record {
      rows_at = λ col_ptr. let g = graph_of n col_ptr rows cost in
          copied perm (perm_of g ks) j none 0 (omega arith) (rw (perm_length g ks) h) (sym (perm_at g ks j h ∙ rw t refl)) (C.rows_at col_ptr);
      duals_at = λ col_ptr. let g = graph_of n col_ptr rows cost in copied v (column_duals g u ks) j fzero nan (omega arith) (rw (duals_length g u ks) h)
          (sym (dual_at g u ks j h ∙ rw t refl)) (C.duals_at col_ptr);
    }

    -- a matched one
    pub copy_matched : eqb (get_or ks j 0) none ≡ false → Copied n rows cost u ks (set perm j (get_or rows (get_or ks j 0) 0))
        (set v j (sub binary64 (get_or cost (get_or ks j 0) nan) (get_or u (get_or rows (get_or ks j 0) 0) nan))) (j + 1)
    copy_matched t = record {
      rows_at = λ col_ptr. let g = graph_of n col_ptr rows cost in
          copied perm (perm_of g ks) j (row_of g.pattern (get_or ks j 0)) 0 (omega arith) (rw (perm_length g ks) h) (sym (perm_at g ks j h ∙ rw t refl))
          (C.rows_at col_ptr);
      duals_at = λ col_ptr. let g = graph_of n col_ptr rows cost in
          copied v (column_duals g u ks) j (reduced g u (get_or ks j 0)) nan (omega arith) (rw (duals_length g u ks) h)
          (sym (dual_at g u ks j h ∙ rw t refl)) (C.duals_at col_ptr);
    }

  pub copy_ends : length ks ≡ n → length perm ≡ n → length v ≡ n → (j : ℕ) → j ≡ n → Copied n rows cost u ks perm v j → Columned n rows cost u ks perm v
  copy_ends h a b j e C = record {
    rows_of = λ col_ptr. let g = graph_of n col_ptr rows cost in whole j perm (perm_of g ks) (a ∙ sym e) (perm_length g ks ∙ h ∙ sym e) (C.rows_at col_ptr);
    duals = λ col_ptr. let g = graph_of n col_ptr rows cost in whole j v (column_duals g u ks) (b ∙ sym e) (duals_length g u ks ∙ h ∙ sym e) (C.duals_at col_ptr);
  }

-- ---- the column of row i, in the slice
module _ (n : ℕ) (w : List ℕ) where
  pub row_count : n ≤ length w → length (region iperm_at n w) ≡ n
  row_count h = region_length iperm_at n w (omega arith)

  pub column_at_lem : (i : ℕ) → i < n → get_or (region iperm_at n w) i 0 ≡ get_or w i 0
  column_at_lem i h = rw (region_at iperm_at n w i 0 h) (ap (λ (p : ℕ). get_or w p 0) (let e : 0 * n + i ≡ i = omega arith in e))

-- ---- the row duals below i are finished
abbrev pub finished_to : ℕ → List ℕ → List Float → List Float
finished_to i js u = take i u ++ row_duals (drop i js) (drop i u)

pub row_stays : (i : ℕ) (js : List ℕ) (u : List Float) → i < length js → i < length u → eqb (get_or js i 0) none ≡ false
    → finished_to (i + 1) js u ≡ finished_to i js u
unfolding row_duals
row_stays i js u h l t = rw (add-one i) (go i js u h l t)
  where
    go : (i : ℕ) (js : List ℕ) (u : List Float) → i < length js → i < length u → eqb (get_or js i 0) none ≡ false → finished_to (suc i) js u ≡ finished_to i js u
    go i [] u h l t = absurd (omega arith)
    go i (j ∷ js) [] h l t = absurd (omega arith)
    go zero (j ∷ js) (x ∷ u) h l t = rw t refl
    go (suc i) (j ∷ js) (x ∷ u) h l t = ap (λ (r : List Float). x ∷ r) (go i js u (omega arith) (omega arith) t)

pub row_freed : (i : ℕ) (js : List ℕ) (u : List Float) → i < length js → i < length u → eqb (get_or js i 0) none ≡ true → finished_to (i + 1) js
    (set u i fzero) ≡ finished_to i js u
unfolding row_duals
row_freed i js u h l t = rw (add-one i) (go i js u h l t)
  where
    go : (i : ℕ) (js : List ℕ) (u : List Float) → i < length js → i < length u → eqb (get_or js i 0) none ≡ true → finished_to (suc i) js
        (set u i fzero) ≡ finished_to i js u
    go i [] u h l t = absurd (omega arith)
    go i (j ∷ js) [] h l t = absurd (omega arith)
    go zero (j ∷ js) (x ∷ u) h l t = rw t refl
    go (suc i) (j ∷ js) (x ∷ u) h l t = ap (λ (r : List Float). x ∷ r) (go i js u (omega arith) (omega arith) t)

pub rows_done : (i : ℕ) (js : List ℕ) (u : List Float) → length js ≤ i → length u ≤ i → finished_to i js u ≡ u
unfolding row_duals
rows_done i js [] h l = rw (take-nil i, drop-nil i) (none_left (drop i js))
  where
    none_left : (ks : List ℕ) → row_duals ks [] ≡ []
    none_left [] = refl
    none_left (k ∷ ks) = refl
rows_done zero js (x ∷ u) h l = absurd (omega arith)
rows_done (suc i) [] (x ∷ u) h l = ap (λ (r : List Float). x ∷ r) (sym (simp_nil i u) ∙ rows_done i [] u (omega arith) (omega arith))
  where
    simp_nil : (i : ℕ) (u : List Float) → finished_to i [] u ≡ take i u ++ drop i u
    simp_nil i u = rw (drop-nil {A = ℕ} i) refl
rows_done (suc i) (j ∷ js) (x ∷ u) h l = ap (λ (r : List Float). x ∷ r) (rows_done i js u (omega arith) (omega arith))
