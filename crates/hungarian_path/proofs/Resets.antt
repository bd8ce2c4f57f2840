-- The touched rows are put back, in the order in which they were touched: each turn is a step of the definition's `restore`, of the distances and of
-- the heap's places. A row put back has no mark (`restored_open`).
use mathlib.Core.Path.{◌≡◌, refl, sym, ap, ◌∙◌}
use mathlib.Core.Logic.{◌⊎◌, inl, inr}
use mathlib.Core.Bool.{Bool, true, false, ◌||◌, true≢false}
use mathlib.Core.List.{List, [], ◌∷◌, map}
use Prim.Native.Nat.{ℕ, ◌+◌, ◌≤◌, ◌<◌}
use native.Mathlib.Decide.{ℕ_discrete}
use native.Mathlib.Numerals.{add-one}
use borrow.Author.Tests.{ne_eqb}
use lib.Dec.{T, eqb}
use lib.ListN.{length, get_or, set, take, drop, length-set}
use lib.Seq.{get_or-set_same, get_or-set_other, drop-cons}
use Rattle.std.proofs.lemmas.List.{drop_all}
use lib.Ieee.{Float}
use Rattle.float64.specs.Constants.{rinf}
use Rattle.index_heap.proofs.Marks.{map-set}
use Rattle.hungarian.specs.inner.Layout.{region, touched_at}
use Rattle.hungarian.specs.Search.{among, restore}
use Rattle.hungarian_path.specs.inner.Views.{unmarked}
use Rattle.hungarian_path.specs.inner.StepsArrays.{Resets}
use Rattle.hungarian_path.proofs.Memory.{unmarked_zero}

-- before place p of the list `rows`
pub record ResetAt (rows pos₀ : List ℕ) (d₀ : List Float) (pos : List ℕ) (d : List Float) (p : ℕ) : Type 0 where
  pub distances : restore rinf (drop p rows) d ≡ restore rinf rows d₀
  pub places : restore 0 (drop p rows) pos ≡ restore 0 rows pos₀

module _ {rows pos₀ : List ℕ} {d₀ : List Float} {pos : List ℕ} {d : List Float} {p : ℕ} (I : ResetAt rows pos₀ d₀ pos d p) where
  pub reset_turn : p < length rows → ResetAt rows pos₀ d₀ (set pos (get_or rows p 0) 0) (set d (get_or rows p 0) rinf) (p + 1)
  unfolding restore
  reset_turn h = record {
    distances = rw add-one (rw (drop-cons rows p 0 h) at I.distances);
    places = rw add-one (rw (drop-cons rows p 0 h) at I.places);
  }

  pub reset_end : (n touched : ℕ) (w : List ℕ) → rows ≡ take touched (region touched_at n w) → length rows ≤ p → Resets n w pos₀ pos d₀ d touched
  unfolding restore
  reset_end n touched w e h =
      let z : drop p rows ≡ [] = drop_all p rows h in
      record { distances = rw e at (rw z at I.distances); places = rw e at (rw z at I.places) }

-- ---- the places of the heap
pub unmarked_restored : (rows pos : List ℕ) → map unmarked (restore 0 rows pos) ≡ restore 0 rows (map unmarked pos)
unfolding restore
unmarked_restored [] pos = refl
unmarked_restored (i ∷ rows) pos =
    unmarked_restored rows (set pos i 0) ∙ ap (restore 0 rows) (map-set unmarked pos i 0 ∙ ap (set (map unmarked pos) i) unmarked_zero)

-- a row that is put back, or that has no mark, has none then
pub restored_open : (P : ℕ → Type 0) → P 0 → (i : ℕ) (rows pos : List ℕ) → i < length pos → T (among i rows) ⊎ P (get_or pos i 0)
    → P (get_or (restore 0 rows pos) i 0)
unfolding restore among
restored_open P z i [] pos h (inl m) = absurd m
restored_open P z i [] pos h (inr p) = p
restored_open P z i (q ∷ rows) pos h s = restored_open P z i rows (set pos q 0) (simp length-set h) (go (ℕ_discrete i q) s)
  where
    go : Dec (i ≡ q) → T (eqb q i || among i rows) ⊎ P (get_or pos i 0) → T (among i rows) ⊎ P (get_or (set pos q 0) i 0)
    go (yes e) s = inr (rw e (rw (get_or-set_same pos q 0 0 (rw e at h)) z))
    go (no o) (inr p) = inr (rw (get_or-set_other pos q i 0 0 o) p)
    go (no o) (inl m) = inl (other (eqb q i) (ne_eqb q i (λ e. o (sym e))) m)
      where
        other : (b : Bool) → b ≡ false → T (b || among i rows) → T (among i rows)
        other true e m = absurd (true≢false e)
        other false e m = m
