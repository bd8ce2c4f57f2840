-- Both triangles of a symmetric matrix as a general one: its bounds are those of the stored entries and of their mirrors (`general_form`), since each
-- of its places has the value, the row and the column of one of these.
use mathlib.Core.Path.{◌≡◌, sym, ap, ap₂, ◌∙◌, subst}
use mathlib.Core.Bool.{true}
use mathlib.Core.List.{List}
use mathlib.Core.Logic.{⊎_elim}
use Prim.Native.Nat.{ℕ, ◌<◌}
use lib.IntN.{ℤ, ◌+ℤ◌, +ℤ_comm}
use lib.Ieee.{Float, nan}
use lib.ListN.{length, get_or}
use Rattle.float64.specs.Number.{magnitude}
use Rattle.sparse.specs.Matrix.{Matrix}
use Rattle.sparse.specs.Pattern.{column_of}
use Rattle.mc64_general.specs.Graph.{is_kept}
use Rattle.exponents_powers.specs.Power.{Exponents}
use Rattle.exponents_apply.specs.Apply.{exponent_at, shift_at}
use Rattle.exponents_bounds.specs.Bounds.{KeptEntry, IsMatched, IsMirrorMatched, entry_magnitude, BelowTwo, AboveQuarter, Scaled}
use Rattle.exponents_bounds.specs.Bounds.{Bounded, swapped, SymmetricBounded, HoldsAt, HoldsEntry, HoldsMirror, GeneralForm}

module _ (m full : Matrix) (perm : List ℕ) (e : Exponents) (F : GeneralForm m full) (B : SymmetricBounded m perm e) where
  abbrev row : ℕ → ℕ
  row k = get_or m.pattern.row_idx k 0

  abbrev column : ℕ → ℕ
  column k = column_of m.pattern k

  -- a place that holds a kept entry is kept, and the other way
  kept_from : {i j : ℕ} (k l : ℕ) → k < length m.pattern.row_idx → HoldsAt full (get_or m.values k nan) i j l → KeptEntry full l → KeptEntry m k
  kept_from k l h H K = record { stored = h; nonzero = subst (λ (x : Float). is_kept x ≡ true) H.value K.nonzero }

  kept_to : {i j : ℕ} (k l : ℕ) → HoldsAt full (get_or m.values k nan) i j l → KeptEntry m k → KeptEntry full l
  kept_to k l H K = record { stored = H.stored; nonzero = subst (λ (x : Float). is_kept x ≡ true) (sym H.value) K.nonzero }

  entry_shift : (k l : ℕ) → HoldsEntry m full k l → shift_at full.pattern e l ≡ shift_at m.pattern e k
  entry_shift k l H = ap₂ (λ (i j : ℕ). exponent_at e.rows i +ℤ exponent_at e.columns j) H.row H.column

  mirror_shift : (k l : ℕ) → HoldsMirror m full k l → shift_at full.pattern e l ≡ shift_at m.pattern (swapped e) k
  mirror_shift k l H =
      ap₂ (λ (i j : ℕ). exponent_at e.rows i +ℤ exponent_at e.columns j) H.row H.column
      ∙ +ℤ_comm (exponent_at e.rows (column k)) (exponent_at e.columns (row k))

  -- a bound of entry k is one of the place that holds it
  moved : (Bound : ℕ → ℕ → Type 0) {i j : ℕ} (k l : ℕ) (shift : ℤ) → HoldsAt full (get_or m.values k nan) i j l → shift_at full.pattern e l ≡ shift
      → Scaled Bound (entry_magnitude m k) shift → Scaled Bound (entry_magnitude full l) (shift_at full.pattern e l)
  moved Bound k l shift H q b =
      subst (Scaled Bound (entry_magnitude full l)) (sym q) (subst (λ (x : Float). Scaled Bound (magnitude x) shift) (sym H.value) b)

  any_below : (l : ℕ) → l < length full.pattern.row_idx → Scaled BelowTwo (entry_magnitude full l) (shift_at full.pattern e l)
  any_below l h =
      let (k, b, H) = F.each l h in
      ⊎_elim (λ (G : HoldsEntry m full k l). moved BelowTwo k l (shift_at m.pattern e k) G (entry_shift k l G) (B.entries.below k b))
      (λ (G : HoldsMirror m full k l). moved BelowTwo k l (shift_at m.pattern (swapped e) k) G (mirror_shift k l G) (B.mirrors.below k b)) H

  matched_above : (l : ℕ) → KeptEntry full l → IsMatched full perm l → Scaled AboveQuarter (entry_magnitude full l) (shift_at full.pattern e l)
  matched_above l K q =
      let (k, b, H) = F.each l K.stored in
      ⊎_elim
      (λ (G : HoldsEntry m full k l).
      moved AboveQuarter k l (shift_at m.pattern e k) G (entry_shift k l G)
      (B.entries.above k (kept_from k l b G K) (ap (λ (j : ℕ). get_or perm j 0) (sym G.column) ∙ q ∙ G.row)))
      (λ (G : HoldsMirror m full k l).
      moved AboveQuarter k l (shift_at m.pattern (swapped e) k) G (mirror_shift k l G)
      (B.mirrors.above k (kept_from k l b G K) (ap (λ (j : ℕ). get_or perm j 0) (sym G.column) ∙ q ∙ G.row))) H

  abbrev Pair : ℕ → Type 0
  Pair j = (l : ℕ) × KeptEntry full l × (column_of full.pattern l ≡ j) × IsMatched full perm l

  pair_place : (j : ℕ) → j < m.pattern.n → Pair j
  pair_place j h = let (k, K, q) = B.pairs j h in ⊎_elim (as_entry k K) (as_mirror k K) q
    where
      as_entry : (k : ℕ) → KeptEntry m k → (column k ≡ j) × IsMatched m perm k → Pair j
      as_entry k K (c, q) = let (l, H) = F.entry k K.stored in
          (l, kept_to k l H K, H.column ∙ c, ap (λ (i : ℕ). get_or perm i 0) H.column ∙ q ∙ sym H.row)

      as_mirror : (k : ℕ) → KeptEntry m k → (row k ≡ j) × IsMirrorMatched m perm k → Pair j
      as_mirror k K (c, q) = let (l, H) = F.mirror k K.stored in
          (l, kept_to k l H K, H.column ∙ c, ap (λ (i : ℕ). get_or perm i 0) H.column ∙ q ∙ sym H.row)

  pub general_form : Bounded full perm e
  general_form = record { entries = record { below = any_below; above = matched_above }; pairs = λ j h. pair_place j (subst (λ (n : ℕ). j < n) F.columns h) }
