-- A symmetric matrix, of which the lower triangle is stored, whose graph of whole-number logarithms was accepted: its mirrored columns are logged ones, each
-- kept place has an entry in the column of its column and one in that of its row, its mirror's, so that a certified match bounds the entries and the mirrors
-- (`symmetric_set`), and its duals are potentials of the logarithms of both (`symmetric_logs`).
use mathlib.Core.Path.{◌≡◌, refl, sym, ap, ap₂, ◌∙◌, subst}
use mathlib.Core.Bool.{Bool, true, ◌&&◌}
use mathlib.Core.List.{List}
use mathlib.Core.Logic.{◌⊎◌, inl, inr}
use Prim.Native.Nat.{ℕ, ◌+◌, ◌≤◌, ◌<◌}
use native.Mathlib.Omega.{arith}
use lib.Dec.{T}
use lib.IntN.{+ℤ_comm}
use lib.Ieee.{Float, nan, binary64, fits, ne}
use lib.Ieee.Scale.{finite}
use lib.ListN.{length, get_or}
use Rattle.float64.specs.Number.{magnitude}
use Rattle.slices.proofs.Bools.{both}
use Rattle.sparse.specs.Columns.{Columns}
use Rattle.sparse.specs.Matrix.{Matrix}
use Rattle.sparse.specs.Pattern.{column_of, row_of}
use Rattle.sparse.proofs.Columns.{simple}
use Rattle.match_check.specs.Check.{Claim, row_for}
use Rattle.match_check.specs.Call.{Certified}
use Rattle.mc64_columns.specs.Columns.{value_logs}
use Rattle.mc64_columns.specs.Graphs.{Slices, kept_before, graph_pointers, graph_rows, graph_largest}
use Rattle.mc64_columns.proofs.Entries.{graph_by, MadeOf, made_at}
use Rattle.mc64_columns.proofs.Whole.{value_log_at}
use Rattle.mc64_general.specs.Graph.{is_kept}
use Rattle.mc64_symmetric.specs.Graph.{kept, places_of, other_end, mirrored_columns}
use Rattle.mc64_symmetric.specs.inner.Steps.{Triangle}
use Rattle.mc64_symmetric.proofs.Theorems.{Takes, taken, stands, place_in, graph_rises}
use Rattle.factors_balance.proofs.Entries.{from_column, from_row, number_of}
use Rattle.whole_graphs.specs.Graphs.{whole_symmetric_fault}
use Rattle.whole_graphs.proofs.Theorems.{Doubles, all_finite, parts, symmetric_ready}
use Rattle.exponents_powers.specs.Power.{Exponents}
use Rattle.exponents.specs.Call.{duals, set_of}
use Rattle.exponents_apply.specs.Apply.{exponent_at, shift_at}
use Rattle.exponents_bounds.specs.Bounds.{KeptEntry, IsMatched, IsMirrorMatched, BelowTwo, AboveQuarter, Scaled, Within, swapped}
use Rattle.exponents_bounds.specs.Bounds.{SymmetricBounded}
use Rattle.exponents_bounds.proofs.Numbers.{ValueLog, LogAtMost, LogTight, kept_log, below_if_kept, some_kept}
use Rattle.exponents_bounds.proofs.AnyColumns.{LoggedColumns, EitherAt, Alone, LogPotentials, row_potential, column_potential, shift_of}
use Rattle.exponents_bounds.proofs.AnyColumns.{pair_made, pair_inside, pair_once, made_below, made_above, made_at_most, made_tight}

module _ (m : Matrix) (s : Slices) (fine : whole_symmetric_fault m s ≡ 0) (doubles : Doubles m.values) where
  abbrev logs : List Float
  logs = value_logs m.values

  triangle : Triangle m
  triangle = (symmetric_ready m s fine doubles).0

  columns : Columns m.pattern.n m.pattern.col_ptr m.pattern.row_idx
  columns = triangle.columns

  value_double : (k : ℕ) → k < length m.pattern.row_idx → T (fits binary64 (get_or m.values k nan))
  value_double k h = doubles k (omega (arith, triangle.stored))

  value_finite : (k : ℕ) → k < length m.pattern.row_idx → finite (get_or m.values k nan) ≡ true
  value_finite k h = all_finite m.values (parts m s fine doubles).1.1 k (omega (arith, triangle.stored))

  -- a value that is not zero is kept, and the other way
  is_kept_lem : (k : ℕ) → k < length m.pattern.row_idx → kept m k ≡ true → KeptEntry m k
  unfolding is_kept ne
  is_kept_lem k h e = record { stored = h; nonzero = ap₂ (λ (a b : Bool). a && b) (value_finite k h) e }

  not-zero : (k : ℕ) → KeptEntry m k → kept m k ≡ true
  unfolding is_kept ne
  not-zero k K = (both (finite (get_or m.values k nan)) _ K.nonzero).1

  place_kept : (c i : ℕ) → i < length (places_of m c) → KeptEntry m (get_or (places_of m c) i 0)
  place_kept c i l = let p = place_in m c i l in is_kept_lem (get_or (places_of m c) i 0) p.0 p.1

  rising : Columns m.pattern.n (graph_pointers (mirrored_columns m) m.pattern.n) (graph_rows (mirrored_columns m) m.pattern.n)
  rising = graph_rises m triangle

  entry_log_lem : (k : ℕ) → KeptEntry m k → ValueLog (get_or m.values k nan) (get_or logs k nan)
  entry_log_lem k K = subst (λ (y : Float). ValueLog (get_or m.values k nan) y) (sym (value_log_at m.values k))
      (kept_log (get_or m.values k nan) (value_double k K.stored) K.nonzero)

  pub symmetric_columns_lem : LoggedColumns m.pattern.n (mirrored_columns m) m.values logs
  symmetric_columns_lem = record {
    few = omega (arith, triangle.few);
    rising = rising;
    logged =
        λ c i h l. entry_log_lem (get_or (places_of m c) i 0) (place_kept c i l);
    tops = λ c h some. refl;
  }

  abbrev Made_of : ℕ → ℕ → ℕ → Type 0
  Made_of e c p = MadeOf m.pattern.n (mirrored_columns m) logs symmetric_columns_lem.rising e c p

  -- each kept place has its entry in the column of either end
  placed : (c k : ℕ) → c < m.pattern.n → KeptEntry m k → Takes m c k → (e : ℕ) × Made_of e c k
  placed c k h K t =
      let (i, l, q) = number_of m c k (not-zero k K) t (length m.pattern.row_idx) K.stored in
      (kept_before (mirrored_columns m) c + i, made_at m.pattern.n (mirrored_columns m) logs symmetric_columns_lem.rising c i h l k q)

  -- the lower triangle is stored
  lower : (k : ℕ) → k < length m.pattern.row_idx → column_of m.pattern k ≤ get_or m.pattern.row_idx k 0
  lower k h = let i = stands m triangle k h in omega (arith, triangle.lower.below (column_of m.pattern k) k i.column i.above i.below)

  pub symmetric_alone : Alone m (EitherAt m)
  symmetric_alone i j k l h g a b = let (r, d) = same a b in simple m.pattern columns k l h g r d
    where
      same : EitherAt m k i j → EitherAt m l i j → (get_or m.pattern.row_idx k 0 ≡ get_or m.pattern.row_idx l 0) ×
          (column_of m.pattern k ≡ column_of m.pattern l)
      same (inl (r, d)) (inl (q, e)) = (r ∙ sym q, d ∙ sym e)
      same (inr (r, d)) (inr (q, e)) = (r ∙ sym q, d ∙ sym e)
      same (inl (r, d)) (inr (q, e)) = (omega (arith, lower k h, lower l g), omega (arith, lower k h, lower l g))
      same (inr (r, d)) (inl (q, e)) = (omega (arith, lower k h, lower l g), omega (arith, lower k h, lower l g))

  module _ (c : Claim) (C : Certified (graph_by m.pattern.n (mirrored_columns m) logs) c) where
    abbrev set : Exponents
    set = set_of (duals c.u c.v (graph_largest (mirrored_columns m) logs m.pattern.n))

    module _ (k : ℕ) (K : KeptEntry m k) where
      abbrev row : ℕ
      row = row_of m.pattern k

      abbrev column : ℕ
      column = column_of m.pattern k

      own : (e : ℕ) × Made_of e column k
      own = placed column k (stands m triangle k K.stored).column K (inr refl)

      mirror : (e : ℕ) × Made_of e row k
      mirror = placed row k (triangle.columns.inside k K.stored) K (inl refl)

      own_shift : shift_of set (other_end m column k) column ≡ shift_at m.pattern set k
      own_shift = ap (λ (i : ℕ). shift_of set i column) (from_column m k)

      mirror_shift : shift_of set (other_end m row k) row ≡ shift_at m.pattern (swapped set) k
      mirror_shift =
          ap (λ (i : ℕ). shift_of set i row) (from_row m k)
          ∙ +ℤ_comm (exponent_at set.rows (column_of m.pattern k)) (exponent_at set.columns row)

      own_below : Scaled BelowTwo (magnitude (get_or m.values k nan)) (shift_at m.pattern set k)
      own_below = subst (Scaled BelowTwo (magnitude (get_or m.values k nan))) own_shift
          (made_below m.pattern.n (mirrored_columns m) m.values logs symmetric_columns_lem c C own.1)

      mirror_below : Scaled BelowTwo (magnitude (get_or m.values k nan)) (shift_at m.pattern (swapped set) k)
      mirror_below = subst (Scaled BelowTwo (magnitude (get_or m.values k nan))) mirror_shift
          (made_below m.pattern.n (mirrored_columns m) m.values logs symmetric_columns_lem c C mirror.1)

      own_above : IsMatched m c.perm k → Scaled AboveQuarter (magnitude (get_or m.values k nan)) (shift_at m.pattern set k)
      own_above q =
          subst (Scaled AboveQuarter (magnitude (get_or m.values k nan))) own_shift
          (made_above m.pattern.n (mirrored_columns m) m.values logs symmetric_columns_lem c C own.1
          (q ∙ sym (from_column m k)))

      mirror_above : IsMirrorMatched m c.perm k → Scaled AboveQuarter (magnitude (get_or m.values k nan)) (shift_at m.pattern (swapped set) k)
      mirror_above q =
          subst (Scaled AboveQuarter (magnitude (get_or m.values k nan))) mirror_shift
          (made_above m.pattern.n (mirrored_columns m) m.values logs symmetric_columns_lem c C mirror.1
          (q ∙ sym (from_row m k)))

    entries : Within m (IsMatched m c.perm) set
    entries = record {
      below = λ k h. below_if_kept (get_or m.values k nan) (shift_at m.pattern set k) (value_double k h) (value_finite k h)
          (λ e. own_below k (record { stored = h; nonzero = e }));
      above = own_above;
    }

    mirrors : Within m (IsMirrorMatched m c.perm) (swapped set)
    mirrors = record {
      below = λ k h. below_if_kept (get_or m.values k nan) (shift_at m.pattern (swapped set) k) (value_double k h) (value_finite k h)
          (λ e. mirror_below k (record { stored = h; nonzero = e }));
      above = mirror_above;
    }

    abbrev Pair : ℕ → ℕ → Type 0
    Pair j k = ((column_of m.pattern k ≡ j) × IsMatched m c.perm k) ⊎ ((get_or m.pattern.row_idx k 0 ≡ j) × IsMirrorMatched m c.perm k)

    -- the pair of a column is an entry or a mirror
    pair_entry_lem : (j : ℕ) → j < m.pattern.n → (k : ℕ) × KeptEntry m k × Pair j k
    pair_entry_lem j h =
        let (e, k, E, q) = pair_made m.pattern.n (mirrored_columns m) m.values logs symmetric_columns_lem c C j h in
        let K = subst (KeptEntry m) E.place (place_kept j E.number E.stands) in
        (k, K, which k K (subst (Takes m j) E.place (taken m j (length m.pattern.row_idx) E.number E.stands).1) q)
      where
        which : (k : ℕ) → KeptEntry m k → Takes m j k → row_for c j ≡ other_end m j k → Pair j k
        which k K (inl e) q = inr (e, ap (row_for c) e ∙ q ∙ ap (λ (x : ℕ). other_end m x k) (sym e) ∙ from_row m k)
        which k K (inr e) q = inl (e, ap (row_for c) e ∙ q ∙ ap (λ (x : ℕ). other_end m x k) (sym e) ∙ from_column m k)

    pub symmetric_set : SymmetricBounded m c.perm set
    symmetric_set = record { entries = entries; mirrors = mirrors; pairs = pair_entry_lem }

    -- ---- the logarithms
    abbrev Value : ℕ → Float
    Value k = get_or m.values k nan

    abbrev AtMost : ℕ → ℕ → ℕ → Type 0
    AtMost k i j = LogAtMost (Value k) (row_potential c i) (column_potential (mirrored_columns m) logs c j)

    abbrev Tight : ℕ → ℕ → ℕ → Type 0
    Tight k i j = LogTight (Value k) (row_potential c i) (column_potential (mirrored_columns m) logs c j)

    -- what is so at an end of place k as the graph has it, is so at the row and column of it
    module _ (k : ℕ) (K : KeptEntry m k) (P : ℕ → ℕ → Type 0) {i j : ℕ} where
      moved_own : (get_or m.pattern.row_idx k 0 ≡ i) → (column_of m.pattern k ≡ j) → P (other_end m (column_of m.pattern k) k) (column_of m.pattern k)
          → P i j
      moved_own r d p = subst (λ (x : ℕ). P x j) (from_column m k ∙ r) (subst (P (other_end m (column_of m.pattern k) k)) d p)

      moved_mirror : (get_or m.pattern.row_idx k 0 ≡ j) → (column_of m.pattern k ≡ i) → P (other_end m (row_of m.pattern k) k) (row_of m.pattern k)
          → P i j
      moved_mirror r d p = subst (λ (x : ℕ). P x j) (from_row m k ∙ d) (subst (P (other_end m (row_of m.pattern k) k)) r p)

    at_most : (i j k : ℕ) → KeptEntry m k → EitherAt m k i j → AtMost k i j
    at_most i j k K (inl (r, d)) = moved_own k K (AtMost k) r d
        (made_at_most m.pattern.n (mirrored_columns m) m.values logs symmetric_columns_lem c C (own k K).1)
    at_most i j k K (inr (r, d)) = moved_mirror k K (AtMost k) r d
        (made_at_most m.pattern.n (mirrored_columns m) m.values logs symmetric_columns_lem c C (mirror k K).1)

    tight : (j k : ℕ) → KeptEntry m k → EitherAt m k (row_for c j) j → Tight k (row_for c j) j
    tight j k K (inl (r, d)) =
        moved_own k K (Tight k) r d
        (made_tight m.pattern.n (mirrored_columns m) m.values logs symmetric_columns_lem c C (own k K).1
        (ap (row_for c) d ∙ sym r ∙ sym (from_column m k)))
    tight j k K (inr (r, d)) =
        moved_mirror k K (Tight k) r d
        (made_tight m.pattern.n (mirrored_columns m) m.values logs symmetric_columns_lem c C (mirror k K).1
        (ap (row_for c) r ∙ sym d ∙ sym (from_row m k)))

    pair_at_lem : (j k : ℕ) → Pair j k → EitherAt m k (row_for c j) j
    pair_at_lem j k (inl (d, q)) = inl (sym q ∙ ap (row_for c) d, d)
    pair_at_lem j k (inr (r, q)) = inr (r, sym q ∙ ap (row_for c) r)

    pub symmetric_logs : LogPotentials m (EitherAt m) c.perm
    symmetric_logs = record {
      row = row_potential c;
      column = column_potential (mirrored_columns m) logs c;
      inside = pair_inside m.pattern.n (mirrored_columns m) m.values logs symmetric_columns_lem c C;
      once = pair_once m.pattern.n (mirrored_columns m) m.values logs symmetric_columns_lem c C;
      alone = symmetric_alone;
      some = λ k h p. record { stored = h; nonzero = some_kept (Value k) (value_double k h) (value_finite k h) p };
      below = at_most;
      pair = λ j h. let (k, K, p) = pair_entry_lem j h in (k, K, pair_at_lem j k p);
      tight = tight;
    }
