-- A general matrix whose graph of whole-number logarithms was accepted: its columns are logged ones, each kept place has an entry, so that
-- a certified match bounds the matrix (`general_set`), and its duals are potentials of the values' logarithms (`general_logs`).
use mathlib.Core.Path.{◌≡◌, sym, ap, ◌∙◌, subst}
use mathlib.Core.Bool.{Bool, true}
use mathlib.Core.List.{List, [], ◌∷◌, ◌++◌}
use Prim.Native.Nat.{ℕ, zero, suc, ◌+◌, ◌-◌, ◌≤◌, ◌<◌}
use native.Mathlib.Decide.{ℕ_discrete}
use native.Mathlib.Omega.{arith}
use lib.Dec.{T}
use lib.Ieee.{Float, nan, binary64, fits}
use lib.Ieee.Scale.{finite}
use lib.ListN.{length, get_or, length-append, length-map, get_or-append}
use Rattle.slices.specs.Lists.{keep}
use Rattle.slices.proofs.Lists.{get_d_last}
use Rattle.sparse.specs.Columns.{Columns}
use Rattle.sparse.specs.Matrix.{Matrix}
use Rattle.sparse.proofs.Accepted.{general_accepted}
use Rattle.sparse.specs.Pattern.{column_of, InColumn}
use Rattle.sparse.proofs.Columns.{in_column_lem, column-is, simple}
use Rattle.match_check.specs.Check.{Claim, row_for}
use Rattle.match_check.specs.Call.{Certified}
use Rattle.mc64_columns.specs.Columns.{value_logs}
use Rattle.mc64_columns.specs.Graphs.{Slices, logs_of, kept_before, graph_pointers, graph_rows, graph_largest}
use Rattle.mc64_columns.proofs.Entries.{graph_by, MadeOf, made_at}
use Rattle.mc64_columns.proofs.Whole.{value_log_at}
use Rattle.mc64_general.specs.Graph.{is_kept, kept_places, places_of, kept_columns}
use Rattle.mc64_general.proofs.Theorems.{place_in, graph_rises}
use Rattle.whole_graphs.specs.Graphs.{whole_general_fault}
use Rattle.whole_graphs.proofs.Theorems.{Doubles, all_finite, tests, general_ready}
use Rattle.exponents_powers.specs.Power.{Exponents}
use Rattle.exponents.specs.Call.{duals, set_of}
use Rattle.exponents_apply.specs.Apply.{shift_at}
use Rattle.exponents_bounds.specs.Bounds.{KeptEntry, IsMatched, Within, Bounded}
use Rattle.exponents_bounds.proofs.Numbers.{ValueLog, LogAtMost, LogTight, kept_log, below_if_kept, some_kept, largest_of_some}
use Rattle.exponents_bounds.proofs.AnyColumns.{LoggedColumns, EntryAt, Alone, LogPotentials, row_potential, column_potential}
use Rattle.exponents_bounds.proofs.AnyColumns.{pair_made, pair_inside, pair_once, made_below, made_above, made_at_most, made_tight}

-- ---- a kept place has a number in its column
module _ (values : List Float) (from k : ℕ) (K : is_kept (get_or values k nan) ≡ true) (low : from ≤ k) where
  number_of : (count : ℕ) → k < from + count → (i : ℕ) × (i < length (kept_places values from count)) × (get_or (kept_places values from count) i 0 ≡ k)
  unfolding kept_places
  number_of zero h = let z : ⊥ = omega arith in absurd z
  number_of (suc count) h = go (ℕ_discrete k (from + count)) (number_of count)
    where
      go : Dec (k ≡ from + count) → (k < from + count → (i : ℕ) × (i < length (kept_places values from count)) × (get_or (kept_places values from count) i 0 ≡ k))
          → (i : ℕ) × (i < length (kept_places values from count ++ keep (is_kept (get_or values (from + count) nan)) (from + count)))
          × (get_or (kept_places values from count ++ keep (is_kept (get_or values (from + count) nan)) (from + count)) i 0 ≡ k)
      go (yes e) f =
          let l = kept_places values from count in
          let t : is_kept (get_or values (from + count) nan) ≡ true = subst (λ (x : ℕ). is_kept (get_or values x nan) ≡ true) e K in
          subst (λ (b : Bool). (i : ℕ) × (i < length (l ++ keep b (from + count))) × (get_or (l ++ keep b (from + count)) i 0 ≡ k)) (sym t)
          (length l, omega (arith, length-append l ((from + count) ∷ [])), get_d_last l (from + count) 0 ∙ sym e)
      go (no e) f =
          let l = kept_places values from count in
          let r = keep (is_kept (get_or values (from + count) nan)) (from + count) in
          let (i, b, q) = f (omega arith) in
          (i, omega (arith, length-append l r), get_or-append l r 0 i b ∙ q)

module _ (m : Matrix) (s : Slices) (fine : whole_general_fault m s ≡ 0) (doubles : Doubles m.values) where
  abbrev logs : List Float
  logs = value_logs m.values

  stored_values : length m.values ≡ length m.pattern.row_idx
  stored_values = (general_ready m s fine doubles).0.sizes.stored

  columns : Columns m.pattern.n m.pattern.col_ptr m.pattern.row_idx
  columns = ((general_accepted m).0 (tests m s fine doubles).1.0).1

  value_double : (k : ℕ) → k < length m.pattern.row_idx → T (fits binary64 (get_or m.values k nan))
  value_double k h = doubles k (omega (arith, stored_values))

  value_finite : (k : ℕ) → k < length m.pattern.row_idx → finite (get_or m.values k nan) ≡ true
  value_finite k h = all_finite m.values (tests m s fine doubles).1.1 k (omega (arith, stored_values))

  rising : Columns m.pattern.n (graph_pointers (kept_columns m) m.pattern.n) (graph_rows (kept_columns m) m.pattern.n)
  rising = graph_rises m columns

  -- the places of a column are kept
  place_kept : (c i : ℕ) → c < m.pattern.n → i < length (places_of m c) → KeptEntry m (get_or (places_of m c) i 0)
  place_kept c i h l = let p = place_in m columns c i h l in record { stored = p.2; nonzero = p.3 }

  entry_log_lem : (k : ℕ) → KeptEntry m k → ValueLog (get_or m.values k nan) (get_or logs k nan)
  entry_log_lem k K = subst (λ (y : Float). ValueLog (get_or m.values k nan) y) (sym (value_log_at m.values k))
      (kept_log (get_or m.values k nan) (value_double k K.stored) K.nonzero)

  pub general_columns_lem : LoggedColumns m.pattern.n (kept_columns m) m.values logs
  general_columns_lem = record {
    few = (general_ready m s fine doubles).0.sizes.columns;
    rising = rising;
    logged = λ c i h l. entry_log_lem (get_or (places_of m c) i 0) (place_kept c i h l);
    tops = λ c h some. largest_of_some (logs_of (kept_columns m) logs c) (rw length-map some);
  }

  abbrev Made_of : ℕ → ℕ → ℕ → Type 0
  Made_of e c p = MadeOf m.pattern.n (kept_columns m) logs general_columns_lem.rising e c p

  -- each kept place has its entry in the graph
  placed : (k : ℕ) → KeptEntry m k → (e : ℕ) × Made_of e (column_of m.pattern k) k
  placed k K =
      let c = column_of m.pattern k in
      let w : InColumn m.pattern c k = in_column_lem m.pattern columns k K.stored in
      let from = get_or m.pattern.col_ptr c 0 in
      let (i, l, q) = number_of m.values from k K.nonzero w.above (get_or m.pattern.col_ptr (suc c) 0 - from) (omega (arith, w.above, w.below)) in
      (kept_before (kept_columns m) c + i, made_at m.pattern.n (kept_columns m) logs general_columns_lem.rising c i w.column l k q)

  pub general_alone : Alone m (EntryAt m)
  general_alone i j k l h g a b = simple m.pattern columns k l h g (a.0 ∙ sym b.0) (a.1 ∙ sym b.1)

  module _ (c : Claim) (C : Certified (graph_by m.pattern.n (kept_columns m) logs) c) where
    abbrev set : Exponents
    set = set_of (duals c.u c.v (graph_largest (kept_columns m) logs m.pattern.n))

    entries : Within m (IsMatched m c.perm) set
    entries = record {
      below = λ k h. below_if_kept (get_or m.values k nan) (shift_at m.pattern set k) (value_double k h) (value_finite k h)
          (λ e. made_below m.pattern.n (kept_columns m) m.values logs general_columns_lem c C (placed k (record { stored = h; nonzero = e })).1);
      above = λ k K q. made_above m.pattern.n (kept_columns m) m.values logs general_columns_lem c C (placed k K).1 q;
    }

    -- the pair of a column is an entry
    pair_entry_lem : (j : ℕ) → j < m.pattern.n → (k : ℕ) × KeptEntry m k × (column_of m.pattern k ≡ j) × IsMatched m c.perm k
    pair_entry_lem j h =
        let (e, k, E, q) = pair_made m.pattern.n (kept_columns m) m.values logs general_columns_lem c C j h in
        let p = place_in m columns j E.number h E.stands in
        let w : InColumn m.pattern j k =
        record {
          column = h;
          above = subst (λ (x : ℕ). get_or m.pattern.col_ptr j 0 ≤ x) E.place p.0;
          below =
              subst (λ (x : ℕ). x < get_or m.pattern.col_ptr (suc j) 0) E.place p.1;
        } in
        let d : column_of m.pattern k ≡ j = column-is m.pattern columns j k w in
        (k, subst (KeptEntry m) E.place (place_kept j E.number h E.stands), d, ap (row_for c) d ∙ q)

    pub general_set : Bounded m c.perm set
    general_set = record { entries = entries; pairs = pair_entry_lem }

    -- ---- the logarithms
    abbrev Value : ℕ → Float
    Value k = get_or m.values k nan

    abbrev column : ℕ → ℕ
    column k = column_of m.pattern k

    at_most : (i j k : ℕ) → KeptEntry m k → EntryAt m k i j → LogAtMost (Value k) (row_potential c i) (column_potential (kept_columns m) logs c j)
    at_most i j k K (r, d) =
        subst (λ (x : ℕ). LogAtMost (Value k) (row_potential c x) (column_potential (kept_columns m) logs c j)) r
        (subst (λ (x : ℕ). LogAtMost (Value k) (row_potential c (get_or m.pattern.row_idx k 0)) (column_potential (kept_columns m) logs c x)) d
        (made_at_most m.pattern.n (kept_columns m) m.values logs general_columns_lem c C (placed k K).1))

    tight : (j k : ℕ) → KeptEntry m k → EntryAt m k (row_for c j) j
        → LogTight (Value k) (row_potential c (row_for c j)) (column_potential (kept_columns m) logs c j)
    tight j k K (r, d) =
        subst (λ (x : ℕ). LogTight (Value k) (row_potential c x) (column_potential (kept_columns m) logs c j)) r
        (subst (λ (x : ℕ). LogTight (Value k) (row_potential c (get_or m.pattern.row_idx k 0)) (column_potential (kept_columns m) logs c x)) d
        (made_tight m.pattern.n (kept_columns m) m.values logs general_columns_lem c C (placed k K).1 (ap (row_for c) d ∙ sym r)))

    pub general_logs : LogPotentials m (EntryAt m) c.perm
    general_logs = record {
      row = row_potential c;
      column = column_potential (kept_columns m) logs c;
      inside = pair_inside m.pattern.n (kept_columns m) m.values logs general_columns_lem c C;
      once = pair_once m.pattern.n (kept_columns m) m.values logs general_columns_lem c C;
      alone = general_alone;
      some = λ k h p. record { stored = h; nonzero = some_kept (Value k) (value_double k h) (value_finite k h) p };
      below = at_most;
      pair = λ j h. let (k, K, d, q) = pair_entry_lem j h in (k, K, (sym q ∙ ap (row_for c) d, d));
      tight = tight;
    }
