-- A certified match of the graph of any columns whose values have whole-number logarithms, whoever made it: its exponents, where the call makes them,
-- bring every entry below 2 and
-- every matched one above 1/4 (`made_below`, `made_above`). The duals of an entry add up to at most the largest log of its column minus its own, equal
-- where it is matched; floors lose
-- less than 1 each. And the exponents of our own match are always made (`ours_accepted`), since its duals are at most 2 ^ 41.
use mathlib.Core.Path.{◌≡◌, refl, sym, ap, ap₂, ◌∙◌, subst}
use mathlib.Core.Bool.{Bool, true}
use mathlib.Core.List.{List, [], ◌∷◌}
use mathlib.Core.Logic.{◌⊎◌}
use Prim.Native.Nat.{ℕ, zero, suc, ◌+◌, ◌-◌, ◌*◌, ◌^◌, ◌≤◌, ◌<◌}
use native.Mathlib.Nat.{le_of_eq, le_trans, lt_of_le_of_lt}
use native.Mathlib.Omega.{arith}
use borrow.Author.Tests.{eq-eqb}
use lib.Dec.{T}
use lib.IntN.{ℤ, nat_abs, neg_ℤ, ◌+ℤ◌}
use lib.Signed.{◌≤ℤ◌}
use lib.Ieee.{Float, nan, binary64, sub}
use lib.Ieee.Fits.{eq→eqb}
use lib.ListN.{length, get_or, length-map}
use Rattle.refusal.specs.Refusal.{accepted, exponent_range}
use Rattle.slices.specs.Outcome.{outcome_is, refusing, as_number}
use Rattle.float64.specs.Number.{Whole, whole_of, magnitude}
use Rattle.float64.proofs.Integers.{plus, minus, sum_parts, neg_parts}
use Rattle.float64.proofs.WholeNumbers.{whole_of_lem}
use Rattle.sparse.specs.Columns.{Columns}
use Rattle.sparse.specs.Matrix.{Matrix}
use Rattle.sparse.specs.Fault.{unless}
use Rattle.sparse.proofs.Accepted.{sizes_accepted}
use Rattle.sparse.proofs.First.{or-none, all_zero}
use Rattle.sparse.specs.Pattern.{column_of, row_of}
use Rattle.matching.specs.Pairing.{paired_entries}
use Rattle.hungarian.specs.Graph.{CostGraph, cost_of}
use Rattle.hungarian.specs.Accepted.{Accepted}
use Rattle.hungarian.specs.Match.{Matching, hungarian_match}
use Rattle.hungarian.specs.Optimal.{WholeCosts, DualsWithin, amount}
use Rattle.sparse.proofs.Columns.{in_entries, column-is}
use Rattle.hungarian.proofs.Theorems.{match_below}
use Rattle.match_check.specs.Check.{Claim, claim, row_for, row_dual, column_dual}
use Rattle.match_check.specs.Call.{Certified, pairs}
use Rattle.match_check.proofs.Pairing.{entry_at}
use Rattle.match_check.proofs.Ours.{ours_certified}
use Rattle.match_check.proofs.Wholes.{whole_self}
use Rattle.mc64_columns.specs.Graphs.{GraphColumns, joined, logs_of, graph_pointers, graph_rows, graph_largest}
use Rattle.mc64_columns.proofs.Graphs.{ones_length, joined_at}
use Rattle.mc64_columns.proofs.Entries.{graph_by, top_of, MadeOf, made as made_of}
use Rattle.mc64_columns.proofs.Kept.{map_at}
use Rattle.exponents_powers.specs.Power.{Exponents, exponents}
use Rattle.exponents.specs.Exponent.{floor_of, factor_fits}
use Rattle.exponents.specs.Call.{Duals, duals, differences, lengths_fit, factors_fault, exponents_fault, make_exponents, set_of}
use Rattle.exponents.proofs.Calling.{differences_length, difference_at}
use Rattle.exponents_apply.specs.Apply.{exponent_at}
use Rattle.exponents_bounds.specs.Bounds.{KeptEntry, entry_magnitude, BelowTwo, AboveQuarter, Scaled}
use Rattle.exponents_bounds.proofs.Numbers.{Logged, ValueLog, largest_logged, parts_within, size_apart, difference_whole, small_fits, exponent_is}
use Rattle.exponents_bounds.proofs.Numbers.{LogAtMost, LogTight, log_at_most, log_tight, scaled_below, scaled_above}

-- what a kind of matrix supplies: at most 4,096 columns, whose rows rise; the log at each place is that of the value there; the top of a column that
-- is not empty is its largest log
pub record LoggedColumns (n : ℕ) (g : GraphColumns) (values logs : List Float) : Type 0 where
  pub few : n ≤ 4096
  pub rising : Columns n (graph_pointers g n) (graph_rows g n)
  pub logged : (c i : ℕ) → c < n → i < length (g.places c) → let k = get_or (g.places c) i 0 in ValueLog (get_or values k nan) (get_or logs k nan)
  pub tops : (c : ℕ) → c < n → 0 < length (g.places c) → g.top (logs_of g logs c) ≡ top_of g logs c

-- ---- what a kind gives for the product
-- stored entry k is at row i and column j
abbrev pub EntryAt : Matrix → ℕ → ℕ → ℕ → Type 0
EntryAt m k i j = (get_or m.pattern.row_idx k 0 ≡ i) × (column_of m.pattern k ≡ j)

-- it, or its mirror, is
abbrev pub EitherAt : Matrix → ℕ → ℕ → ℕ → Type 0
EitherAt m k i j = EntryAt m k i j ⊎ EntryAt m k j i

-- no two entries are in one place
abbrev pub Alone : Matrix → (ℕ → ℕ → ℕ → Type 0) → Type 0
Alone m At = (i j k l : ℕ) → k < length m.pattern.row_idx → l < length m.pattern.row_idx → At k i j → At l i j → k ≡ l

-- no row is taken twice; no two entries are in one place; and potentials of rows and columns make at most 0 with the logarithm of every kept entry, and 0 with
-- that of each column's pair
pub record LogPotentials (m : Matrix) (At : ℕ → ℕ → ℕ → Type 0) (perm : List ℕ) : Type 0 where
  pub row : ℕ → ℤ
  pub column : ℕ → ℤ
  pub inside : (j : ℕ) → j < m.pattern.n → get_or perm j 0 < m.pattern.n
  pub once : (i j : ℕ) → i < m.pattern.n → j < m.pattern.n → get_or perm i 0 ≡ get_or perm j 0 → i ≡ j
  pub alone : Alone m At
  pub some : (k : ℕ) → k < length m.pattern.row_idx → 0 < entry_magnitude m k → KeptEntry m k
  pub below : (i j k : ℕ) → KeptEntry m k → At k i j → LogAtMost (get_or m.values k nan) (row i) (column j)
  pub pair : (j : ℕ) → j < m.pattern.n → (k : ℕ) × KeptEntry m k × At k (get_or perm j 0) j
  pub tight : (j k : ℕ) → KeptEntry m k → At k (get_or perm j 0) j → LogTight (get_or m.values k nan) (row (get_or perm j 0)) (column j)

-- the exponents of row i and column j, added
abbrev pub shift_of : Exponents → ℕ → ℕ → ℤ
shift_of e i j = exponent_at e.rows i +ℤ exponent_at e.columns j

-- the potential of a row is its dual, that of a column its dual less its largest log
abbrev pub row_potential : Claim → ℕ → ℤ
row_potential s i = whole_of (row_dual s i)

abbrev pub column_potential : GraphColumns → List Float → Claim → ℕ → ℤ
column_potential g logs s j = whole_of (column_dual s j) +ℤ neg_ℤ (whole_of (top_of g logs j))

-- what `exponents` leaves where it accepts
pub made_set : (n : ℕ) (d : Duals) (rows columns : List ℤ) → let E = make_exponents n d rows columns in E.answer ≡ accepted → E.after ≡ set_of d
unfolding make_exponents
made_set n d rows columns = go (exponents_fault n d (length rows) (length columns))
  where
    go : (f : ℕ) → let E = refusing as_number f (outcome_is accepted (set_of d)) (exponents rows columns) in E.answer ≡ accepted → E.after ≡ set_of d
    go zero e = refl
    go (suc f) e = let z : ⊥ = omega (arith, e) in absurd z

module _ (n : ℕ) (g : GraphColumns) (values logs : List Float) (L : LoggedColumns n g values logs) where
  abbrev graph : CostGraph
  graph = graph_by n g logs

  abbrev top : ℕ → Float
  top c = top_of g logs c

  abbrev Made_of : ℕ → ℕ → ℕ → Type 0
  Made_of e c p = MadeOf n g logs L.rising e c p

  -- ---- logs
  top_logged : (c : ℕ) → c < n → 0 < length (g.places c) → Logged (top c)
  top_logged c h some = largest_logged (logs_of g logs c) (rw length-map some) each
    where
      each : (i : ℕ) → i < length (logs_of g logs c) → Logged (get_or (logs_of g logs c) i nan)
      each i l =
          let u : i < length (g.places c) = rw length-map at l in
          rw (map_at (λ (k : ℕ). get_or logs k nan) (g.places c) i nan u) (L.logged c i h u).logged

  abbrev largests : List Float
  largests = graph_largest g logs n

  -- the largest log stands in its place
  largest_at : (c : ℕ) → c < n → 0 < length (g.places c) → get_or largests c nan ≡ top c
  largest_at c h some =
      let f : ℕ → Float = λ i. g.top (logs_of g logs i) in
      let e : c + suc (n - suc c) ≡ n = omega arith in
      let q : length (joined (λ i. f i ∷ []) c) + 0 ≡ c = omega (arith, ones_length f c) in
      subst (λ (x : ℕ). get_or largests x nan ≡ f c) q
      (subst (λ (x : ℕ). get_or (graph_largest g logs x) (length (joined (λ i. f i ∷ []) c) + 0) nan ≡ f c) e
      (joined_at (λ i. f i ∷ []) nan c (n - suc c) 0 (omega arith)))
      ∙ L.tops c h some

  largests_length : length largests ≡ n
  largests_length = ones_length (λ i. g.top (logs_of g logs i)) n

  -- ---- costs
  module _ {e c p : ℕ} (E : Made_of e c p) where
    some : 0 < length (g.places c)
    some = omega (arith, E.stands)

    top_log : Logged (top c)
    top_log = top_logged c E.inside some

    own_log : ValueLog (get_or values p nan) (get_or logs p nan)
    own_log = subst (λ (k : ℕ). ValueLog (get_or values k nan) (get_or logs k nan)) E.place (L.logged c E.number E.inside E.stands)

    cost_is : whole_of (cost_of graph e) ≡ whole_of (top c) +ℤ neg_ℤ (whole_of (get_or logs p nan))
    cost_is =
        let t = top_log in
        let l = own_log.logged in
        ap whole_of E.cost
        ∙ whole_of_lem (sub binary64 (top c) (get_or logs p nan)) _
        (difference_whole (top c) (get_or logs p nan) (whole_of (top c)) (whole_of (get_or logs p nan)) t.whole l.whole
        (omega (arith, t.up), omega (arith, t.down)) (omega (arith, l.up), omega (arith, l.down)))

    cost_small : amount graph e < 2 ^ 28
    unfolding amount
    cost_small =
        let t = whole_of (top c) in
        let l = whole_of (get_or logs p nan) in
        let b : nat_abs (t +ℤ neg_ℤ l) ≤ 137494527 =
        size_apart (t +ℤ neg_ℤ l) (minus t + plus l) (plus t + minus l) 137494527 (omega (arith, sum_parts t (neg_ℤ l), neg_parts l))
        (omega (arith, top_log.down, own_log.logged.up)) (omega (arith, top_log.up, own_log.logged.down)) in
        lt_of_le_of_lt (le_trans (le_of_eq (ap nat_abs cost_is)) b) (omega arith)

  -- ---- a certified match
  module _ (s : Claim) (C : Certified graph s) where
    -- the pair of a column is an entry
    pub pair_made : (j : ℕ) → j < n → (e : ℕ) × (p : ℕ) × Made_of e j p × (row_for s j ≡ g.row j p)
    pair_made j h =
        let (e, w, q) = entry_at graph.pattern s.perm L.rising C.complete j h in
        let (p, E) = made_of n g logs L.rising e (in_entries graph.pattern L.rising j e w) in
        let F : Made_of e j p = subst (λ (c : ℕ). Made_of e c p) (column-is graph.pattern L.rising j e w) E in
        (e, p, F, sym q ∙ F.row)

    -- an entry in the row of its column's pair is that pair
    is_pair : {e c p : ℕ} → Made_of e c p → row_for s c ≡ g.row c p → T (pairs graph.pattern s e)
    unfolding paired_entries
    is_pair E q = eq→eqb (ap (row_for s) E.column ∙ q ∙ sym E.row)

    pub pair_inside : (j : ℕ) → j < n → row_for s j < n
    pair_inside j h = let (e, p, E, q) = pair_made j h in omega (arith, L.rising.inside e E.within, E.row, q)

    pub pair_once : (i j : ℕ) → i < n → j < n → row_for s i ≡ row_for s j → i ≡ j
    pair_once i j h l r =
        let (d, o, D, p) = pair_made i h in
        let (e, k, E, q) = pair_made j l in
        let same : d ≡ e = C.complete.matching.rows d e D.within E.within (is_pair D p) (is_pair E q) (D.row ∙ sym p ∙ r ∙ q ∙ sym E.row) in
        sym D.column ∙ ap (column_of graph.pattern) same ∙ E.column

    some_place : (c : ℕ) → c < n → 0 < length (g.places c)
    some_place c h = some (pair_made c h).2

    column_top : (c : ℕ) → c < n → Logged (top c)
    column_top c h = top_logged c h (some_place c h)

    column_whole : (j : ℕ) → j < n → Whole (column_dual s j) (whole_of (column_dual s j))
    column_whole j h = whole_self (column_dual s j) (C.columns j h).is_whole

    -- ---- the factors
    same_length_lem : length largests ≡ length s.v
    same_length_lem = largests_length ∙ sym C.column_duals

    factor_at_lem : (j : ℕ) → j < n → get_or (differences s.v largests) j nan ≡ sub binary64 (column_dual s j) (top j)
    factor_at_lem j h =
        difference_at s.v largests same_length_lem j (omega (arith, C.column_duals))
        ∙ ap (sub binary64 (column_dual s j)) (largest_at j h (some_place j h))

    factor_whole : (j : ℕ) → j < n → Whole (sub binary64 (column_dual s j) (top j)) (whole_of (column_dual s j) +ℤ neg_ℤ (whole_of (top j)))
    factor_whole j h =
        let t = column_top j h in
        let b = parts_within (whole_of (column_dual s j)) (2 ^ 50) (C.columns j h).size in
        difference_whole (column_dual s j) (top j) (whole_of (column_dual s j)) (whole_of (top j)) (column_whole j h) t.whole
        (omega (arith, b.0), omega (arith, b.1)) (omega (arith, t.up), omega (arith, t.down))

    abbrev own : Duals
    own = duals s.u s.v largests

    -- ---- one entry
    module _ {e c p : ℕ} (E : Made_of e c p) where
      abbrev row : ℕ
      row = g.row c p

      shift_is : shift_of (set_of own) row c ≡ floor_of (whole_of (row_dual s row)) +ℤ floor_of (whole_of (column_dual s c) +ℤ neg_ℤ (whole_of (top c)))
      shift_is =
          ap₂ (λ (a b : ℤ). a +ℤ b) (exponent_is s.u row)
          (exponent_is (differences s.v largests) c ∙ ap (λ (x : Float). floor_of (whole_of x)) (factor_at_lem c E.inside)
          ∙ ap floor_of (whole_of_lem _ _ (factor_whole c E.inside)))

      sum_is : whole_of (row_dual s (row_of graph.pattern e)) +ℤ whole_of (column_dual s (column_of graph.pattern e)) ≡ whole_of (row_dual s row) +ℤ whole_of
          (column_dual s c)
      sum_is = ap₂ (λ (i j : ℕ). whole_of (row_dual s i) +ℤ whole_of (column_dual s j)) E.row E.column

      duals_below : (whole_of (row_dual s row) +ℤ whole_of (column_dual s c)) ≤ℤ (whole_of (top c) +ℤ neg_ℤ (whole_of (get_or logs p nan)))
      duals_below =
          subst (λ (z : ℤ). (whole_of (row_dual s row) +ℤ whole_of (column_dual s c)) ≤ℤ z) (cost_is E)
          (subst (λ (z : ℤ). z ≤ℤ whole_of (cost_of graph e)) sum_is (C.feasible e E.within))

      duals_equal : row_for s c ≡ row → whole_of (row_dual s row) +ℤ whole_of (column_dual s c) ≡ whole_of (top c) +ℤ neg_ℤ (whole_of (get_or logs p nan))
      duals_equal q = sym sum_is ∙ C.tight e E.within (is_pair E q) ∙ cost_is E

      pub made_below : Scaled BelowTwo (magnitude (get_or values p nan)) (shift_of (set_of own) row c)
      made_below =
          subst (Scaled BelowTwo (magnitude (get_or values p nan))) (sym shift_is)
          (scaled_below (get_or values p nan) (whole_of (get_or logs p nan)) (own_log E).logarithm
          (whole_of (row_dual s row)) (whole_of (column_dual s c)) (whole_of (top c)) duals_below)

      pub made_above : row_for s c ≡ row → Scaled AboveQuarter (magnitude (get_or values p nan)) (shift_of (set_of own) row c)
      made_above q =
          subst (Scaled AboveQuarter (magnitude (get_or values p nan))) (sym shift_is)
          (scaled_above (get_or values p nan) (whole_of (get_or logs p nan)) (own_log E).logarithm
          (whole_of (row_dual s row)) (whole_of (column_dual s c)) (whole_of (top c)) (duals_equal q))

      pub made_at_most : LogAtMost (get_or values p nan) (row_potential s row) (column_potential g logs s c)
      made_at_most =
          log_at_most (get_or values p nan) (whole_of (get_or logs p nan)) (own_log E).logarithm (whole_of (row_dual s row)) (whole_of (column_dual s c))
          (whole_of (top c)) duals_below

      pub made_tight : row_for s c ≡ row → LogTight (get_or values p nan) (row_potential s row) (column_potential g logs s c)
      made_tight q =
          log_tight (get_or values p nan) (whole_of (get_or logs p nan)) (own_log E).logarithm (whole_of (row_dual s row)) (whole_of (column_dual s c))
          (whole_of (top c)) (duals_equal q)

  -- ---- our own match
  module _ (a : Accepted graph) (w : WholeCosts graph) (full : (hungarian_match graph).matched ≡ n) where
    abbrev ours : Matching
    ours = hungarian_match graph

    abbrev mine : Claim
    mine = claim ours.perm ours.u ours.v

    certified : Certified graph mine
    certified = ours_certified graph mine (record { graph = a; costs = w; left = refl; full = full })

    small : DualsWithin (2 * (n * 2 ^ 28)) graph ours
    small = match_below (2 ^ 28) graph a w (λ e h. cost_small (made_of n g logs L.rising e h).1)

    limit : 2 * (n * 2 ^ 28) ≤ 2199023255552
    limit = omega (arith, L.few)

    row_fits : (i : ℕ) → i < n → factor_fits (row_dual mine i) ≡ true
    row_fits i h =
        let b = parts_within (whole_of (row_dual mine i)) 2199023255552 (le_trans (small.rows i h) limit) in
        small_fits (row_dual mine i) (whole_of (row_dual mine i)) (whole_self (row_dual mine i) (certified.rows i h).is_whole) (omega (arith, b.0))
        (omega (arith, b.1))

    column_fits : (j : ℕ) → j < n → factor_fits (get_or (differences ours.v largests) j nan) ≡ true
    column_fits j h =
        let t = column_top mine certified j h in
        let v = whole_of (column_dual mine j) in
        let b = parts_within v 2199023255552 (le_trans (small.columns j h) limit) in
        let z = v +ℤ neg_ℤ (whole_of (top j)) in
        let d = parts_within z 4398046511104
        (size_apart z (minus v + plus (whole_of (top j))) (plus v + minus (whole_of (top j))) 4398046511104
        (omega (arith, sum_parts v (neg_ℤ (whole_of (top j))), neg_parts (whole_of (top j)))) (omega (arith, b.1, t.up)) (omega (arith, b.0, t.down))) in
        ap factor_fits (factor_at_lem mine certified j h) ∙ small_fits (sub binary64 (column_dual mine j) (top j)) z (factor_whole mine certified j h) d.0 d.1

    abbrev dual_lists : Duals
    dual_lists = duals ours.u ours.v largests

    lengths : (rows columns : ℕ) → rows ≡ n → columns ≡ n → lengths_fit n dual_lists rows columns ≡ true
    unfolding lengths_fit
    lengths rows columns r c =
        rw (
          eq-eqb (length ours.u) n certified.row_duals,
          eq-eqb (length ours.v) n certified.column_duals,
          eq-eqb (length largests) n largests_length,
          eq-eqb rows n r,
          eq-eqb columns n c,
        ) refl

    no_fault : (rows columns : ℕ) → rows ≡ n → columns ≡ n → exponents_fault n dual_lists rows columns ≡ 0
    unfolding exponents_fault factors_fault
    no_fault rows columns r c =
        or-none ((sizes_accepted n 0 0 (lengths_fit n dual_lists rows columns)).1 (L.few, omega arith, lengths rows columns r c))
        ∙ or-none ((all_zero (λ i. unless (factor_fits (get_or ours.u i nan)) exponent_range) (length ours.u)).1
        (λ i h. ap (λ (b : Bool). unless b exponent_range) (row_fits i (omega (arith, h, certified.row_duals)))))
        ∙ (all_zero (λ j. unless (factor_fits (get_or (differences ours.v largests) j nan)) exponent_range) (length (differences ours.v largests))).1
        (λ j h. ap (λ (b : Bool). unless b exponent_range)
        (column_fits j (omega (arith, h, differences_length ours.v largests (same_length_lem mine certified), certified.column_duals))))

    -- the call accepts it
    pub ours_accepted : (rows columns : List ℤ) → length rows ≡ n → length columns ≡ n → (make_exponents n dual_lists rows columns).answer ≡ accepted
    unfolding make_exponents
    ours_accepted rows columns r c = ap (λ (f : ℕ). (refusing as_number f (outcome_is accepted (set_of dual_lists)) (exponents rows columns)).answer)
        (no_fault (length rows) (length columns) r c)
