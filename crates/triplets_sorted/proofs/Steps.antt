-- What the slices hold at the start, after one more triplet and after two runs. By Prefix and Values, where stores at the front of a list
-- are appended to it or replace its last element.
use mathlib.Core.Path.{◌≡◌, refl, sym, ap, ◌∙◌, subst}
use mathlib.Core.Bool.{true, false}
use mathlib.Core.List.{List, [], ◌∷◌, ◌++◌}
use Prim.Native.Nat.{ℕ, suc, ◌+◌, ◌-◌, ◌≤◌, ◌<◌}
use native.Mathlib.Nat.{le_refl}
use native.Mathlib.Numerals.{add-one}
use native.Mathlib.Decide.{ℕ_discrete}
use native.Mathlib.Omega.{arith}
use lib.Ieee.{Float, nan, binary64, add}
use lib.ListN.{length, get_or, set, drop, length-set}
use lib.Seq.{take-suc-set, take-set-lt, drop-set-lt, drop-drop, get_or-take, get_or-set_same, get_or-set_other, set_at, get_or_at}
use Rattle.limits.specs.Limits.{max_columns}
use Rattle.float64.specs.Constants as Constants
use Rattle.slices.proofs.Lists.{length_more}
use Rattle.triplets.specs.Built.{Triplets, filled, sum_at}
use Rattle.triplets_sorted.specs.inner.Steps.{column_to, rows_to, Ready, Sorted, Repeat, Taken, Rest}
use Rattle.triplets_sorted.proofs.Order.{none_later, none_above, fresh, repeated}
use Rattle.triplets_sorted.proofs.Prefix.{rows_none, empty_column, column_few, other, own_again, own_new, rows_again, rows_new}
use Rattle.triplets_sorted.proofs.Values.{values_none, values_as_rows, values_but_last, values_after, values_before_lem, values_new}

-- ---- one more triplet
module _ (t : Triplets) (ready : Ready t.rows t.cols) (sorted : Sorted t.rows t.cols) (k : ℕ) (h : k < length t.rows)
    {kept : ℕ} {col_ptr row_idx : List ℕ} {values : List Float} (p : Taken t k kept col_ptr row_idx values) where
  row_in : get_or t.rows k 0 < max_columns
  row_in = ready.rows_in k h

  col_in : get_or t.cols k 0 < max_columns
  col_in = ready.cols_in k (omega (arith, ready.pairs))

  later : (i j : ℕ) → get_or t.cols k 0 < j → filled t.rows t.cols i j k ≡ false
  later = none_later t.rows t.cols ready sorted k h

  above : (i : ℕ) → get_or t.rows k 0 < i → filled t.rows t.cols i (get_or t.cols k 0) k ≡ false
  above = none_above t.rows t.cols ready sorted k h

  -- a column's count is small
  pub count_small : (c : ℕ) → c < length col_ptr → get_or col_ptr c 0 ≤ max_columns
  count_small c l = rw (p.counts c l) (column_few t.rows t.cols k c max_columns)

  module _ (r : Repeat t.rows t.cols k) where
    there : filled t.rows t.cols (get_or t.rows k 0) (get_or t.cols k 0) k ≡ true
    there = repeated t.rows t.cols ready sorted k h r

    last_place : suc (length (values_but_last t k max_columns)) ≡ kept
    last_place =
        sym (p.count ∙ sym (values_as_rows t k max_columns max_columns)
        ∙ ap length (values_before_lem t k max_columns row_in col_in later above there)
        ∙ length_more (values_but_last t k max_columns) _)

    -- there is an entry
    pub some_kept : 0 < kept
    some_kept = omega (arith, last_place)

    last_value : get_or values (kept - 1) nan ≡ sum_at t (get_or t.rows k 0) (get_or t.cols k 0) k
    last_value =
        sym (get_or-take kept values (kept - 1) nan (omega (arith, some_kept)))
        ∙ ap (λ (l : List Float). get_or l (kept - 1) nan) (p.values_front ∙ values_before_lem t k max_columns row_in col_in later above there)
        ∙ get_or_at (values_but_last t k max_columns) _ [] nan (kept - 1) (omega (arith, last_place))

    pub taken_again : Taken t (k + 1) kept col_ptr row_idx
        (set values (kept - 1) (add binary64 (get_or values (kept - 1) nan) (get_or t.vals k nan)))
    taken_again =
        rw (add-one k)
        (record {
          few = omega (arith, p.few);
          count = p.count ∙ ap length (sym (rows_again t.rows t.cols k max_columns row_in col_in later above there));
          rows_front = p.rows_front ∙ sym (rows_again t.rows t.cols k max_columns row_in col_in later above there);
          values_front =
              take-set-lt kept values (kept - 1) _ (omega (arith, some_kept))
              ∙ ap (λ (l : List Float). set l (kept - 1) (add binary64 (get_or values (kept - 1) nan) (get_or t.vals k nan)))
              (p.values_front ∙ values_before_lem t k max_columns row_in col_in later above there)
              ∙ set_at (values_but_last t k max_columns) _ [] _ (kept - 1) (omega (arith, last_place))
              ∙ ap (λ (x : Float). values_but_last t k max_columns ++ (add binary64 x (get_or t.vals k nan) ∷ [])) last_value
              ∙ sym (values_after t k max_columns row_in col_in later above);
          counts = λ c l. p.counts c l ∙ ap length (sym (column c (ℕ_discrete (get_or t.cols k 0) c)));
        })
      where
        column : (c : ℕ) → Dec (get_or t.cols k 0 ≡ c)
            → column_to t.rows t.cols (suc k) c max_columns ≡ column_to t.rows t.cols k c max_columns
        column c (yes e) =
            subst (λ (x : ℕ). column_to t.rows t.cols (suc k) x max_columns ≡ column_to t.rows t.cols k x max_columns) e
            (own_again t.rows t.cols k max_columns row_in col_in later above there)
        column c (no e) = other t.rows t.cols k c max_columns e

    pub rest_again : (x : Float) → Rest kept kept row_idx values row_idx (set values (kept - 1) x)
    rest_again x =
        record { grown = le_refl kept; rows_rest = refl; values_rest = drop-set-lt kept values (kept - 1) x (omega (arith, some_kept)) }

  module _ (r : Repeat t.rows t.cols k → ⊥) (row_room : length row_idx ≡ length t.rows) (value_room : length values ≡ length t.rows)
      (column_room : get_or t.cols k 0 < length col_ptr) where
    unfilled : filled t.rows t.cols (get_or t.rows k 0) (get_or t.cols k 0) k ≡ false
    unfilled = fresh t.rows t.cols ready sorted k h r

    pub taken_new : Taken t (k + 1) (kept + 1) (set col_ptr (get_or t.cols k 0) (get_or col_ptr (get_or t.cols k 0) 0 + 1))
        (set row_idx kept (get_or t.rows k 0)) (set values kept (add binary64 Constants.zero (get_or t.vals k nan)))
    taken_new =
        rw (add-one k, add-one kept)
        (record {
          few = omega (arith, p.few);
          count = ap suc p.count ∙ sym (ap length (rows_new t.rows t.cols k max_columns row_in col_in later above unfilled)
              ∙ length_more (rows_to t.rows t.cols k max_columns max_columns) (get_or t.rows k 0));
          rows_front =
              take-suc-set row_idx kept (get_or t.rows k 0) (omega (arith, p.few, row_room, h))
              ∙ ap (λ (l : List ℕ). l ++ (get_or t.rows k 0 ∷ [])) p.rows_front
              ∙ sym (rows_new t.rows t.cols k max_columns row_in col_in later above unfilled);
          values_front =
              take-suc-set values kept _ (omega (arith, p.few, value_room, h))
              ∙ ap (λ (l : List Float). l ++ (add binary64 Constants.zero (get_or t.vals k nan) ∷ [])) p.values_front
              ∙ sym (values_new t k max_columns row_in col_in later above unfilled);
          counts = λ c l. column c (omega (arith, l, length-set col_ptr (get_or t.cols k 0) (get_or col_ptr (get_or t.cols k 0) 0 + 1)))
              (ℕ_discrete (get_or t.cols k 0) c);
        })
      where
        column : (c : ℕ) → c < length col_ptr → Dec (get_or t.cols k 0 ≡ c)
            → get_or (set col_ptr (get_or t.cols k 0) (get_or col_ptr (get_or t.cols k 0) 0 + 1)) c 0
            ≡ length (column_to t.rows t.cols (suc k) c max_columns)
        column c l (yes e) =
            subst
            (λ (x : ℕ). get_or (set col_ptr (get_or t.cols k 0) (get_or col_ptr (get_or t.cols k 0) 0 + 1)) x 0
            ≡ length (column_to t.rows t.cols (suc k) x max_columns))
            e
            (get_or-set_same col_ptr (get_or t.cols k 0) _ 0 column_room
            ∙ add-one (get_or col_ptr (get_or t.cols k 0) 0)
            ∙ ap suc (p.counts (get_or t.cols k 0) column_room)
            ∙ sym (ap length (own_new t.rows t.cols k max_columns row_in col_in later above unfilled)
            ∙ length_more (column_to t.rows t.cols k (get_or t.cols k 0) max_columns) (get_or t.rows k 0)))
        column c l (no e) =
            get_or-set_other col_ptr (get_or t.cols k 0) c _ 0 (λ q. e (sym q))
            ∙ p.counts c l
            ∙ ap length (sym (other t.rows t.cols k c max_columns e))

-- ---- the start
pub taken_start : (t : Triplets) (col_ptr row_idx : List ℕ) (values : List Float) → ((c : ℕ) → get_or col_ptr c 0 ≡ 0) → Taken t 0 0 col_ptr row_idx values
unfolding filled
taken_start t col_ptr row_idx values z =
    record {
      few = le_refl 0;
      count = sym (ap length (rows_none t.rows t.cols max_columns max_columns));
      rows_front = sym (rows_none t.rows t.cols max_columns max_columns);
      values_front = sym (values_none t max_columns max_columns);
      counts = λ c l. z c ∙ sym (ap length (empty_column t.rows t.cols 0 c max_columns (λ i. refl)));
    }

-- ---- two runs
drop_more : {A : Type 0} (x y : ℕ) (l m : List A) → x ≤ y → drop x l ≡ drop x m → drop y l ≡ drop y m
drop_more x y l m h e =
    let s : x + (y - x) ≡ y = omega arith in
    subst (λ (z : ℕ). drop z l ≡ drop z m) s (sym (drop-drop (y - x) x l) ∙ ap (drop (y - x)) e ∙ drop-drop (y - x) x m)

pub rest_after : {a b c : ℕ} {row_idx₀ : List ℕ} {values₀ : List Float} {row_idx : List ℕ} {values : List Float} {row_idx' : List ℕ}
    {values' : List Float} → Rest a b row_idx₀ values₀ row_idx values → Rest b c row_idx values row_idx' values'
    → Rest a c row_idx₀ values₀ row_idx' values'
rest_after {a} {b} {c} p q =
    record {
      grown = omega (arith, p.grown, q.grown);
      rows_rest = q.rows_rest ∙ drop_more b c _ _ q.grown p.rows_rest;
      values_rest = q.values_rest ∙ drop_more b c _ _ q.grown p.values_rest;
    }
