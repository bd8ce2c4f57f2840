-- Columns that follow one another: lengths and elements. Where each has rows that are inside and rise, and logs in range, the match accepts the graph.
use mathlib.Core.Path.{◌≡◌, refl, sym, ap, ◌∙◌, subst}
use mathlib.Core.Bool.{true}
use mathlib.Core.List.{List, [], ◌∷◌, ◌++◌}
use Prim.Native.Nat.{ℕ, zero, suc, ◌+◌, ◌-◌, ◌≤◌, ◌<◌}
use native.Mathlib.Nat.{le_refl, le_trans, not-suc-le-zero, add-zero, add-suc}
use native.Mathlib.Decide.{ℕ_discrete, dec_lt}
use native.Mathlib.Omega.{arith}
use lib.Dec.{T}
use lib.Ieee.{Float, nan, binary64, fits, sub}
use lib.ListN.{length, get_or, drop, set, length-append, length-map, get_or-append}
use lib.Seq.{get_or-append-add, drop-cons, set_at, append_snoc}
use Rattle.limits.specs.Limits.{max_general}
use Rattle.refusal.specs.Refusal.{cost_range}
use Rattle.sparse.specs.Matrix.{matrix}
use Rattle.sparse.specs.Columns.{Pointers, Columns}
use Rattle.sparse.specs.Validate.{general_fault, frame_fault, size_fault, matrix_lengths}
use Rattle.sparse.specs.Fault.{unless}
use Rattle.sparse.proofs.First.{or-none, or-zero, all_zero}
use Rattle.sparse.proofs.Accepted.{general_accepted}
use Rattle.slices.proofs.Lists.{get_d_right, get_d_last}
use Rattle.cost_limit.specs.Range.{in_range, in_log_range}
use Rattle.hungarian.specs.Test.{graph_fault, cost_fault}
use Rattle.hungarian.specs.Accepted.{Accepted}
use Rattle.hungarian.specs.Graph.{graph_of}
use Rattle.mc64_columns.specs.Columns.{largest, normalised}
use Rattle.mc64_columns.specs.inner.Steps.{Logs}
use Rattle.mc64_columns.specs.Graphs.{joined, GraphColumns, rows_of, logs_of, kept_before, graph_pointers, graph_rows, graph_costs}
use Rattle.mc64_columns.proofs.Accepted.{normalised_accepted}
use Rattle.mc64_columns.proofs.Kept.{map_at}

-- ---- columns of one element each
pub ones_length : {A : Type 0} (f : ℕ → A) (c : ℕ) → length (joined (λ i. f i ∷ []) c) ≡ c
unfolding joined
ones_length f zero = refl
ones_length f (suc c) = length-append (joined (λ i. f i ∷ []) c) (f c ∷ []) ∙ omega (arith, ones_length f c)

-- one more, written over a list
pub one_more : {A : Type 0} (f : ℕ → A) (l : List A) (d : A) (c : ℕ) → c < length l → set (joined (λ i. f i ∷ []) c ++ drop c l) c (f c) ≡ joined
    (λ i. f i ∷ []) (suc c) ++ drop (suc c) l
unfolding joined
one_more {A} f l d c h =
    let ones = joined (λ i. f i ∷ []) c in
    ap (λ (r : List A). set (ones ++ r) c (f c)) (drop-cons l c d h)
    ∙ set_at ones (get_or l c d) (drop (suc c) l) (f c) c (ones_length f c) ∙ sym (append_snoc ones (f c) (drop (suc c) l))

pub ones_at : (f : ℕ → ℕ) (n i : ℕ) → i < n → get_or (joined (λ c. f c ∷ []) n) i 0 ≡ f i
unfolding joined
ones_at f zero i h = absurd (not-suc-le-zero h)
ones_at f (suc n) i h = go (ones_at f n i) (ℕ_discrete i n)
  where
    go : (i < n → get_or (joined (λ c. f c ∷ []) n) i 0 ≡ f i) → Dec (i ≡ n) → get_or (joined (λ c. f c ∷ []) n ++ (f n ∷ [])) i 0 ≡ f i
    go g (yes e) = rw e (ap (λ (k : ℕ). get_or (joined (λ c. f c ∷ []) n ++ (f n ∷ [])) k 0) (sym (ones_length f n))
        ∙ get_d_last (joined (λ c. f c ∷ []) n) (f n) 0)
    go g (no e) = get_or-append (joined (λ c. f c ∷ []) n) (f n ∷ []) 0 i (omega (arith, ones_length f n)) ∙ g (omega arith)

-- ---- columns of any length
module _ {A : Type 0} (f : ℕ → List A) where
  joined_up : (c d : ℕ) → length (joined f c) ≤ length (joined f (c + d))
  unfolding joined
  joined_up c zero = rw add-zero (le_refl (length (joined f c)))
  joined_up c (suc d) = rw add-suc (le_trans (joined_up c d) (omega (arith, length-append (joined f (c + d)) (f (c + d)))))

  -- column c stands after those before it
  pub joined_at : (d : A) (c e i : ℕ) → i < length (f c) → get_or (joined f (c + suc e)) (length (joined f c) + i) d ≡ get_or (f c) i d
  unfolding joined
  joined_at d c zero i h = let q : c + 1 ≡ suc c = omega arith in rw q (get_or-append-add (joined f c) (f c) i d)
  joined_at d c (suc e) i h =
      let q : c + suc (suc e) ≡ suc (c + suc e) = omega arith in
      rw q (get_or-append (joined f (c + suc e)) (f (c + suc e)) d (length (joined f c) + i) (room e) ∙ joined_at d c e i h)
    where
      room : (e : ℕ) → length (joined f c) + i < length (joined f (c + suc e))
      room e =
          let q : suc c + e ≡ c + suc e = omega arith in
          subst (λ (x : ℕ). length (joined f c) + i < length (joined f x)) q (le_trans (omega (arith, length-append (joined f c) (f c))) (joined_up (suc c) e))

  -- what holds of each column's elements holds of all
  pub joined_all : (d : A) (P : A → Type 0) (n : ℕ) → ((c i : ℕ) → c < n → i < length (f c) → P (get_or (f c) i d)) → (k : ℕ) → k < length (joined f n)
      → P (get_or (joined f n) k d)
  unfolding joined
  joined_all d P zero g k h = absurd (not-suc-le-zero h)
  joined_all d P (suc n) g k h = go (joined_all d P n (λ c i l u. g c i (omega arith) u) k) (dec_lt k (length (joined f n)))
    where
      go : (k < length (joined f n) → P (get_or (joined f n) k d)) → Dec (k < length (joined f n)) → P (get_or (joined f n ++ f n) k d)
      go r (yes l) = rw (get_or-append (joined f n) (f n) d k l) (r l)
      go r (no l) = rw (get_d_right (joined f n) (f n) k d (omega arith))
          (g n (k - length (joined f n)) (omega arith) (omega (arith, h, length-append (joined f n) (f n))))

pub normalised_length : (l : List Float) → length (normalised l) ≡ length l
unfolding normalised
normalised_length l = length-map l (sub binary64 (largest l))

-- ---- the graph of such columns
module _ (g : GraphColumns) where
  pub row_at : (c i : ℕ) → i < length (g.places c) → get_or (rows_of g c) i 0 ≡ g.row c (get_or (g.places c) i 0)
  row_at c i h = map_at (g.row c) (g.places c) i 0 h

  -- as many logs as rows
  pub as_many : (logs : List Float) (c : ℕ) → length (logs_of g logs c) ≡ length (rows_of g c)
  as_many logs c = length-map (g.places c) (λ k. get_or logs k nan) ∙ sym (length-map (g.places c) (g.row c))

  rows_next : (c : ℕ) → kept_before g (suc c) ≡ kept_before g c + length (rows_of g c)
  unfolding joined
  rows_next c = length-append (graph_rows g c) (rows_of g c)

  pub kept_next : (c : ℕ) → kept_before g (suc c) ≡ kept_before g c + length (g.places c)
  kept_next c = rows_next c ∙ ap (λ (i : ℕ). kept_before g c + i) (length-map (g.places c) (g.row c))

  none_kept : kept_before g 0 ≡ 0
  unfolding joined
  none_kept = refl

  -- as many costs as rows
  pub costs_length : (logs : List Float) (c : ℕ) → length (graph_costs g logs c) ≡ kept_before g c
  unfolding joined
  costs_length logs zero = refl
  costs_length logs (suc c) =
      length-append (graph_costs g logs c) (normalised (logs_of g logs c))
      ∙ omega (arith, costs_length logs c, normalised_length (logs_of g logs c), as_many logs c, rows_next c)

  module _ (n : ℕ) (inside : (c i : ℕ) → c < n → i < length (rows_of g c) → get_or (rows_of g c) i 0 < n)
      (rises : (c i : ℕ) → c < n → suc i < length (rows_of g c) → get_or (rows_of g c) i 0 < get_or (rows_of g c) (suc i) 0) where
    pointer_at : (c : ℕ) → c ≤ n → get_or (graph_pointers g n) c 0 ≡ kept_before g c
    pointer_at c h = ones_at (kept_before g) (suc n) c (omega arith)

    pointers : Pointers n (graph_pointers g n) (length (graph_rows g n))
    pointers =
        record {
          first = pointer_at 0 (omega arith) ∙ none_kept;
          last = pointer_at n (omega arith);
          rises = λ j h. rw (pointer_at j (omega arith), pointer_at (suc j) h) (omega (arith, rows_next j));
        }

    -- a place of the graph, in the stretch of column c
    place_at : (c i : ℕ) → c < n → i < length (rows_of g c) → get_or (graph_rows g n) (kept_before g c + i) 0 ≡ get_or (rows_of g c) i 0
    place_at c i h l =
        let e : c + suc (n - suc c) ≡ n = omega arith in
        subst (λ (x : ℕ). get_or (graph_rows g x) (kept_before g c + i) 0 ≡ get_or (rows_of g c) i 0) e (joined_at (rows_of g) 0 c (n - suc c) i l)

    pub columns_rise : Columns n (graph_pointers g n) (graph_rows g n)
    columns_rise =
        record {
          pointers = pointers;
          inside = joined_all (rows_of g) 0 (λ x. x < n) n inside;
          rising = λ j k h l u. rising j k h (rw (pointer_at j (omega arith)) at l) (rw (pointer_at (suc j) h) at u);
        }
      where
        rising : (j k : ℕ) → j < n → kept_before g j ≤ k → suc k < kept_before g (suc j) → get_or (graph_rows g n) k 0 < get_or (graph_rows g n) (suc k) 0
        rising j k h l u =
            let i = k - kept_before g j in
            let e : kept_before g j + i ≡ k = omega arith in
            let e' : kept_before g j + suc i ≡ suc k = omega arith in
            let b : suc i < length (rows_of g j) = omega (arith, rows_next j) in
            subst (λ (x : ℕ). get_or (graph_rows g n) x 0 < get_or (graph_rows g n) (suc k) 0) e
            (subst (λ (x : ℕ). get_or (graph_rows g n) (kept_before g j + i) 0 < get_or (graph_rows g n) x 0) e'
            (rw (place_at j i h (omega arith), place_at j (suc i) h b) (rises j i h b)))

    module _ (few : n ≤ 4096) (entries : kept_before g n ≤ 262144) (logs : List Float) where
      -- the match's tests 1 to 7 find nothing wrong
      pub columns_accepted : general_fault (matrix n (graph_pointers g n) (graph_rows g n) (graph_costs g logs n)) ≡ 0
      columns_accepted =
          (general_accepted (matrix n (graph_pointers g n) (graph_rows g n) (graph_costs g logs n))).1 (
            record { columns = few; entries = entries; colptrs = ones_length (kept_before g) (suc n) ∙ omega arith; stored = costs_length logs n },
            columns_rise,
          )

      costs_in_range : ((c : ℕ) → c < n → Logs n (logs_of g logs c)) → (k : ℕ) → k < length (graph_costs g logs n)
          → in_range n (get_or (graph_costs g logs n) k nan) ≡ true
      costs_in_range fine =
          joined_all (λ c. normalised (logs_of g logs c)) nan (λ x. in_range n x ≡ true) n
          (λ c i h l. normalised_accepted n (omega arith) (logs_of g logs c) (fine c h) i (rw (normalised_length (logs_of g logs c)) at l))

      -- nor does its test of costs, where the logs of the columns' places are doubles in range
      pub columns_match : ((c i : ℕ) → c < n → i < length (g.places c) → let k = get_or (g.places c) i 0 in
          T (fits binary64 (get_or logs k nan)) × (in_log_range n (get_or logs k nan) ≡ true))
          → Accepted (graph_of n (graph_pointers g n) (graph_rows g n) (graph_costs g logs n))
      unfolding graph_fault cost_fault general_fault frame_fault
      columns_match fine =
          let a = or-zero (frame_fault max_general (matrix n (graph_pointers g n) (graph_rows g n) (graph_costs g logs n))) _ columns_accepted in
          let f = or-zero (size_fault n max_general (length (graph_rows g n)) (matrix_lengths n (graph_pointers g n) (graph_rows g n) (graph_costs g logs n)))
          _ a.0 in
          or-none f.0
          ∙ or-none f.1
          ∙ or-none a.1
          ∙ (all_zero (λ k. unless (in_range n (get_or (graph_costs g logs n) k nan)) cost_range) (length (graph_costs g logs n))).1
          (λ k h. rw (costs_in_range column_logs k h))
        where
          column_logs : (c : ℕ) → c < n → Logs n (logs_of g logs c)
          column_logs c h i l =
              let u : i < length (g.places c) = rw length-map at l in
              rw (map_at (λ (x : ℕ). get_or logs x nan) (g.places c) i nan u) (fine c i h u)
