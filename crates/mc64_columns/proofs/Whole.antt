-- Logs that are made of values, read at a place. Columns of whole logs have whole costs: the largest log of a column is one of them, and a
-- difference of whole numbers of at most 2 ^ 52 is exact.
use mathlib.Core.Path.{◌≡◌, refl, sym}
use mathlib.Core.Bool.{Bool, true, false, cond}
use mathlib.Core.List.{List, [], ◌∷◌}
use Prim.Native.Nat.{ℕ, zero, suc, ◌+◌, ◌≤◌, ◌<◌, ◌^◌}
use native.Mathlib.Omega.{arith}
use lib.IntN.{ℤ, pos, negsuc, nat_abs, neg_ℤ, ◌+ℤ◌}
use lib.Ieee.{Float, nan, binary64, neg, sub, lt}
use lib.ListN.{length, get_or, length-map}
use Rattle.float64.specs.Number.{Whole, IsWhole}
use Rattle.float64.proofs.Integers.{plus, minus, sum_parts, neg_parts}
use Rattle.float64.proofs.WholeNumbers.{whole_add, whole_neg}
use Rattle.whole_log.specs.Log.{whole_log, double_of}
use Rattle.mc64_columns.specs.declared.LogSource.{LogSource}
use Rattle.mc64_columns.specs.declared.LogSource.TheVariants.{Lent, Own}
use Rattle.mc64_columns.specs.Columns.{value_logs, largest, largest_from, normalised}
use Rattle.mc64_columns.specs.inner.Steps.{entry_log, entry_logs}
use Rattle.mc64_columns.specs.Graphs.{GraphColumns, logs_of, graph_costs}
use Rattle.mc64_columns.proofs.Accepted.{cost_at}
use Rattle.mc64_columns.proofs.Kept.{map_at}
use Rattle.mc64_columns.proofs.Graphs.{joined_all, normalised_length}

-- ---- logs of entries
no_log_lem : double_of (whole_log nan) ≡ nan
unfolding whole_log
no_log_lem = refl

-- past the end too
pub value_log_at : (values : List Float) (k : ℕ) → get_or (value_logs values) k nan ≡ double_of (whole_log (get_or values k nan))
value_log_at [] k = sym no_log_lem
value_log_at (x ∷ values) zero = refl
value_log_at (x ∷ values) (suc k) = value_log_at values k

pub entry_log_at : (source : LogSource) (lent : List Float) (k : ℕ) → get_or (entry_logs source lent) k nan ≡ entry_log source (get_or lent k nan)
entry_log_at Lent lent k = refl
entry_log_at Own lent k = value_log_at lent k

-- ---- whole logs
-- a double that stands for a whole number of at most 2 ^ 52
pub record Short (x : Float) : Type 0 where
  pub number : ℤ
  pub whole : Whole x number
  pub up : plus number ≤ 2 ^ 52
  pub down : minus number ≤ 2 ^ 52

difference_short : (z a b : ℕ) (s : ℤ) → plus s + z ≡ a + minus s → z ≤ 2 ^ 53 → a ≤ 2 ^ 53 → nat_abs s ≤ 2 ^ 53
difference_short z a b (pos n) e h g = omega arith
difference_short z a b (negsuc n) e h g = omega arith

exact : (x y : Float) → Short x → Short y → IsWhole (sub binary64 x y)
unfolding sub
exact x y p q =
    let a = p.number in
    let b = neg_ℤ q.number in
    let s = a +ℤ b in (
      s,
      whole_add x (neg y) a b p.whole (whole_neg y q.number q.whole)
          (difference_short (minus a + minus b) (plus a + plus b) 0 s (sum_parts a b) (omega (arith, neg_parts q.number, p.down, q.up))
          (omega (arith, neg_parts q.number, p.up, q.down))),
    )

AllShort : List Float → Type 0
AllShort l = (k : ℕ) → k < length l → Short (get_or l k nan)

larger : (top : Float) (l : List Float) → Short top → AllShort l → Short (largest_from top l)
unfolding largest_from AllShort
larger top [] p q = p
larger top (c ∷ l) p q = larger (cond (lt top c) c top) l (go (lt top c)) (λ k h. q (suc k) (omega arith))
  where
    go : (b : Bool) → Short (cond b c top)
    go true = q 0 (omega arith)
    go false = p

largest_short : (l : List Float) → 0 < length l → AllShort l → Short (largest l)
unfolding largest AllShort
largest_short [] h q = absurd (omega arith)
largest_short (c ∷ l) h q = larger c l (q 0 (omega arith)) (λ k g. q (suc k) (omega arith))

normalised_whole : (l : List Float) → AllShort l → (k : ℕ) → k < length l → IsWhole (get_or (normalised l) k nan)
unfolding normalised AllShort
normalised_whole l q k h = rw (cost_at (largest l) l k h) (exact (largest l) (get_or l k nan) (largest_short l (omega arith) q) (q k h))

-- of whole logs at the columns' places every cost is whole
pub columns_whole_lem : (g : GraphColumns) (n : ℕ) (logs : List Float)
    → ((c i : ℕ) → c < n → i < length (g.places c) → Short (get_or logs (get_or (g.places c) i 0) nan))
    → (k : ℕ) → k < length (graph_costs g logs n) → IsWhole (get_or (graph_costs g logs n) k nan)
unfolding AllShort
columns_whole_lem g n logs fine =
    joined_all (λ c. normalised (logs_of g logs c)) nan IsWhole n
    (λ c i h l. normalised_whole (logs_of g logs c) (column c h) i (rw (normalised_length (logs_of g logs c)) at l))
  where
    column : (c : ℕ) → c < n → AllShort (logs_of g logs c)
    column c h i l =
        let u : i < length (g.places c) = rw length-map at l in
        rw (map_at (λ (x : ℕ). get_or logs x nan) (g.places c) i nan u) (fine c i h u)
