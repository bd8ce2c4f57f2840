-- What the steps of the flat rule require and leave: matched indices are marked 1, unmatched ones 0 until they have a
-- sum and 2 afterwards, with the largest sum so far in the place of the factor.
use Rattle.std.specs.Prelude.{◌≡◌, Bool, true, false, cond, ◌||◌, List, [], ◌∷◌, ℕ, ◌≤◌, ◌<◌, eqb, Float, length, get_or, set}
use Rattle.std.specs.Float.{nan, binary64}
use Rattle.std.specs.Float.Ieee.{add, lt, neg}
use Rattle.float64.specs.Constants as Constants
use Rattle.float64.specs.Functions.{clamp_log}
use Rattle.sparse.specs.Matrix.{Matrix}
use Rattle.matching.specs.Match.{Match}
use Rattle.mc64_columns.specs.Columns.{largest_from}
use Rattle.mc64_symmetric.specs.Graph.{places_to}
use Rattle.mc64_symmetric.specs.inner.Steps.{Triangle}
use Rattle.factors_mc64.specs.Factors.{doubles_of, is_matched_row, factor_at}
use Rattle.factors_mc64.specs.Calls.{Slices, slices}
use Rattle.factors_mc64.specs.inner.Steps.{bit}
use Rattle.factors_flat.specs.Flat.{Input, input, matched_by, is_matched, sums_over}

-- the mark of an index, and what is in the place of its factor
abbrev pub mark : Bool → List Float → ℕ
mark true sums = 1
mark false [] = 0
mark false (x ∷ l) = 2

abbrev pub held : Bool → Float → List Float → Float
held true factor sums = factor
held false factor [] = Constants.zero
held false factor (x ∷ l) = largest_from x l

-- every index with these sums
pub record Levelled (n : ℕ) (c : Match Float) (sums : ℕ → List Float) (s : Slices) : Type 0 where
  pub room : length s.factors ≡ n
  pub words : length s.work ≡ n
  pub factors_at : (i : ℕ) → i < n → get_or s.factors i nan ≡ held (is_matched n c i) (factor_at n c i) (sums i)
  pub marks_at : (i : ℕ) → i < n → get_or s.work i 0 ≡ mark (is_matched n c i) (sums i)

-- no sums yet
abbrev pub no_sums : ℕ → List Float
no_sums i = []

-- ---- the marks
-- below k those of the indices, from k on those of the rows
pub record MarkedTo (n : ℕ) (perm : List ℕ) (cmax : List Float) (k : ℕ) (work : List ℕ) : Type 0 where
  pub words : length work ≡ n
  pub done : (i : ℕ) → i < k → i < n → get_or work i 0 ≡ bit (matched_by n perm cmax i)
  pub left : (i : ℕ) → k ≤ i → i < n → get_or work i 0 ≡ bit (is_matched_row perm i n)

-- ---- the stored entries
-- a matrix that was accepted
pub record Ready (m : Matrix) (logs : List Float) : Type 0 where
  pub triangle : Triangle m
  pub logged : length logs ≡ length m.pattern.row_idx

-- the sums over the first k stored places
abbrev pub sums_to : Input → ℕ → ℕ → List Float
sums_to g k i = sums_over g i (places_to g.stored i k)

-- from the sums over the first k places to those over the first l, for any match
pub record Enters (m : Matrix) (logs : List Float) (k l : ℕ) (before after : Slices) : Type 0 where
  pub levels : (c : Match Float) → Levelled m.pattern.n c (sums_to (input c m logs) k) before
      → Levelled m.pattern.n c (sums_to (input c m logs) l) after

-- ---- one entry
-- the larger of the sum so far and another, which counts if it is the first or strictly larger
abbrev pub raised_to : ℕ → Float → Float → Float
raised_to mark best sum = cond (eqb mark 0 || lt best sum) sum best

-- index `to` gets the sum by an entry to the matched index `from`
unfoldable pub raised_at : ℕ → ℕ → Float → Slices → Slices
raised_at to from log s =
    slices
    (set s.factors to
    (raised_to (get_or s.work to 0) (get_or s.factors to nan) (add binary64 log (get_or s.factors from nan))))
    (set s.work to 2)

-- an entry of row i and column j counts for its unmatched end if the other one is matched
abbrev pub entered : Bool → Bool → ℕ → ℕ → Float → Slices → Slices
entered true true i j log s = s
entered false false i j log s = s
entered true false i j log s = raised_at j i log s
entered false true i j log s = raised_at i j log s

-- ---- the end
-- a sum becomes the factor, the others stay
abbrev pub turned : ℕ → Float → Float
turned mark x = cond (eqb mark 2) (clamp_log (neg x)) x

unfoldable pub turned_all : ℕ → Slices → List Float
turned_all n s = doubles_of (λ i. turned (get_or s.work i 0) (get_or s.factors i nan)) n
