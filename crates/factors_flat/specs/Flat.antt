-- SPECIFICATION 7.5: Duff and Pralet's rule (2005): a matched index keeps its factor, any other gets minus the largest,
-- over the kept entries of its column of the symmetric graph to matched indices, of the entry's log plus that index's
-- factor.
use Rattle.std.specs.Prelude.{Bool, true, false, ◌&&◌, List, [], ◌∷◌, ◌++◌, ℕ, Float, get_or}
use Rattle.std.specs.Float.{nan, binary64}
use Rattle.std.specs.Float.Ieee.{add, neg}
use Rattle.std.specs.Float.Ieee.Scale.{finite}
use Rattle.float64.specs.Constants as Constants
use Rattle.float64.specs.Functions.{clamp_log}
use Rattle.sparse.specs.Matrix.{Matrix}
use Rattle.matching.specs.Match.{Match}
use Rattle.mc64_columns.specs.Columns.{largest_from}
use Rattle.mc64_symmetric.specs.Graph.{places_of, other_end}
use Rattle.factors_mc64.specs.Factors.{matched_both, factor_at, doubles_of}

-- what the factors are made of: a match, the matrix and a log for each of its entries
pub record Input : Type 0 where
  pub pairs : Match Float
  pub stored : Matrix
  pub logs : List Float

abbrev pub input : Match Float → Matrix → List Float → Input
input pairs stored logs = record { pairs = pairs; stored = stored; logs = logs }

-- how many columns
abbrev pub columns : Input → ℕ
columns g = g.stored.pattern.n

-- whether index i, below n, is matched: its column and its row are, and its largest log is finite
unfoldable pub matched_by : ℕ → List ℕ → List Float → ℕ → Bool
matched_by n perm cmax i = finite (get_or cmax i nan) && matched_both n perm i

abbrev pub is_matched : ℕ → Match Float → ℕ → Bool
is_matched n c i = matched_by n c.perm c.cmax i

-- ---- the sums of an index
-- x alone, or nothing
abbrev pub alone : Bool → Float → List Float
alone true x = x ∷ []
alone false x = []

-- the log of place k plus the factor of the index at its other end, rounded once
abbrev pub sum_at : Input → ℕ → ℕ → Float
sum_at g i k = add binary64 (get_or g.logs k nan) (factor_at (columns g) g.pairs (other_end g.stored i k))

-- the sums of the places whose other end is matched, in their order
unfoldable pub sums_over : Input → ℕ → List ℕ → List Float
sums_over g i [] = []
sums_over g i (k ∷ l) =
    alone (is_matched (columns g) g.pairs (other_end g.stored i k)) (sum_at g i k) ++ sums_over g i l

-- the sums over all places of its column of the graph: the mirrored ones first, by rising row
abbrev pub sums_of : Input → ℕ → List Float
sums_of g i = sums_over g i (places_of g.stored i)

-- ---- the factors
-- minus the largest sum (the first of equal ones), held to -709..709; plus zero if there is no sum
unfoldable pub flattened : List Float → Float
flattened [] = Constants.zero
flattened (x ∷ l) = clamp_log (neg (largest_from x l))

-- the factor, where the index is matched
abbrev pub kept_or_flat : Bool → Float → List Float → Float
kept_or_flat true factor sums = factor
kept_or_flat false factor sums = flattened sums

abbrev pub flat_factor_at : Input → ℕ → Float
flat_factor_at g i = kept_or_flat (is_matched (columns g) g.pairs i) (factor_at (columns g) g.pairs i) (sums_of g i)

abbrev pub flat_factors : Input → List Float
flat_factors g = doubles_of (flat_factor_at g) (columns g)
