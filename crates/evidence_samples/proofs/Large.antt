-- A graph of n columns, of which the first has one entry, passes every test but that of its cost (`frame`): so 4,096
-- columns need not be walked by computing, and sample 9 computes the test of the cost alone.
use mathlib.Core.Path.{◌≡◌, refl, ◌∙◌}
use mathlib.Core.Bool.{true, ◌&&◌}
use mathlib.Core.List.{List, [], ◌∷◌, map}
use Prim.Native.Nat.{ℕ, zero, suc, ◌≤◌, ◌<◌}
use native.Mathlib.Omega.{arith}
use lib.Dec.{eqb}
use lib.Ieee.{binary64, of_bits, eq, lt, le}
use lib.ListN.{replicate, get_or, get_or-replicate}
use Rattle.std.specs.Prelude.{Err}
use Rattle.refusal.specs.Refusal.{accepted, cost_range}
use Rattle.refusal.specs.Number.{fault_of}
use Rattle.slices.specs.Outcome.{refusing}
use Rattle.float64.specs.Number.{magnitude, units_per_one}
use Rattle.cost_limit.specs.Range.{in_range}
use Rattle.sparse.specs.Fault.{first_of}
use Rattle.sparse.specs.Columns.{Pointers, Columns}
use Rattle.sparse.proofs.Accepted.{sizes_accepted, pointers_accepted, general_columns_lem}
use Rattle.hungarian.specs.Graph.{CostGraph}
use Rattle.hungarian.specs.Test.{cost_fault, graph_fault}
use Rattle.hungarian_match.specs.Call as Match
use Rattle.evidence_samples.specs.Table.{single, pairs_lent, match_number, most_columns}

-- the pointers of such a graph of n columns
abbrev starts : ℕ → List ℕ
starts n = 0 ∷ replicate n 1

-- the number of the match is that of its fault
number : (g : CostGraph) (s : Match.Slices) (fault : ℕ) → fault_of (refusing Err fault (Match.finished g s) s).answer ≡ fault
unfolding Match.finished
number g s zero = refl
number g s (suc fault) = refl

module _ (n : ℕ) (some : 0 < n) where
  after : (j : ℕ) → j < n → get_or (starts n) (suc j) 0 ≡ 1
  after j h = get_or-replicate n j 1 0 h

  last : (k : ℕ) → k ≡ n → get_or (starts n) k 0 ≡ 1
  last zero e = let z : ⊥ = omega arith in absurd z
  last (suc j) e = after j (omega arith)

  before : (j : ℕ) → j < n → get_or (starts n) j 0 ≤ 1
  before zero h = omega arith
  before (suc j) h = omega (arith, after j (omega arith))

  pointers : Pointers n (starts n) 1
  pointers = record { first = refl; last = last n refl; rises = λ j h. omega (arith, before j h, after j h) }

  inside : (k : ℕ) → k < 1 → get_or (0 ∷ []) k 0 < n
  inside zero h = some
  inside (suc k) h = let z : ⊥ = omega arith in absurd z

  columns : Columns n (starts n) (0 ∷ [])
  columns = record {
    pointers = pointers;
    inside = inside;
    rising = λ j k h a b. let z : ⊥ = omega (arith, after j h) in absurd z;
  }

  frame : (cost : ℕ) → n ≤ 4096 → Match.match_lengths (single n cost) (pairs_lent n) ≡ true
      → match_number (single n cost) ≡ cost_fault n (map (of_bits binary64) (cost ∷ []))
  unfolding Match.match_outcome graph_fault
  frame cost most fit =
      number (single n cost) (pairs_lent n) (Match.match_fault (single n cost) (pairs_lent n))
      ∙ rw ((sizes_accepted n 262144 1 _).1 (most, omega arith, fit), (pointers_accepted n (starts n) 1).1 pointers, (general_columns_lem pointers).1 columns) refl

both_hold : (a b : ℕ) → a ≡ cost_range → b ≡ accepted → (eqb a cost_range && eqb b accepted) ≡ true
both_hold a b x y = rw (x, y) refl

pub most_columns_lem : most_columns ≡ true
unfolding most_columns cost_fault first_of in_range Match.match_lengths magnitude units_per_one of_bits eq lt le
most_columns_lem =
    both_hold (match_number (single 4096 0x4230_0000_0000_0000)) (match_number (single 4096 0x422F_FFFF_FFFE_0000))
    (frame 4096 (omega arith) 0x4230_0000_0000_0000 (omega arith) refl)
    (frame 4096 (omega arith) 0x422F_FFFF_FFFE_0000 (omega arith) refl)
