-- SPECIFICATION 5.15: What `check_match` answers, and what a caller may rely on: an accepted pairing is a complete
-- matching of least total, and exactly the pairings with duals that show it are accepted.
use Rattle.std.specs.Prelude.{◌≡◌, ◌↔◌, Bool, List, ℕ, zero, suc, ◌^◌, ◌≤◌, ◌<◌, T, nat_abs, ◌+ℤ◌, ◌≤ℤ◌, length, get_or, Float}
use Rattle.refusal.specs.Refusal.{accepted}
use Rattle.refusal.specs.Number.{fault_of}
use Rattle.refusal.specs.Listed.{OneOf, check_numbers}
use Rattle.float64.specs.Number.{whole_of, IsWhole}
use Rattle.matching.specs.Matching.{Complete, LeastTotal}
use Rattle.matching.specs.Pairing.{paired_entries}
use Rattle.sparse.specs.Pattern.{Pattern, bipartite, row_of, column_of, entries}
use Rattle.hungarian.specs.Graph.{CostGraph, cost_of}
use Rattle.hungarian.specs.Accepted.{Accepted}
use Rattle.hungarian.specs.Optimal.{WholeCosts, amount}
use Rattle.hungarian_match.specs.Call.{Slices, counts_left, match_outcome}
use Rattle.match_check.specs.Check.{Claim, claim, row_for, row_dual, column_dual, check_fault}

-- ---- what an accepted claim is
-- the pairs (perm j, j) as a set of entries
abbrev pub pairs : Pattern → Claim → ℕ → Bool
pairs g s = paired_entries (bipartite g) (row_for s)

-- x stands for a whole number, of at most 2 ^ 50 in size
pub record FitDual (x : Float) : Type 0 where
  pub is_whole : IsWhole x
  pub size : nat_abs (whole_of x) ≤ 2 ^ 50

-- the graph is one that the match accepts, its costs are whole, the pairs are a complete matching, and the duals are
-- whole numbers whose sum is at most the cost on every entry, and equal to it on the pairs
pub record Certified (g : CostGraph) (s : Claim) : Type 0 where
  pub graph : Accepted g
  pub costs : WholeCosts g
  pub row_count : length s.perm ≡ g.pattern.n
  pub row_duals : length s.u ≡ g.pattern.n
  pub column_duals : length s.v ≡ g.pattern.n
  pub complete : Complete (bipartite g.pattern) (pairs g.pattern s)
  pub rows : (i : ℕ) → i < g.pattern.n → FitDual (row_dual s i)
  pub columns : (j : ℕ) → j < g.pattern.n → FitDual (column_dual s j)
  pub feasible : (k : ℕ) → k < entries g.pattern
      → (whole_of (row_dual s (row_of g.pattern k)) +ℤ whole_of (column_dual s (column_of g.pattern k)))
      ≤ℤ whole_of (cost_of g k)
  pub tight : (k : ℕ) → k < entries g.pattern → T (pairs g.pattern s k)
      → whole_of (row_dual s (row_of g.pattern k)) +ℤ whole_of (column_dual s (column_of g.pattern k))
      ≡ whole_of (cost_of g k)

-- accepted exactly if this holds
abbrev pub Exactly : CostGraph → Claim → ℕ → Type 0
Exactly g s number = (number ≡ accepted) ↔ Certified g s

-- an accepted claim is a complete matching, and no complete matching costs less
abbrev pub Least : CostGraph → Claim → ℕ → Type 0
Least g s number = number ≡ accepted → LeastTotal (bipartite g.pattern) (amount g) (pairs g.pattern s)

-- ---- our own matches
-- the perm, u and v among the slices of the match
abbrev pub claim_left : Slices → Claim
claim_left s = claim s.perm s.u s.v

-- the claim is what a call of `hungarian_match` left on this graph: its costs are whole, and whatever the slices held
-- before, the call answered 0, its first count is n, and it left this perm, u and v
pub record Ours (g : CostGraph) (s : Claim) : Type 0 where
  pub costs : WholeCosts g
  pub before : Slices
  pub counts : List ℕ
  pub number : fault_of (match_outcome g before).answer ≡ accepted
  pub matched : get_or (counts_left (match_outcome g before).answer counts) 0 0 ≡ g.pattern.n
  pub left : s ≡ claim_left (match_outcome g before).after

abbrev pub OursAccepted : CostGraph → Claim → ℕ → Type 0
OursAccepted g s number = Ours g s → number ≡ accepted

-- ---- all that `check_match` promises, of the graph, the claim and the number that it answers: 0, or the refusal
pub record Promises (g : CostGraph) (s : Claim) (r : ℕ) : Type 0 where
  -- the number is that of the definition
  pub answer : r ≡ check_fault g s
  -- it is one of the call's list
  pub number : OneOf check_numbers r
  -- accepted are exactly the certified claims
  pub exactly : Exactly g s r
  -- no complete matching costs less than an accepted one
  pub least : Least g s r
  -- our own complete matches of whole costs are accepted
  pub ours : OursAccepted g s r
