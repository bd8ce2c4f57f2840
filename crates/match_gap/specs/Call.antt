-- SPECIFICATION 5.17: What `match_gap` answers and leaves, and what a caller may rely on: the total of the pairs is at
-- most that of every complete matching plus `gap` steps, in exact numbers.
use Rattle.std.specs.Prelude.{◌≡◌, Bool, List, [], ◌∷◌, ℕ, ◌+◌, ◌*◌, ◌≤◌, get_or}
use Rattle.refusal.specs.Refusal.{accepted}
use Rattle.refusal.specs.Listed.{OneOf, gap_numbers}
use Rattle.slices.specs.Outcome.{Outcome, outcome_is, refusing, as_number}
use Rattle.float64.specs.Number.{magnitude}
use Rattle.matching.specs.Matching.{Complete, total}
use Rattle.sparse.specs.Pattern.{bipartite}
use Rattle.hungarian.specs.Graph.{CostGraph, cost_of}
use Rattle.match_check.specs.Check.{Claim, check_fault}
use Rattle.match_check.specs.Call.{pairs}
use Rattle.match_gap.specs.Rounding.{step}
use Rattle.match_gap.specs.Gap.{gap_of, gap_fault}

-- what `match_gap` does: the number that it answers, 0 or the refusal, and what the slice then holds
unfoldable pub gap_outcome : ℕ → CostGraph → Claim → List ℕ → Outcome ℕ (List ℕ)
unfolding gap_of gap_fault
gap_outcome digits g c gap =
    refusing as_number (gap_fault digits g c gap) (outcome_is accepted (gap_of (step digits) g c ∷ [])) gap

-- ---- what an accepted call says
-- the exact sum of the costs of a set of entries, in units of 2 ^ -1074
unfoldable pub units_of : CostGraph → (ℕ → Bool) → ℕ
unfolding total
units_of g S = total (bipartite g.pattern) (λ k. magnitude (cost_of g k)) S

-- the pairs are a complete matching, and no complete matching costs less by more than `gap` steps
pub record NearLeast (digits gap : ℕ) (g : CostGraph) (c : Claim) : Type 0 where
  pub complete : Complete (bipartite g.pattern) (pairs g.pattern c)
  pub near : (R : ℕ → Bool) → Complete (bipartite g.pattern) R → units_of g (pairs g.pattern c) ≤ units_of g R
      + gap * step digits

-- of what an accepted call leaves
abbrev pub Near : ℕ → CostGraph → Claim → ℕ → List ℕ → Type 0
Near digits g c number gap = number ≡ accepted → NearLeast digits (get_or gap 0 0) g c

-- what `check_match` accepts has no gap
abbrev pub NoGap : CostGraph → Claim → ℕ → List ℕ → Type 0
NoGap g c number gap = number ≡ accepted → check_fault g c ≡ accepted → get_or gap 0 0 ≡ 0

-- ---- all that `match_gap` promises, of the graph, the claim, the slice lent, its number and the slice left
pub record Promises (digits : ℕ) (g : CostGraph) (c : Claim) (before : List ℕ) (r : ℕ) (after : List ℕ) : Type 0 where
  -- the number and the slice left are the definition's
  pub outcome : outcome_is r after ≡ gap_outcome digits g c before
  -- the number is one of the call's list
  pub number : OneOf gap_numbers r
  -- the total of the pairs is at most that of every complete matching plus the gap
  pub near : Near digits g c r after
  -- what `check_match` accepts has no gap
  pub none : NoGap g c r after
