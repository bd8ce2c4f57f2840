-- SPECIFICATION 5.18: suontarvi_check_largest: what a host may rely on, also of its own matches, by what
-- suontarvi_match left.
use Rattle.std.specs.Prelude.{◌≡◌, List, ℕ, Float}
use Rattle.refusal.specs.Refusal.{accepted}
use Rattle.sparse.specs.Pattern.{Pattern}
use Rattle.hungarian.specs.Graph.{with_costs}
use Rattle.hungarian.specs.Accepted.{Doubles}
use Rattle.hungarian_match.specs.Call.{Slices as MatchSlices}
use Rattle.match_largest.specs.Call.{Promises, Slices, Room}
use Rattle.suontarvi.specs.Match.{match_result}

-- perm is what a call of `suontarvi_match` left on this pattern with some costs, which are doubles: whatever the slices
-- held before, the call answered 0 and left this perm
pub record Ours (g : Pattern) (perm : List ℕ) : Type 0 where
  pub cost : List Float
  pub doubles : Doubles (with_costs g cost)
  pub before : MatchSlices
  pub counts : List ℕ
  pub number : (match_result (with_costs g cost) before counts).answer ≡ accepted
  pub left : perm ≡ (match_result (with_costs g cost) before counts).after.slices.perm

abbrev pub OursAccepted : Pattern → List ℕ → Slices → ℕ → Type 0
OursAccepted g perm s number = Ours g perm → Room g s → number ≡ accepted

-- ---- all that `suontarvi_check_largest` promises, of the pattern, perm, the slices lent, its answer r and the slices
-- left
pub record LargestPromises (g : Pattern) (perm : List ℕ) (before : Slices) (r : ℕ) (after : Slices) : Type 0 where
  -- all that `check_largest` promises
  pub checked : Promises g perm before r after
  -- our own matches are accepted
  pub ours : OursAccepted g perm before r
