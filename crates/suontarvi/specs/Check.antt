-- SPECIFICATION 5.15: suontarvi_check_match: what a host may rely on for its own matches, by what suontarvi_match left.
use Rattle.std.specs.Prelude.{◌≡◌, List, ℕ, get_or}
use Rattle.refusal.specs.Refusal.{accepted}
use Rattle.hungarian.specs.Graph.{CostGraph}
use Rattle.hungarian.specs.Optimal.{WholeCosts}
use Rattle.hungarian_match.specs.Call.{Slices}
use Rattle.match_check.specs.Check.{Claim}
use Rattle.match_check.specs.Call.{Promises, claim_left}
use Rattle.suontarvi.specs.Match.{match_result}

-- the claim is what a call of `suontarvi_match` left on this graph: its costs are whole, and whatever the slices held
-- before, the call answered 0, its first count is n, and it left this perm, u and v
pub record Ours (g : CostGraph) (s : Claim) : Type 0 where
  pub costs : WholeCosts g
  pub before : Slices
  pub counts : List ℕ
  pub number : (match_result g before counts).answer ≡ accepted
  pub matched : get_or (match_result g before counts).after.answer 0 0 ≡ g.pattern.n
  pub left : s ≡ claim_left (match_result g before counts).after.slices

abbrev pub OursAccepted : CostGraph → Claim → ℕ → Type 0
OursAccepted g s number = Ours g s → number ≡ accepted

-- ---- all that `suontarvi_check_match` promises, of the graph, the claim and its number r
pub record CheckPromises (g : CostGraph) (s : Claim) (r : ℕ) : Type 0 where
  -- all that `check_match` promises
  pub checked : Promises g s r
  -- our own complete matches of whole costs are accepted
  pub ours : OursAccepted g s r
