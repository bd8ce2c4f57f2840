-- suontarvi_check_match: what `suontarvi_match` left is what `hungarian_match` leaves, so our own matches are accepted over C too.
use Rattle.std.proofs.Common.{◌≡◌, ◌∙◌, ℕ, get_or, sym, ap, subst}
use Rattle.slices.specs.Outcome.{Outcome}
use Rattle.hungarian.specs.Graph.{CostGraph}
use Rattle.match_check.specs.Check.{Claim}
use Rattle.match_check.specs.Call.{claim_left}
use Rattle.match_check.specs.Call as native
use Rattle.suontarvi.specs.Match.{Lent}
use Rattle.suontarvi.specs.Check.{Ours, CheckPromises}
use Rattle.suontarvi.proofs.MatchResults.{natively}

-- a result that answers 0 is the native call's
left_natively : (g : CostGraph) (s : Claim) → Ours g s → native.Ours g s
left_natively g s o =
    let e = natively g o.before o.counts o.number in
    record {
      costs = o.costs;
      before = o.before;
      counts = o.counts;
      number = sym (ap (λ (t : Outcome ℕ Lent). t.answer) e) ∙ o.number;
      matched = sym (ap (λ (t : Outcome ℕ Lent). get_or t.after.answer 0 0) e) ∙ o.matched;
      left = o.left ∙ ap (λ (t : Outcome ℕ Lent). claim_left t.after.slices) e;
    }

pub check_number : (g : CostGraph) (s : Claim) {r found : ℕ} → r ≡ found → native.Promises g s found → CheckPromises g s r
check_number g s q P =
    let checked = subst (native.Promises g s) (sym q) P in
    record { checked = checked; ours = λ o. checked.ours (left_natively g s o) }
