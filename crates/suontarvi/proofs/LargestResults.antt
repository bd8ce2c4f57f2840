-- suontarvi_check_largest: what `suontarvi_match` left is what `hungarian_match` leaves, so our own matches are accepted over C too.
use Rattle.std.proofs.Common.{◌≡◌, ◌∙◌, List, ℕ, sym, ap, subst}
use Rattle.slices.specs.Outcome.{Outcome}
use Rattle.sparse.specs.Pattern.{Pattern}
use Rattle.hungarian.specs.Graph.{with_costs}
use Rattle.match_largest.specs.Call.{Slices}
use Rattle.match_largest.specs.Call as native
use Rattle.suontarvi.specs.Match.{Lent}
use Rattle.suontarvi.specs.Largest.{Ours, LargestPromises}
use Rattle.suontarvi.proofs.MatchResults.{natively}

-- a result that answers 0 is the native call's
left_natively : (g : Pattern) (perm : List ℕ) → Ours g perm → native.Ours g perm
left_natively g perm o =
    let e = natively (with_costs g o.cost) o.before o.counts o.number in
    record {
      cost = o.cost;
      doubles = o.doubles;
      before = o.before;
      number = sym (ap (λ (t : Outcome ℕ Lent). t.answer) e) ∙ o.number;
      left = o.left ∙ ap (λ (t : Outcome ℕ Lent). t.after.slices.perm) e;
    }

pub largest_number : (g : Pattern) (perm : List ℕ) (s : Slices) {after : Slices} {r found : ℕ} → r ≡ found → native.Promises g perm s found after
    → LargestPromises g perm s r after
largest_number g perm s {after} q P =
    let checked = subst (λ (k : ℕ). native.Promises g perm s k after) (sym q) P in
    record { checked = checked; ours = λ o. checked.ours (left_natively g perm o) }
