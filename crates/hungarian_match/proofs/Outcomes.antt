-- The call's answers: a refusal leaves what was lent, an accepted call leaves the match, of which the theorems of the match speak.
use mathlib.Core.Path.{◌≡◌, refl, sym, ap, ◌∙◌, subst}
use mathlib.Core.Logic.{◌≢◌}
use mathlib.Core.Bool.{Bool, true}
use Rattle.std.proofs.Common.{Result, Ok, Err}
use Prim.Native.Nat.{ℕ, ◌+◌}
use native.Mathlib.Omega.{arith}
use borrow.Author.Tests.{eqb-true}
use lib.Dec.{eqb}
use lib.ListN.{length}
use Rattle.refusal.specs.Listed.{OneOf, graph_numbers}
use Rattle.slices.specs.Outcome.{outcome_is}
use Rattle.slices.proofs.Bools.{both}
use Rattle.slices.proofs.Refusing.{refused_is}
use Rattle.hungarian.specs.Graph.{CostGraph}
use Rattle.hungarian.specs.Test.{graph_fault, graph_lengths}
use Rattle.hungarian.specs.Accepted.{Doubles}
use Rattle.hungarian.specs.Match.{hungarian_match}
use Rattle.hungarian.specs.Optimal.{LargestMatch, Optimal}
use Rattle.hungarian.specs.Work.{Work}
use Rattle.hungarian.proofs.Theorems.{match_largest, match_optimal, match_work}
use Rattle.hungarian.specs.declared.Counts.{Counts}
use Rattle.hungarian_match.specs.Call.{Slices, match_lengths, match_fault, match_outcome, finished, match_after}
use Rattle.hungarian_match.specs.Call.{Answered, Matches}
use Rattle.hungarian_match.specs.inner.Steps.{Solved}
use Rattle.hungarian_match.specs.Call.{Promised, Counted}
use Rattle.hungarian_match.proofs.Calls.{accepted_lengths}
use Rattle.hungarian_match.proofs.Tests.{match_listed}

-- ---- before the test
pub pointers_fit : (g : CostGraph) (s : Slices) → match_lengths g s ≡ true → length g.pattern.col_ptr ≡ g.pattern.n + 1
unfolding match_lengths
pointers_fit g s t = eqb-true _ _ (both (eqb (length g.pattern.col_ptr) (g.pattern.n + 1)) _ (both (graph_lengths g) _ t).0).0

pub fault_is : (g : CostGraph) (s : Slices) {fault : ℕ} {lengths : Bool} → fault ≡ graph_fault g lengths → lengths ≡ match_lengths g s
    → fault ≡ graph_fault g (match_lengths g s)
fault_is g s f l = f ∙ ap (graph_fault g) l

-- the number of a fault is one of the call's list
pub in_list : (g : CostGraph) (s : Slices) {fault : ℕ} → fault ≡ match_fault g s → OneOf graph_numbers fault
in_list g s e = subst (OneOf graph_numbers) (sym e) (match_listed g (match_lengths g s)).is

-- ---- a refusal
module _ (g : CostGraph) (s : Slices) {fault : ℕ} (e : fault ≡ graph_fault g (match_lengths g s)) (z : fault ≢ 0) where
  pub refuses : outcome_is (Err fault) s ≡ match_outcome g s
  unfolding match_outcome
  refuses = refused_is Err (finished g s) s e z

  pub refuses_by : Answered g s (Err fault)
  refuses_by = record { number = e; values = λ n. absurd (z n) }

-- a refusal is no match
pub not_matched : {fault : ℕ} {m : Counts} → ◌≡◌ {A = Result Counts ℕ} (Err fault) (Ok m) → ⊥
not_matched e = let z : ◌≡◌ {A = ℕ} 0 1 = cc in omega arith

-- ---- an accepted call
pub same : {m m' : Counts} → ◌≡◌ {A = Result Counts ℕ} (Ok m) (Ok m') → m ≡ m'
same q = cc

module _ (g : CostGraph) (s : Slices) (e : graph_fault g (match_lengths g s) ≡ 0) (d : Doubles g) where
  module _ {after : Slices} {m : Counts} (S : Solved g s after m) where
    pub finishes : outcome_is (Ok m) after ≡ match_outcome g s
    unfolding match_outcome finished
    finishes = rw (S.perm, S.u, S.v, S.work, S.fwork, S.matched, S.stats, e) refl

    pub answered : Answered g s (Ok m)
    answered = record { number = sym e; values = λ n old. rw (S.matched, S.stats) refl }

    -- what is left is the definition's match
    leaves : match_after m after ≡ hungarian_match g
    leaves = rw (S.perm, S.u, S.v, S.matched, S.stats) refl

    pub matches : Matches g (Ok m) after
    matches m' q = subst (λ (x : Counts). LargestMatch g.pattern (match_after x after)) (same q)
        (rw leaves (match_largest g (accepted_lengths g s e).accepted d))

    pub promised : Promised g (Ok m) after
    promised m' q w = subst (λ (x : Counts). Optimal g (match_after x after)) (same q) (rw leaves (match_optimal g (accepted_lengths g s e).accepted w))

    pub counted : Counted g (Ok m)
    counted m' q = subst (λ (x : Counts). Work g x.stats) (same q) (rw S.stats (match_work g (accepted_lengths g s e).accepted d))
