-- A caller with an accepted graph and slices of their lengths: `solve` leaves the definition's match, and so does the call that tests first, which
-- refuses nothing.
use mathlib.Core.Path.{◌≡◌, refl, sym, ap, ◌∙◌, subst}
use mathlib.Core.Bool.{Bool, true}
use Rattle.std.proofs.Common.{Result, Ok, Err}
use Prim.Native.Nat.{ℕ, ◌+◌, ◌*◌}
use borrow.Author.Tests.{eq-eqb}
use lib.ListN.{length, replicate}
use Rattle.limits.specs.Limits.{max_general}
use Rattle.slices.specs.Outcome.{outcome_is, Outcome}
use Rattle.float64.specs.Constants.{zero as fzero}
use Rattle.sparse.specs.Validate.{size_fault}
use Rattle.sparse.proofs.First.{or-zero}
use Rattle.sparse.proofs.Accepted.{sizes_accepted}
use Rattle.sparse.specs.Pattern.{entries}
use Rattle.hungarian.specs.Graph.{CostGraph}
use Rattle.hungarian.specs.Test.{graph_fault, graph_lengths}
use Rattle.hungarian.specs.Accepted.{Accepted}
use Rattle.hungarian.specs.Match.{hungarian_match}
use Rattle.hungarian.specs.declared.Counts.{Counts}
use Rattle.hungarian_match.specs.Call.{Slices, slices, match_outcome, match_lengths, finished, match_counts}
use Rattle.hungarian_match.specs.inner.Steps.{Solvable, Solved}
use Rattle.hungarian_match.proofs.Calls.{accepted_lengths}
use Rattle.hungarian_match.proofs.Outcomes.{not_matched, same}

module _ (g : CostGraph) (A : Accepted g) where
  pub graph_fits : graph_lengths g ≡ true
  unfolding graph_fault
  graph_fits = ((sizes_accepted g.pattern.n max_general (entries g.pattern) (graph_lengths g)).0
      (or-zero (size_fault g.pattern.n max_general (entries g.pattern) (graph_lengths g)) _ A).0).2

  -- an accepted graph has no fault, where every slice has its length
  no_fault : graph_fault g true ≡ 0
  no_fault = subst (λ (b : Bool). graph_fault g b ≡ 0) graph_fits A

  -- every slice has its length
  pub lengths_fit_lem : (s : Slices) → length s.perm ≡ g.pattern.n → length s.u ≡ g.pattern.n → length s.v ≡ g.pattern.n
      → length s.work ≡ 12 * g.pattern.n + 1
      → length s.fwork ≡ 2 * g.pattern.n → match_lengths g s ≡ true
  unfolding match_lengths
  lengths_fit_lem s p u v w f = rw (graph_fits, eq-eqb _ _ p, eq-eqb _ _ u, eq-eqb _ _ v, eq-eqb _ _ w, eq-eqb _ _ f) refl

  module _ (s : Slices) (l : match_lengths g s ≡ true) where
    pub lengths : Solvable g s
    lengths = accepted_lengths g s (rw l no_fault)

    module _ {after : Slices} {a : Result Counts ℕ} (e : outcome_is a after ≡ match_outcome g s) where
      ends : outcome_is a after ≡ finished g s
      unfolding match_outcome
      ends = e ∙ rw (l, no_fault) refl

      pub never_refused : {k : ℕ} → a ≡ Err k → ⊥
      unfolding finished
      never_refused q = not_matched (sym q ∙ ap (λ (o : Outcome (Result Counts ℕ) Slices). o.answer) ends)

      pub found_is : {m : Counts} → a ≡ Ok m → m ≡ match_counts (hungarian_match g)
      unfolding finished
      found_is q = same (sym q ∙ ap (λ (o : Outcome (Result Counts ℕ) Slices). o.answer) ends)

      pub slices_are : after
          ≡ slices (hungarian_match g).perm (hungarian_match g).u (hungarian_match g).v (replicate (length s.work) 0) (replicate (length s.fwork) fzero)
      unfolding finished
      slices_are = ap (λ (o : Outcome (Result Counts ℕ) Slices). o.after) ends

-- ---- without the test
pub solved_found : {g : CostGraph} {before after : Slices} {m : Counts} → Solved g before after m → m ≡ match_counts (hungarian_match g)
solved_found S = rw (S.matched, S.stats) refl

pub solved_slices : {g : CostGraph} {before after : Slices} {m : Counts} → Solved g before after m → after
    ≡ slices (hungarian_match g).perm (hungarian_match g).u (hungarian_match g).v (replicate (length before.work) 0)
    (replicate (length before.fwork) fzero)
solved_slices S = rw (S.perm, S.u, S.v, S.work, S.fwork) refl
