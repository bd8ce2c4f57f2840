-- SPECIFICATION 5.1: What `hungarian_match` answers, and what it leaves in every lent slice.
use Rattle.std.specs.Prelude.{◌≡◌, Bool, ◌&&◌, List, ◌∷◌, ℕ, ◌+◌, ◌*◌, eqb, length, replicate, Result, Ok, Err, Float}
use Rattle.refusal.specs.Refusal.{accepted}
use Rattle.refusal.specs.Number.{fault_of}
use Rattle.refusal.specs.Listed.{OneOf, graph_numbers}
use Rattle.slices.specs.Outcome.{Outcome, outcome_is, refusing}
use Rattle.float64.specs.Constants.{zero as fzero}
use Rattle.hungarian.specs.Graph.{CostGraph}
use Rattle.hungarian.specs.Counts.{count_list}
use Rattle.hungarian.specs.Test.{graph_fault, graph_lengths}
use Rattle.hungarian.specs.Match.{Matching, hungarian_match}
use Rattle.hungarian.specs.Optimal.{LargestMatch, Optimal, WholeCosts}
use Rattle.hungarian.specs.Work.{Work}
use Rattle.hungarian.specs.declared.Counts.{Counts}

-- what is lent for the result, and the work
pub record Slices : Type 0 where
  pub perm : List ℕ
  pub u : List Float
  pub v : List Float
  pub work : List ℕ
  pub fwork : List Float

abbrev pub slices : List ℕ → List Float → List Float → List ℕ → List Float → Slices
slices perm u v work fwork = record { perm = perm; u = u; v = v; work = work; fwork = fwork }

-- whether every slice has its length
unfoldable pub match_lengths : CostGraph → Slices → Bool
match_lengths g s =
    graph_lengths g
    && (eqb (length s.perm) g.pattern.n
    && (eqb (length s.u) g.pattern.n
    && (eqb (length s.v) g.pattern.n
    && (eqb (length s.work) (12 * g.pattern.n + 1) && eqb (length s.fwork) (2 * g.pattern.n)))))

-- the first thing wrong, or 0
abbrev pub match_fault : CostGraph → Slices → ℕ
match_fault g s = graph_fault g (match_lengths g s)

-- the matched count and the seven counts
abbrev pub match_counts : Matching → Counts
match_counts m = record { matched = m.matched; stats = m.stats }

-- the same as a list
abbrev pub counts_of : Counts → List ℕ
counts_of m = m.matched ∷ count_list m.stats

-- the length of that list
abbrev pub answer_length : ℕ
answer_length = 8

-- ---- SPECIFICATION's number and values of each case of the answer: the counts of a match, or the number of a refusal
-- what a list for the counts then holds: the counts of a match, or what it held if there is none
abbrev pub counts_left : Result Counts ℕ → List ℕ → List ℕ
counts_left (Ok m) old = counts_of m
counts_left (Err number) old = old

-- ---- what the call does
-- perm, u and v are the match's, the work is zero
unfoldable pub finished : CostGraph → Slices → Outcome (Result Counts ℕ) Slices
finished g s =
    outcome_is (Ok (match_counts (hungarian_match g)))
    (slices (hungarian_match g).perm (hungarian_match g).u (hungarian_match g).v
    (replicate (length s.work) 0) (replicate (length s.fwork) fzero))

-- what `hungarian_match` does
unfoldable pub match_outcome : CostGraph → Slices → Outcome (Result Counts ℕ) Slices
unfolding finished match_lengths
match_outcome g s = refusing Err (match_fault g s) (finished g s) s

-- what an accepted call leaves, as a match of the graph
abbrev pub match_after : Counts → Slices → Matching
match_after m s = record { perm = s.perm; u = s.u; v = s.v; matched = m.matched; stats = m.stats }

-- the number is that of the first fault, and the counts of an accepted graph are those of its match
pub record Answered (g : CostGraph) (s : Slices) (answer : Result Counts ℕ) : Type 0 where
  pub number : fault_of answer ≡ match_fault g s
  pub values : fault_of answer ≡ accepted → (old : List ℕ)
      → counts_left answer old ≡ counts_of (match_counts (hungarian_match g))

-- for any accepted costs perm's pairs are entries and a largest matching, complete if the graph has a complete one
abbrev pub Matches : CostGraph → Result Counts ℕ → Slices → Type 0
Matches g answer after = (m : Counts) → answer ≡ Ok m → LargestMatch g.pattern (match_after m after)

-- demand 3 for what the call leaves: with whole costs also least total, with duals that show it
abbrev pub Promised : CostGraph → Result Counts ℕ → Slices → Type 0
Promised g answer after = (m : Counts) → answer ≡ Ok m → WholeCosts g → Optimal g (match_after m after)

-- the counts are bounded
abbrev pub Counted : CostGraph → Result Counts ℕ → Type 0
Counted g answer = (m : Counts) → answer ≡ Ok m → Work g m.stats

-- ---- all that `hungarian_match` promises, of the graph, what was lent, its answer r and what is left
pub record Promises (g : CostGraph) (before : Slices) (r : Result Counts ℕ) (after : Slices) : Type 0 where
  -- the answer and every slice left are the definition's
  pub outcome : outcome_is r after ≡ match_outcome g before
  -- the number is that of the first fault, and the counts of an accepted graph are those of its match
  pub answer : Answered g before r
  -- the pairs are entries and a largest matching, for any accepted costs
  pub matching : Matches g r after
  -- with whole costs it is optimal, and the duals show it
  pub optimal : Promised g r after
  -- the counts are bounded
  pub counts : Counted g r
  -- the number is one of the call's list
  pub number : OneOf graph_numbers (fault_of r)
