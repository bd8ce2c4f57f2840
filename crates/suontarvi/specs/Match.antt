-- SPECIFICATION 5.1: suontarvi_match: what hungarian_match does, with the answer as a number, the matched count and the
-- seven counts.
use Rattle.std.specs.Prelude.{◌≡◌, false, cond, List, ℕ, eqb, Result, length, get_or}
use Rattle.limits.specs.Limits.{max_general}
use Rattle.refusal.specs.Refusal.{accepted}
use Rattle.refusal.specs.Listed.{OneOf, graph_numbers}
use Rattle.refusal.specs.Number.{fault_of}
use Rattle.slices.specs.Outcome.{Outcome, outcome_is, refusing, as_number}
use Rattle.sparse.specs.Validate.{size_fault}
use Rattle.sparse.specs.Pattern.{entries}
use Rattle.hungarian.specs.Graph.{CostGraph}
use Rattle.hungarian.specs.Counts.{counts}
use Rattle.hungarian.specs.declared.Counts.{Counts}
use Rattle.hungarian.specs.Match.{Matching}
use Rattle.hungarian.specs.Optimal.{LargestMatch, Optimal, WholeCosts}
use Rattle.hungarian.specs.Work.{Work}
use Rattle.hungarian_match.specs.Call.{Slices, counts_left, answer_length, match_fault, finished}
use Rattle.byte_forms.specs.MatchBytes.{GraphBytes, MatchBytes, match_bytes_result}
use Rattle.byte_forms.specs.MatchBytes.{BytesMatch, BytesPromised, BytesCounted}

-- what is lent: the slices of the match, and eight places for its counts
pub record Lent : Type 0 where
  pub slices : Slices
  pub answer : List ℕ

abbrev pub lent : Slices → List ℕ → Lent
lent slices answer = record { slices = slices; answer = answer }

-- an outcome of the match as a number and counts
abbrev pub match_result_of : Outcome (Result Counts ℕ) Slices → List ℕ → Outcome ℕ Lent
match_result_of o old = outcome_is (fault_of o.answer) (lent o.after (counts_left o.answer old))

-- the first thing wrong, or 0. A wrong length of the answer is a wrong length: 1 and 2 come before it
unfoldable pub result_fault : CostGraph → Slices → List ℕ → ℕ
result_fault g s old =
    cond (eqb (length old) answer_length) (match_fault g s)
    (size_fault g.pattern.n max_general (entries g.pattern) false)

-- what `suontarvi_match` does
unfoldable pub match_result : CostGraph → Slices → List ℕ → Outcome ℕ Lent
unfolding result_fault
match_result g s old =
    refusing as_number (result_fault g s old) (match_result_of (finished g s) old) (lent s old)

-- what an accepted call leaves, as a match of the graph
abbrev pub match_of_result : Slices → List ℕ → Matching
match_of_result s answer =
    record {
      perm = s.perm;
      u = s.u;
      v = s.v;
      matched = get_or answer 0 0;
      stats = counts (get_or answer 1 0) (get_or answer 2 0) (get_or answer 3 0) (get_or answer 4 0) (get_or answer 5 0)
          (get_or answer 6 0) (get_or answer 7 0);
    }

-- for any accepted costs perm's pairs are entries and a largest matching, complete if the graph has a complete one
abbrev pub ResultMatches : CostGraph → Outcome ℕ Lent → Type 0
ResultMatches g t =
    t.answer ≡ accepted → LargestMatch g.pattern (match_of_result t.after.slices t.after.answer)

-- demand 3 for what the call leaves: with whole costs also least total, with duals that show it
abbrev pub ResultPromised : CostGraph → Outcome ℕ Lent → Type 0
ResultPromised g t =
    t.answer ≡ accepted → WholeCosts g → Optimal g (match_of_result t.after.slices t.after.answer)

-- the counts are bounded
abbrev pub ResultCounted : CostGraph → Outcome ℕ Lent → Type 0
ResultCounted g t = t.answer ≡ accepted → Work g (match_of_result t.after.slices t.after.answer).stats

-- ---- all that the calls promise
-- `suontarvi_match`, of the graph, what was lent and the result t
pub record MatchPromises (g : CostGraph) (before : Slices) (old : List ℕ) (t : Outcome ℕ Lent) : Type 0 where
  -- the number and every slice left are the definition's
  pub outcome : t ≡ match_result g before old
  -- the number is one of the call's list
  pub number : OneOf graph_numbers t.answer
  -- the pairs are entries and a largest matching, for any accepted costs
  pub matching : ResultMatches g t
  -- with whole costs it is optimal, and the duals show it
  pub optimal : ResultPromised g t
  -- the counts are bounded
  pub counts : ResultCounted g t

-- `suontarvi_match_bytes`, of what the bytes read back as
pub record MatchBytesPromises (b : GraphBytes) (old : MatchBytes) (t : Outcome ℕ MatchBytes) : Type 0 where
  -- the number and every byte left are the definition's
  pub outcome : t ≡ match_bytes_result b old
  -- the pairs are entries and a largest matching, for any accepted costs
  pub matching : BytesMatch b t
  -- with whole costs it is optimal, and the duals show it
  pub optimal : BytesPromised b t
  -- the counts are bounded
  pub counts : BytesCounted b t
  -- the number is one of the call's list
  pub number : OneOf graph_numbers t.answer
