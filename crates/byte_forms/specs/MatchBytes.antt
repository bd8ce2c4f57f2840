-- SPECIFICATION 12.3: suontarvi_match_bytes: a graph given as bytes, low byte first, and its match left as bytes.
use Rattle.std.specs.Prelude.{◌≡◌, Bool, true, ◌&&◌, List, ℕ, ◌+◌, ◌*◌, ◌/◌, leb, eqb, length, get_or}
use Rattle.refusal.specs.Refusal.{accepted, too_many_columns, too_many_entries, slice_length}
use Rattle.slices.specs.Outcome.{Outcome, outcome_is, refusing, as_number}
use Rattle.sparse.specs.Fault.{unless, or_else}
use Rattle.hungarian.specs.Graph.{CostGraph, graph_of}
use Rattle.hungarian.specs.Test.{graph_fault}
use Rattle.hungarian.specs.Match.{Matching, hungarian_match}
use Rattle.hungarian.specs.Counts.{counts}
use Rattle.hungarian.specs.Optimal.{LargestMatch, Optimal, WholeCosts}
use Rattle.hungarian.specs.Work.{Work}
use Rattle.hungarian_match.specs.Call.{match_counts, counts_of, answer_length}
use Rattle.byte_numbers.specs.Bytes.{words, longs, doubles, all_bytes, word_bytes, double_bytes}

-- the most columns and entries of a graph given as bytes
abbrev pub byte_columns : ℕ
byte_columns = 256

abbrev pub byte_entries : ℕ
byte_entries = 2048

-- a graph of n columns as bytes
pub record GraphBytes : Type 0 where
  pub n : ℕ
  pub col_ptr : List ℕ
  pub rows : List ℕ
  pub cost : List ℕ

abbrev pub graph_bytes : ℕ → List ℕ → List ℕ → List ℕ → GraphBytes
graph_bytes n col_ptr rows cost = record { n = n; col_ptr = col_ptr; rows = rows; cost = cost }

-- what is lent for the result
pub record MatchBytes : Type 0 where
  pub perm : List ℕ
  pub u : List ℕ
  pub v : List ℕ
  pub answer : List ℕ

abbrev pub match_bytes : List ℕ → List ℕ → List ℕ → List ℕ → MatchBytes
match_bytes perm u v answer = record { perm = perm; u = u; v = v; answer = answer }

-- the entry count: the whole words among the bytes of the rows
abbrev pub word_count : ℕ → ℕ
word_count rows = rows / 4

-- whether every byte slice has its length; all numbers are lengths
unfoldable pub byte_lengths : (n col_ptr rows cost perm u v answer : ℕ) → Bool
byte_lengths n col_ptr rows cost perm u v answer =
    eqb col_ptr (4 * (n + 1))
    && (eqb rows (4 * word_count rows)
    && (eqb cost (8 * word_count rows)
    && (eqb perm (4 * n)
    && (eqb u (8 * n)
    && (eqb v (8 * n) && eqb answer (8 * answer_length))))))

-- 1, 2, 3: n, the entry count, and whether every slice has its length
unfoldable pub byte_sizes : (n col_ptr rows cost perm u v answer : ℕ) → ℕ
unfolding byte_lengths
byte_sizes n col_ptr rows cost perm u v answer =
    or_else (unless (leb n byte_columns) too_many_columns)
    (or_else (unless (leb (word_count rows) byte_entries) too_many_entries)
    (unless (byte_lengths n col_ptr rows cost perm u v answer) slice_length))

-- the graph that the bytes stand for
unfoldable pub graph_read : GraphBytes → CostGraph
unfolding words doubles
graph_read b =
    graph_of b.n (words b.col_ptr (b.n + 1)) (words b.rows (word_count (length b.rows)))
    (doubles b.cost (word_count (length b.rows)))

-- a match as bytes: perm, u, v, and the matched count with the seven counts, 8 bytes each
unfoldable pub match_laid : Matching → MatchBytes
unfolding word_bytes double_bytes all_bytes
match_laid m =
    match_bytes (word_bytes m.perm) (double_bytes m.u) (double_bytes m.v) (all_bytes 8 (counts_of (match_counts m)))

-- the match of n columns that bytes stand for
unfoldable pub match_read : ℕ → MatchBytes → Matching
unfolding words longs doubles
match_read n s =
    let found = longs s.answer answer_length in
    record {
      perm = words s.perm n;
      u = doubles s.u n;
      v = doubles s.v n;
      matched = get_or found 0 0;
      stats = counts (get_or found 1 0) (get_or found 2 0) (get_or found 3 0) (get_or found 4 0) (get_or found 5 0)
          (get_or found 6 0) (get_or found 7 0);
    }

-- the number answered and the bytes left, by the fault
unfoldable pub result_by : ℕ → CostGraph → MatchBytes → Outcome ℕ MatchBytes
unfolding match_laid
result_by fault g old = refusing as_number fault (outcome_is accepted (match_laid (hungarian_match g))) old

-- the first thing wrong with the sizes, then with the graph, or 0
unfoldable pub bytes_fault : GraphBytes → MatchBytes → ℕ
unfolding byte_sizes graph_read
bytes_fault b old =
    or_else
    (byte_sizes b.n (length b.col_ptr) (length b.rows) (length b.cost) (length old.perm) (length old.u)
    (length old.v) (length old.answer))
    (graph_fault (graph_read b) true)

-- what `suontarvi_match_bytes` does
unfoldable pub match_bytes_result : GraphBytes → MatchBytes → Outcome ℕ MatchBytes
unfolding result_by bytes_fault graph_read
match_bytes_result b old = result_by (bytes_fault b old) (graph_read b) old

-- what holds for any accepted costs, of the match that the bytes left stand for
abbrev pub BytesMatch : GraphBytes → Outcome ℕ MatchBytes → Type 0
BytesMatch b t = t.answer ≡ accepted → LargestMatch (graph_read b).pattern (match_read b.n t.after)

-- demand 3, for whole costs
abbrev pub BytesPromised : GraphBytes → Outcome ℕ MatchBytes → Type 0
BytesPromised b t =
    t.answer ≡ accepted → WholeCosts (graph_read b) → Optimal (graph_read b) (match_read b.n t.after)

-- its counts are bounded
abbrev pub BytesCounted : GraphBytes → Outcome ℕ MatchBytes → Type 0
BytesCounted b t = t.answer ≡ accepted → Work (graph_read b) (match_read b.n t.after).stats
