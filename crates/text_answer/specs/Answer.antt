-- SPECIFICATION 11.5: The text for every input: the refusal of its tie file, or the match of its file's graph, as a
-- report or as pairs.
use Rattle.std.specs.Prelude.{◌≡◌, List, map, ℕ, ◌≤◌, length, take}
use Rattle.std.proofs.lemmas.List.Edits.{sets}
use Rattle.text_matrix_market.specs.declared.banner.Kind.{Kind}
use Rattle.text_matrix_market.specs.declared.banner.Kind.TheVariants.{General, Symmetric, Pattern}
use Rattle.text_matrix_market.specs.declared.stages.Entry.{Entry}
use Rattle.text_matrix_market.specs.File.{Reading, file, refusal, file_of, entry_row, entry_column, entry_weight}
use Rattle.text_tie_file.specs.File.{IsFile}
use Rattle.text_tie_file.specs.Refused.{IsRefused}
use Rattle.hungarian.specs.Graph.{CostGraph}
use Rattle.hungarian.specs.Match.{hungarian_match}
use Rattle.hungarian_match.specs.Call.{match_counts, counts_of}
use Rattle.text_graph.specs.Graph.{file_graph}
use Rattle.text_symmetric_graph.specs.Graph.{symmetric_graph}
use Rattle.text_report.specs.declared.Form.{Form}
use Rattle.text_report.specs.declared.Form.TheVariants.{Pairs}
use Rattle.text_report.specs.Form.{form_text}
use Rattle.text_report.specs.Report.{refused_text}
use Rattle.text_pairs_read.specs.Pairs.{pair_entries}

-- the text of a graph's match
unfoldable pub graph_text : Form → CostGraph → List ℕ
graph_text form g =
    let m = hungarian_match g in form_text form g.pattern.n m.perm m.u m.v (counts_of (match_counts m))

-- the graph of a file's entries, by its kind: a symmetric file has values, the others costs
abbrev pub kind_graph : Kind → ℕ → (rows cols weights : List ℕ) → CostGraph
kind_graph General n rows cols weights = file_graph n rows cols weights
kind_graph Symmetric n rows cols weights = symmetric_graph n rows cols weights
kind_graph Pattern n rows cols weights = file_graph n rows cols weights

abbrev pub entries_graph : Kind → ℕ → List Entry → CostGraph
entries_graph kind n entries =
    kind_graph kind n (map entry_row entries) (map entry_column entries) (map entry_weight entries)

unfoldable pub text_of : Form → Reading → List ℕ
text_of form (refusal number) = refused_text number
text_of form (file kind n entries) = graph_text form (entries_graph kind n entries)

-- what `ties` prints, a report, and what `pairs` prints
unfoldable pub answer_text : Form → List ℕ → List ℕ
answer_text form input = text_of form (file_of input)

-- ---- pairs that are read again
-- the row of each column in the match of a file
abbrev pub file_rows : Kind → ℕ → List Entry → List ℕ
file_rows kind n entries = (hungarian_match (entries_graph kind n entries)).perm

-- a text that is the pattern file of a file's matched pairs; the match of that text is these pairs, and prints the same
-- text
pub record ReadAgain (kind : Kind) (n : ℕ) (entries : List Entry) (text : List ℕ) : Type 0 where
  pub pairs : file_of text ≡ file Pattern n (pair_entries n (file_rows kind n entries))
  pub rows : file_rows Pattern n (pair_entries n (file_rows kind n entries)) ≡ file_rows kind n entries
  pub same : answer_text Pairs text ≡ text

-- ---- the call
-- one more byte than an input may have
abbrev pub buffer_length : ℕ
buffer_length = 32769

-- the length answered, and what the output then holds
pub record ReportAnswer : Type 0 where
  pub length : ℕ
  pub output : List ℕ

abbrev pub report_answer : ℕ → List ℕ → ReportAnswer
report_answer length output = record { length = length; output = output }

-- a text written over the front of the output
abbrev pub report_written : List ℕ → List ℕ → ReportAnswer
report_written text old = report_answer (length text) (sets old 0 text)

-- the answer is that of any input whose first bytes, as many as the buffer takes, are these
abbrev pub Whole : Form → ℕ → List ℕ → List ℕ → ReportAnswer → Type 0
Whole form count buffer old reported =
    (input : List ℕ) → take (length buffer) input ≡ take count buffer
    → reported ≡ report_written (answer_text form input) old

-- by what the input is: the text of a file is that of its match, and the text of an input that is to be refused with k
-- is that refusal. Theorem `file_or_refused` of text_tie_file: every input is one of the two
abbrev pub ByInput : Form → ℕ → List ℕ → List ℕ → ReportAnswer → Type 0
ByInput form count buffer old reported =
    (input : List ℕ) → take (length buffer) input ≡ take count buffer
    → ((kind : Kind) (n : ℕ) (entries : List Entry) → IsFile input kind n entries
    → reported ≡ report_written (graph_text form (entries_graph kind n entries)) old)
    × ((k : ℕ) → IsRefused input k → reported ≡ report_written (refused_text k) old)

-- if a file is read and its pairs are asked for, the text left at the front is read again as these pairs
abbrev pub Again : Form → ℕ → List ℕ → ReportAnswer → Type 0
Again form count buffer reported =
    (kind : Kind) (n : ℕ) (entries : List Entry) → form ≡ Pairs → file_of (take count buffer) ≡ file kind n entries
    → ReadAgain kind n entries (take reported.length reported.output)

-- ---- all that `answer` promises, of the form, the buffer with its count of bytes, the output lent, its answer r and
-- the output left
pub record Promises (form : Form) (count : ℕ) (buffer before : List ℕ) (r : ℕ) (after : List ℕ) : Type 0 where
  -- the length answered and the output left are the definition's
  pub text : report_answer r after ≡ report_written (answer_text form (take count buffer)) before
  -- they are those of every input whose first bytes these are
  pub whole : Whole form count buffer before (report_answer r after)
  -- a file has the text of its match, an input that is to be refused the text of its refusal
  pub file : ByInput form count buffer before (report_answer r after)
  -- the pairs of a file are read again as the same pairs
  pub again : Again form count buffer (report_answer r after)
  -- the text fits the output
  pub fits : r ≤ length after
