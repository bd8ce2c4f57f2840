-- What the inner functions require and promise.
use Rattle.std.specs.Prelude.{◌≡◌, true, false, cond, List, ℕ, ◌≤◌, ◌<◌, length, get_or, Float}
use Rattle.refusal.specs.Refusal.{repeated_pair}
use Rattle.text_matrix_market.specs.declared.banner.Kind.{Kind}
use Rattle.text_matrix_market.specs.File.{weight_fits, is_upper, repeats}
use Rattle.hungarian.specs.Graph.{CostGraph}
use Rattle.hungarian.specs.Accepted.{Accepted}
use Rattle.hungarian.specs.Optimal.{WholeCosts}
use Rattle.text_graph.specs.Graph.{Inside, cost_values}
use Rattle.text_report.specs.declared.Form.{Form}
use Rattle.text_report.specs.Report.{refused_text}
use Rattle.text_report.specs.inner.Steps.{output_length}
use Rattle.text_answer.specs.Answer.{ReportAnswer, graph_text, kind_graph, report_written}

-- entries that a file of a kind may have, and room for the text
pub record FileEntries (kind : Kind) (n : ℕ) (rows cols weights output : List ℕ) : Type 0 where
  pub few : n ≤ 64
  pub short : length rows ≤ 512
  pub inside : Inside n rows cols
  pub sizes : length weights ≡ length rows
  pub weights_in : (k : ℕ) → k < length weights → weight_fits kind n (get_or weights k 0) ≡ true
  pub stored : (k : ℕ) → k < length rows → is_upper kind (get_or rows k 0) (get_or cols k 0) ≡ false
  pub room : length output ≡ output_length

-- the same with the weights as doubles
pub record Entries (kind : Kind) (n : ℕ) (rows cols : List ℕ) (values : List Float) (output : List ℕ) : Type 0 where
  pub weights : List ℕ
  pub held : FileEntries kind n rows cols weights output
  pub valued : values ≡ cost_values weights

-- the text of entries: 25 last
unfoldable pub entries_text : Form → Kind → ℕ → (rows cols weights : List ℕ) → List ℕ
entries_text form kind n rows cols weights =
    cond (repeats rows cols) (refused_text repeated_pair) (graph_text form (kind_graph kind n rows cols weights))

-- it is written, whatever weights the doubles stand for
abbrev pub EntriesReported : Form → Kind → ℕ → List ℕ → List ℕ → List Float → List ℕ → ReportAnswer → Type 0
EntriesReported form kind n rows cols values old reported =
    (weights : List ℕ) → values ≡ cost_values weights
    → reported ≡ report_written (entries_text form kind n rows cols weights) old

-- a graph that has a text, and room for it
pub record Reportable (g : CostGraph) (output : List ℕ) : Type 0 where
  pub few : g.pattern.n ≤ 64
  pub accepted : Accepted g
  pub whole_costs : WholeCosts g
  pub room : length output ≡ output_length
