-- The entries of a symmetric file: the graph that the builder leaves of them has a text, and that is theirs.
use mathlib.Core.Path.{◌≡◌, refl, sym, ap, subst, ◌∙◌}
use mathlib.Core.Bool.{true}
use mathlib.Core.List.{List}
use Prim.Native.Nat.{ℕ}
use lib.ListN.{take}
use lib.Ieee.{Float}
use Rattle.refusal.specs.Refusal.{repeated_pair}
use Rattle.triplets.specs.Built.{triplets}
use Rattle.text_matrix_market.specs.declared.banner.Kind.TheVariants.{Symmetric}
use Rattle.hungarian.specs.Graph.{CostGraph, graph_of}
use Rattle.text_graph.specs.Graph.{cost_values}
use Rattle.text_symmetric_graph.specs.Graph.{SymmetricValues, triplet_graph, symmetric_graph}
use Rattle.text_symmetric_graph.specs.inner.Steps.{HoldsGraph, Answers}
use Rattle.text_report.specs.declared.Form.{Form}
use Rattle.text_report.specs.Report.{refused_text}
use Rattle.text_matrix_market.specs.File.{repeats}
use Rattle.text_answer.specs.Answer.{graph_text}
use Rattle.text_answer.specs.inner.Steps.{Entries, entries_text, Reportable}
use Rattle.text_answer.proofs.Graphs.{as_symmetric, has_text}

module _ {n : ℕ} {rows cols : List ℕ} {values : List Float} {output : List ℕ} (S : Entries Symmetric n rows cols values output) where
  module _ (graph_ptr graph_rows : List ℕ) (cost : List Float) where
    -- the graph as it is lent on
    module _ {kept : ℕ} (H : HoldsGraph n (triplets rows cols values) graph_ptr graph_rows cost kept) {ptr idx : List ℕ} {costs : List Float}
        (p : ptr ≡ graph_ptr) (r : idx ≡ take kept graph_rows) (c : costs ≡ take kept cost) where
      graph_is : (weights : List ℕ) → values ≡ cost_values weights → graph_of n ptr idx costs ≡ symmetric_graph n rows cols weights
      graph_is weights v = (λ z. graph_of n (p z) (r z) (c z)) ∙ H.graph ∙ ap (λ (x : List Float). triplet_graph n (triplets rows cols x)) v

      pub reportable : Reportable (graph_of n ptr idx costs) output
      reportable = subst (λ (g : CostGraph). Reportable g output) (sym (graph_is S.weights S.valued)) (has_text Symmetric S.held H.once)

      pub graph_text_lem : (form : Form) (weights : List ℕ) → values ≡ cost_values weights
          → graph_text form (graph_of n ptr idx costs) ≡ entries_text form Symmetric n rows cols weights
      unfolding entries_text
      graph_text_lem form weights v = ap (graph_text form) (graph_is weights v) ∙ rw H.once refl

  pub repeated_text : (form : Form) → repeats rows cols ≡ true → (weights : List ℕ) → refused_text repeated_pair ≡ entries_text form Symmetric n rows cols weights
  unfolding entries_text
  repeated_text form e weights = rw e refl
