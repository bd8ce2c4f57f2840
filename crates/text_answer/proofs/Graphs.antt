-- The entries of a file by its kind: doubles stand for their weights, and their graph has a text if no pair occurs twice.
use mathlib.Core.Path.{◌≡◌, refl}
use mathlib.Core.Bool.{false}
use mathlib.Core.List.{List}
use Prim.Native.Nat.{ℕ, ◌^◌}
use native.Mathlib.Nat.{lt_trans}
use native.Mathlib.Omega.{arith}
use borrow.Author.Tests.{ltb-true, ltb-false}
use Rattle.triplets.specs.Order.{Below}
use Rattle.text_matrix_market.specs.declared.banner.Kind.{Kind}
use Rattle.text_matrix_market.specs.declared.banner.Kind.TheVariants.{General, Symmetric, Pattern}
use Rattle.text_graph.specs.Graph.{CostsFit, file_graph}
use Rattle.text_graph.proofs.GraphCosts.{costs_small, graph_whole}
use Rattle.text_graph.proofs.GraphAccepted.{graph_accepted}
use Rattle.text_symmetric_graph.specs.Graph.{SymmetricEntries}
use Rattle.text_symmetric_graph.proofs.Whole.{symmetric_whole}
use Rattle.text_matrix_market.specs.File.{repeats}
use Rattle.text_answer.specs.Answer.{kind_graph}
use Rattle.text_answer.specs.inner.Steps.{FileEntries, Reportable}

module _ {n : ℕ} {rows cols weights output : List ℕ} where
  -- a pattern's entries have costs
  pub as_general : FileEntries Pattern n rows cols weights output → FileEntries General n rows cols weights output
  as_general f = record { few = f.few; short = f.short; inside = f.inside; sizes = f.sizes; weights_in = f.weights_in; stored = f.stored; room = f.room }

  pub as_symmetric : FileEntries Symmetric n rows cols weights output → SymmetricEntries n rows cols weights
  as_symmetric f = record {
    few = f.few;
    short = f.short;
    inside = f.inside;
    lower = λ k h. ltb-false _ _ (f.stored k h);
    sizes =
        f.sizes;
    weights_in = λ k h. ltb-true _ _ (f.weights_in k h);
  }

  -- each cost is in range
  costs_in_lem : FileEntries General n rows cols weights output → CostsFit n rows weights
  costs_in_lem f = record { same_length = f.sizes; costs_in = λ k h. ltb-true _ _ (f.weights_in k h) }

  -- each weight is below 2 ^ 53, so that a double stands for it
  pub weights_small : (kind : Kind) → FileEntries kind n rows cols weights output → Below (2 ^ 53) weights
  weights_small General f k h = lt_trans (costs_small f.inside (costs_in_lem f) k h) (omega arith)
  weights_small Symmetric f k h = ltb-true _ _ (f.weights_in k h)
  weights_small Pattern f k h = lt_trans (costs_small f.inside (costs_in_lem (as_general f)) k h) (omega arith)

  costs_text : FileEntries General n rows cols weights output → repeats rows cols ≡ false → Reportable (file_graph n rows cols weights) output
  costs_text f e = record {
    few = f.few;
    accepted = graph_accepted n rows cols weights f.few f.short f.inside (costs_in_lem f) e;
    whole_costs = graph_whole n rows cols weights f.inside (costs_in_lem f) e;
    room = f.room;
  }

  pub has_text : (kind : Kind) → FileEntries kind n rows cols weights output → repeats rows cols ≡ false
      → Reportable (kind_graph kind n rows cols weights) output
  has_text General f e = costs_text f e
  has_text Symmetric f e =
      let w = symmetric_whole n rows cols weights (as_symmetric f) e in
      record { few = f.few; accepted = w.matched; whole_costs = w.whole; room = f.room }
  has_text Pattern f e = costs_text (as_general f) e

-- it has n columns
pub order_is : (kind : Kind) (n : ℕ) (rows cols weights : List ℕ) → (kind_graph kind n rows cols weights).pattern.n ≡ n
order_is General n rows cols weights = refl
order_is Symmetric n rows cols weights = refl
order_is Pattern n rows cols weights = refl
