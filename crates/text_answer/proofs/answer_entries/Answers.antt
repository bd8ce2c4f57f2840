-- `answer_entries` meets its contract: the part of the local array holds the weights as doubles, and the text is that of the entries' kind. A
-- pattern's entries have costs.
use Rattle.std.proofs.Common.{ℕ, length}
use Rattle.hungarian_match.proofs.LocalArrays.{part_holds}
use Rattle.text_graph.specs.Graph.{cost_values}
use Rattle.text_answer.proofs.Files.{weights_few, cost_entries, cost_told}
use Rattle.text_answer.proofs.Graphs.{weights_small}
use Rattle.text_answer.proofs.answer_entries.Goals as goal

pub set_values-requires-clause-below : goal.set_values-requires-clause-below
set_values-requires-clause-below c = weights_small _ c.requires

pub answer_triplets-requires : goal.answer_triplets-requires
answer_triplets-requires c =
    let weights = c.args.weights.now in
    cost_entries c.in-General.is c.requires
    (part_holds (length weights) 512 _ c.set_values.new.values (weights_few c.requires) c.set_values.auto.values (λ (_ : ℕ). cost_values weights)
    c.set_values.ensures)

pub returns-in-General : goal.returns-in-General
returns-in-General c =
    let a = c.args in
    let weights = a.weights.now in
    let values = part_holds (length weights) 512 _ c.set_values.new.values (weights_few c.requires) c.set_values.auto.values
    (λ (_ : ℕ). cost_values weights) c.set_values.ensures in
    record {
      text = cost_told a.form a.n a.rows.now a.cols.now weights a.output.now c.in-General.is (c.answer_triplets.ensures.text weights values);
      fits = c.answer_triplets.ensures.fits;
    }
