-- What the builder promises of its answer by numbers is promised of the number over C.
use Rattle.std.proofs.Common.{◌∙◌, sym}
use Rattle.refusal.specs.Listed.{whole_general_numbers}
use Rattle.suontarvi.proofs.Counted.{counted, number_told}
use Rattle.suontarvi.proofs.log_calls.suontarvi_whole_general_graph.Goals as goal

pub returns : goal.returns
returns c =
    let built = c.whole_general_graph.ensures in
    record {
      graph = counted c.whole_general_graph.result c.told.ensures whole_general_numbers built.outcome built.number;
      optimal = λ z. built.optimal (sym (number_told c.whole_general_graph.result c.told.ensures) ∙ z);
    }
