-- What the builder promises of its answer by numbers is promised of the number over C.
use Rattle.refusal.specs.Listed.{symmetric_graph_numbers}
use Rattle.suontarvi.proofs.Counted.{counted}
use Rattle.suontarvi.proofs.graph_calls.suontarvi_symmetric_graph.Goals as goal

pub returns : goal.returns
returns c =
    let built = c.build_cost_graph.ensures in
    counted c.build_cost_graph.result c.told.ensures symmetric_graph_numbers built.outcome built.number
