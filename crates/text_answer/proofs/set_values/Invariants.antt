-- `set_values` meets its contract. The loop's invariant: the values before k are the weights'.
use Rattle.std.proofs.Common.{◌≡◌, take}
use Rattle.text_graph.specs.Graph.{cost_values}
use Rattle.text_answer.proofs.set_values.Given as goal

abbrev pub invariant-loop-k : goal.invariant-loop-k
invariant-loop-k l = take l.k l.values ≡ take l.k (cost_values l.weights)
