-- `set_values` meets its contract: each turn sets one more value.
use Rattle.std.proofs.Common.{ℕ, pos, sym, arith}
use lib.ListN.{length-map}
use lib.Ieee.{nan, binary64, of_int}
use Rattle.slices.proofs.Lists.{copied}
use Rattle.text_graph.specs.Graph.{cost_values}
use Rattle.text_graph.proofs.GraphCosts.{map_at, cost_casts}
use Rattle.text_answer.proofs.set_values.Goals as goal

pub loop-k-preserved : goal.loop-k-preserved
loop-k-preserved c =
    let weights = c.args.weights.now in
    copied _ (cost_values weights) c.loop-k.k _ nan (omega arith)
    (rw (length-map weights (λ (x : ℕ). of_int binary64 (pos x))) (omega arith))
    (sym (map_at (λ (x : ℕ). of_int binary64 (pos x)) weights c.loop-k.k (omega arith))) c.loop-k.invariant
