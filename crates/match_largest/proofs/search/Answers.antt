-- `search` meets its contract: the queue begins with the columns without a row, and the sweep's marks are the definition's.
use Rattle.match_largest.proofs.Searching.{starts, ends}
use Rattle.match_largest.proofs.search.Goals as goal

pub sweep-requires-clause-fact : goal.sweep-requires-clause-fact
sweep-requires-clause-fact c = let p = c.requires in
    starts p.accepted_pattern_1 p.fact.0 p.fact.1 p.accepted_pattern_2 p.met_value c.queue_free-free.ensures

pub returns : goal.returns
returns c = let p = c.requires in ends p.accepted_pattern_1 p.fact.0 p.fact.1 c.sweep.ensures
