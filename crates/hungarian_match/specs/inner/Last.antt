-- The pairs, the row duals and the counts from which the match is finished: those of phases 1 to 3 if they match every
-- column, else those after the searches.
use Rattle.std.specs.Prelude.{cond, List, eqb, Float}
use Rattle.hungarian.specs.declared.HungarianStats.{HungarianStats}
use Rattle.hungarian.specs.Graph.{CostGraph}
use Rattle.hungarian.specs.Init.{Pairs, phase1}
use Rattle.hungarian.specs.Match.{empty_rows_zeroed, initial, searched}

unfoldable pub last_pairs : CostGraph → Pairs
last_pairs g =
    cond (eqb (initial g).pairs.num g.pattern.n) (initial g).pairs
    (searched g (empty_rows_zeroed (phase1 g).u) (initial g)).pairs

unfoldable pub last_duals : CostGraph → List Float
last_duals g =
    cond (eqb (initial g).pairs.num g.pattern.n) (empty_rows_zeroed (phase1 g).u)
    (searched g (empty_rows_zeroed (phase1 g).u) (initial g)).u

unfoldable pub last_counts : CostGraph → HungarianStats
last_counts g =
    cond (eqb (initial g).pairs.num g.pattern.n) (initial g).stats
    (searched g (empty_rows_zeroed (phase1 g).u) (initial g)).stats
