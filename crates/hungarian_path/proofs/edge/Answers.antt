-- `hungarian_path::edge`: each return is a law of Edges, from the tests on its way.
use Rattle.hungarian_path.proofs.Edges.{edge_far, edge_popped, edge_reach, edge_relax}
use Rattle.hungarian_path.proofs.edge.Goals as goal

pub returns-then-x-bound : goal.returns-then-x-bound
returns-then-x-bound c = edge_far _ _ _ _ _ _ _ _ _ _ c.requires (rw c.least-bound.ensures at c.if-x-bound.true)

pub returns-then-pos-i : goal.returns-then-pos-i
returns-then-pos-i c =
    edge_popped _ _ _ _ _ _ _ _ _ _ c.requires (rw c.least-bound.ensures at c.if-x-bound.false) c.if-pos-i.true

pub returns-then-work-i : goal.returns-then-work-i
returns-then-work-i c =
    edge_reach _ _ _ _ _ _ _ _ _ _ c.requires (rw c.least-bound.ensures at c.if-x-bound.false) c.if-pos-i.false
    c.if-work-i.true

pub returns : goal.returns
returns c =
    edge_relax _ _ _ _ _ _ _ _ _ _ c.requires (rw c.least-bound.ensures at c.if-x-bound.false) c.if-pos-i.false
    c.if-work-i.false _ _ _ _ _ c.relax.ensures
