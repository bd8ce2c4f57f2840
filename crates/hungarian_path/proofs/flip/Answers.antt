-- `hungarian_path::flip`: the path's last pair is stored, and the walk does the rest, by Flips.
use Rattle.std.proofs.Common.{arith}
use Rattle.std.proofs.Math.ListN.{length-set}
use Rattle.hungarian_path.proofs.Flips.{flip_ranges, linked_ready, flip_done}
use Rattle.hungarian_path.proofs.flip.Goals as goal

pub overflow_cast-work : goal.overflow_cast-work
overflow_cast-work c = omega (arith, flip_ranges _ _ _ _ _ c.args.num c.requires.fact_1 c.requires.fact_2)

pub overflow_add-work : goal.overflow_add-work
overflow_add-work c = omega (arith, flip_ranges _ _ _ _ _ c.args.num c.requires.fact_1 c.requires.fact_2)

pub offset_bounds-work-n : goal.offset_bounds-work-n
offset_bounds-work-n c = omega (arith, flip_ranges _ _ _ _ _ c.args.num c.requires.fact_1 c.requires.fact_2)

pub bounds-work-n : goal.bounds-work-n
bounds-work-n c =
    simp length-set (omega (arith, flip_ranges _ _ _ _ _ c.args.num c.requires.fact_1 c.requires.fact_2))

pub walk-requires : goal.walk-requires
walk-requires c = linked_ready _ _ _ _ _ c.args.num c.requires.fact_1 c.requires.fact_2

pub returns : goal.returns
returns c = flip_done _ _ _ _ _ c.args.num c.requires.fact_1 c.requires.fact_2 _ c.walk.ensures
