-- One block more has its factors, and at last the rest.
use Rattle.std.proofs.Common.{◌≡◌, ◌*◌, ◌/◌, ◌+◌, ◌-◌, length, arith}
use Rattle.infnorm_blocks.proofs.Rows.{block_next, all_scaled}
use Rattle.infnorm_blocks.proofs.scale_rows.Goals as goal

pub loop-i-preserved : goal.loop-i-preserved
loop-i-preserved c =
    let l = c.loop-i in
    record {
      room = omega arith;
      scaled = block_next c.args.maxima.now l.maxima (l.i * 16) l.invariant.scaled (l.i * 16 + 16 - l.i * 16) ((l.i + 1) * 16) (omega arith) (omega arith) c.scale_block.ensures;
    }

pub returns : goal.returns
returns c =
    let d = c.args.maxima.now in
    let l = c.loop-i in
    let blocks : l.i ≡ length d / 16 = omega arith in
    all_scaled d _
    (block_next d l.maxima (length d / 16 * 16) (rw blocks at l.invariant.scaled) (length l.maxima - length d / 16 * 16) (length d) (omega arith) (omega arith)
    c.scale_rest.ensures)
