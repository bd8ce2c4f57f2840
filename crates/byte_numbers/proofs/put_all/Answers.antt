-- The bytes of each value go behind those of the values before it.
use Rattle.std.proofs.Common.{◌≡◌, ◌∙◌, length, arith}
use Rattle.byte_numbers.proofs.Words.{put_none, put_more, put_done}
use Rattle.byte_numbers.proofs.put_all.Goals as goal

pub loop-i-init : goal.loop-i-init
loop-i-init g c = put_none g.T.Wide.WIDTH g.T.Wide.number c.args.values.now c.args.out.now

pub loop-i-preserved : goal.loop-i-preserved
loop-i-preserved g c =
    let l = c.loop-i in
    put_more g.T.Wide.WIDTH g.T.Wide.number c.args.values.now c.args.out.now l.i c.index-values-i.result l.out _
    c.loop-i-test.true c.requires l.auto.out c.index-values-i.is l.invariant (rw c.WIDTH.ensures at c.put.ensures)

pub returns : goal.returns
returns g c =
    let l = c.loop-i in
    let done : l.i ≡ length c.args.values.now = omega arith in
    l.invariant ∙ rw done (put_done g.T.Wide.WIDTH g.T.Wide.number c.args.values.now c.args.out.now c.requires)
