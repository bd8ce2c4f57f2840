-- `put_columns` meets its contract: the pair of each column after those before it.
use Rattle.std.proofs.Common.{refl, suc, arith}
use Rattle.text_report.specs.Pairs.{matched_pairs}
use Rattle.text_report.proofs.Writes.{and_then, restated}
use Rattle.text_report.proofs.Pairs.{pair_more, pairs_length, pairs_rise}
use Rattle.text_report.proofs.put_columns.Goals as goal

pub loop-k-init : goal.loop-k-init
unfolding matched_pairs
loop-k-init c = record { bytes = refl; place = omega arith }

pub put_column-next-requires : goal.put_column-next-requires
put_column-next-requires c =
    let perm = c.args.perm.now in
    omega (arith, c.loop-k.auto.out, pairs_length perm c.loop-k.k, pairs_rise perm (suc c.loop-k.k) c.args.n (omega arith))

pub loop-k-preserved : goal.loop-k-preserved
loop-k-preserved c = restated (pair_more c.args.perm.now c.loop-k.k) refl (and_then c.loop-k.invariant c.put_column-next.ensures)
