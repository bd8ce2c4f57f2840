-- Each turn of the loop lays down one factor more; after the last all are laid down.
use Rattle.std.proofs.Common.{◌≡◌, ◌∙◌, ◌<◌, arith}
use Rattle.matching.specs.Match.{match_of}
use Rattle.factors_mc64.specs.Factors.{factor_at}
use Rattle.byte_numbers.specs.Bytes.{doubles}
use Rattle.byte_forms.proofs.ByteFactors.{laid_none, laid_more, laid_all, factor_read}
use Rattle.byte_forms.proofs.factor_bytes.put_factors.Goals as goal

pub loop-i-init : goal.loop-i-init
loop-i-init c =
    let a = c.args in
    let m = match_of a.perm.now (doubles a.u.now a.n) (doubles a.v.now a.n) (doubles a.cmax.now a.n) in
    record { room = c.requires.perm_len.1; laid = laid_none (factor_at a.n m) a.n _ }

pub loop-i-preserved : goal.loop-i-preserved
loop-i-preserved c =
    let a = c.args in
    let l = c.loop-i in
    let m = match_of a.perm.now (doubles a.u.now a.n) (doubles a.v.now a.n) (doubles a.cmax.now a.n) in
    let h : l.i < a.n = c.loop-i-test.true in
    record {
      room = c.put_double.auto.out ∙ l.invariant.room;
      laid = c.put_double.ensures
          ∙ laid_more (factor_at a.n m) a.n _ l.i _ h l.invariant.room l.invariant.laid
          (factor_read _ _ _ l.i c.requires.marked h c.log_factor-factor.ensures c.get_double-row.ensures
          c.get_double-column.ensures c.get_double-largest.ensures);
    }

pub returns : goal.returns
returns c =
    let l = c.loop-i in
    let e : l.i ≡ c.args.n = omega arith in
    l.invariant.laid ∙ laid_all _ c.args.n _ l.i e c.requires.perm_len.1
