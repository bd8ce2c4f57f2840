-- The loop's invariant: the bytes of the factors below i stand in front of what was there.
use Rattle.std.proofs.Common.{◌≡◌, ◌*◌, length}
use Rattle.matching.specs.Match.{match_of}
use Rattle.factors_mc64.specs.Factors.{factor_at}
use Rattle.byte_numbers.specs.Bytes.{doubles}
use Rattle.byte_forms.proofs.ByteFactors.{laid_to}
use Rattle.byte_forms.proofs.factor_bytes.put_factors.Given as goal

abbrev pub invariant-loop-i : goal.invariant-loop-i
invariant-loop-i l =
    let m = match_of l.perm (doubles l.u l.n) (doubles l.v l.n) (doubles l.cmax l.n) in
    record { room : length l.factors ≡ 8 * l.n; laid : l.factors ≡ laid_to (factor_at l.n m) l.n l.initial.factors l.i }
