-- What is above zero is no NaN.
use Rattle.std.proofs.Common.{T, sym, refl, ◌∙◌, true≢false, arith, rules}
use Rattle.std.specs.Float.Ieee.{binary64, fits}
use Rattle.float64.proofs.Bits.{no_nan}
use Rattle.root_blocks.proofs.Blocks.{own_bits}
use Rattle.root_blocks.proofs.bits_above_zero.Goals as goal

pub returns-then-x : goal.returns-then-x
returns-then-x c =
    let t : T (fits binary64 c.args.x) = search rules in
    (own_bits c.args.x c.if-x.true t, λ h. (refl, t))

pub returns : goal.returns
returns c = (no_nan _ (omega arith), λ h. absurd (true≢false (sym h ∙ c.if-x.false)))
