-- Each part is the definition's, and the bits made of them are its result's.
use Rattle.std.proofs.Common.{◌*◌, ◌^◌, ℕ, sym, subst, arith}
use Rattle.std.specs.Float.{binary64}
use Rattle.std.specs.Float.Ieee.{of_bits}
use Rattle.square_root.specs.inner.Steps.{WholeRoot}
use Rattle.float64.proofs.Bits.{no_nan}
use Rattle.square_root.proofs.Frame.{radicand, radicand_in, shifted, root_in, root_bits_lem, scaled_square}
use Rattle.square_root.proofs.positive_root.Goals as goal
use Rattle.square_root.proofs.positive_root.Goals.{After-whole_root-q}

-- the whole root is that of the significand as the definition has it
found : (c : After-whole_root-q) → let x = c.full_digits-x.result in WholeRoot (radicand x.significand x.exponent) c.whole_root-q.result
found c = subst (λ (n : ℕ). WholeRoot (n * 2 ^ 54) c.whole_root-q.result) (shifted c.full_digits-x.ensures) c.whole_root-q.ensures

pub whole_root-q-requires-clause-bound : goal.whole_root-q-requires-clause-bound
whole_root-q-requires-clause-bound c = let r = radicand_in c.full_digits-x.ensures in (omega arith, omega arith)

pub float_from_bits-result : goal.float_from_bits-result
float_from_bits-result c =
    let s = c.full_digits-x.ensures in
    let r = root_in s (found (goal.at.float_from_bits-result c).After-whole_root-q) in
    no_nan _ (omega (arith, s.most))

pub returns : goal.returns
returns c =
    let q = found (goal.at.returns c).After-whole_root-q in
    sym (root_bits_lem (scaled_square (of_bits binary64 c.args.bits) c.full_digits-x.ensures) q)
