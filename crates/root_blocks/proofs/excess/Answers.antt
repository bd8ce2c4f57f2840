-- The differences that it makes are those of the law `checked`.
use Rattle.std.proofs.Common.{◌-◌, ◌*◌, ◌/◌, ◌%◌, ◌^◌, ℕ, arith}
use Rattle.root_blocks.proofs.Check.{differences, checked}
use Rattle.root_blocks.proofs.excess.Goals as goal

pub returns : goal.returns
returns c = (
  omega arith,
  λ e. let q : ℕ = 2 * c.args.p - 1 in
      let a : ℕ = q / 2 ^ 27 in
      let b : ℕ = q % 2 ^ 27 in
      let f = c.far.ensures.1 (omega arith) in
      let w = c.wide.ensures.1 (omega arith) in
      let o = c.not_normal.ensures.1 (omega arith) in
      checked c.args.bits c.args.p c.under_root-n.ensures.0 (omega (arith, o.0)) (omega (arith, o.1)) (omega arith) (omega arith) (omega arith)
      (differences c.under_root-n.result a b q (omega arith) (omega arith) (omega arith) (omega arith) f.0 f.1 w.0 w.1),
)
