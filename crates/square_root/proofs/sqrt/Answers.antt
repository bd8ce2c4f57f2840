-- Each way out is a case of the definition, which is IEEE 754's answer.
use Rattle.std.proofs.Common.{◌∙◌, Ok, T, sym, ap, rules, arith}
use Rattle.std.specs.Float.Ieee.{binary64, fits}
use Rattle.square_root.proofs.Cases.{Above, above, above_bits, finite_answer, infinite_answer, zero_answer, refused_answer}
use Rattle.square_root.proofs.Laws.{promised}
use Rattle.square_root.proofs.sqrt.Goals as goal
use Rattle.square_root.proofs.sqrt.Goals.{Then-x}

double : (c : Then-x) → T (fits binary64 c.args.x)
double c = search rules

positive : (c : Then-x) → Above c.args.x
positive c = above c.args.x c.if-x.true

pub positive_root-requires : goal.positive_root-requires
positive_root-requires c = let up = (goal.at.positive_root-requires c).Then-x in (above_bits (positive up) (double up), omega arith)

pub returns-then-bits-lt9218868437227405312 : goal.returns-then-bits-lt9218868437227405312
returns-then-bits-lt9218868437227405312 c =
    let up = (goal.at.returns-then-bits-lt9218868437227405312 c).Then-x in
    promised c.args.x (double up)
    (ap Ok c.positive_root.ensures ∙ sym (finite_answer (positive up) (double up) c.if-bits-lt9218868437227405312.true))

pub returns-then-x : goal.returns-then-x
returns-then-x c =
    let up = (goal.at.returns-then-x c).Then-x in
    promised c.args.x (double up) (sym (infinite_answer (positive up) (double up) c.if-bits-lt9218868437227405312.false))

pub returns-then-x-2 : goal.returns-then-x-2
returns-then-x-2 c = promised c.args.x (search rules) (sym (zero_answer c.args.x c.if-x-2.true))

pub returns : goal.returns
returns c = promised c.args.x (search rules) (sym (refused_answer c.args.x c.if-x.false c.if-x-2.false))
