-- `hold`: only a NaN differs from itself.
use mathlib.Core.Path.{◌≡◌, refl}
use mathlib.Core.Bool.{true, false, true≢false}
use lib.Ieee.{Float, nan, inf, fin, is_nan, ne}
use lib.Ieee.Compare.{differs_from_itself}
use Rattle.factors_mc64.specs.Factors.{held}
use Rattle.factors_mc64.proofs.hold.Goals as goal

nan-only : (x : Float) → ne x x ≡ true → is_nan x ≡ true
unfolding is_nan
nan-only x e = rw (differs_from_itself x (rw e tt)) refl

no_nan : (x : Float) → ne x x ≡ false → is_nan x ≡ false
unfolding is_nan ne
no_nan nan e = absurd (true≢false e)
no_nan (inf s) e = refl
no_nan (fin s m k) e = refl

pub returns-then-x : goal.returns-then-x
unfolding held
returns-then-x c = rw (nan-only c.args.x c.if-x.true) refl

pub returns : goal.returns
unfolding held
returns c = rw (c.clamp_log.ensures, no_nan c.args.x c.if-x.false) refl
