-- The costs of an accepted graph as numbers: bounded, below RINF, and small enough for the differences that phases 1 to 3 and the searches take.
use mathlib.Core.Path.{◌≡◌, refl, sym, ap, ◌∙◌}
use Prim.Native.Nat.{ℕ, suc, ◌+◌, ◌*◌, ◌^◌, ◌≤◌, ◌<◌}
use native.Mathlib.Nat.{le_of_eq, le_of_lt}
use native.Mathlib.Omega.{arith}
use borrow.Author.Tests.{ltb-true}
use lib.Ieee.{Float, of_bits}
use Rattle.float64.specs.Number.{units_per_one, origin, magnitude}
use Rattle.float64.specs.inner.Keys.{Ordered, place, position}
use Rattle.float64.specs.Constants.{zero as fzero, rinf}
use Rattle.float64.proofs.Order.{lt_key}
use Rattle.float64.proofs.Constants.{below_rinf, rinf_number}
use Rattle.float64.proofs.WholeNumbers.{ordered}
use Rattle.sparse.specs.Pattern.{entries}
use Rattle.hungarian.specs.Graph.{CostGraph, cost_of}
use Rattle.hungarian.specs.inner.Setting.{Setting}
use Rattle.hungarian.specs.inner.Bounds.{level, Small, Cost, dual_bound}
use Rattle.hungarian.proofs.Bounds.{level_step, level_mono, level_most}

pub rinf_ordered : Ordered rinf
rinf_ordered = ordered rinf rinf_number

pub zero_key : position fzero ≡ origin
unfolding of_bits position magnitude place units_per_one origin
zero_key = refl

module _ {Good : Float → Type 0} {err C : ℕ} {g : CostGraph} (S : Setting Good err C g) where
  pub cost_of_lem : (k : ℕ) → k < entries g.pattern → Cost Good C (cost_of g k)
  cost_of_lem k h = record { good = S.good k h; low = S.low k h; high = le_of_lt (S.high k h) }

  pub cost_ordered : (x : Float) → Cost Good C x → Ordered x
  cost_ordered x c = ordered x (S.laws.number x c.good)

  pub zero_cost : Cost Good C fzero
  zero_cost = record { good = S.zero_good; low = le_of_eq (sym zero_key); high = omega (arith, zero_key) }

  pub cost_small : (x : Float) → Cost Good C x → Small Good (level C 1) x
  cost_small x c = record { good = c.good; size = record { above = omega (arith, c.high, level_step C 0); under = omega (arith, c.low) } }

  pub cost_dual : (x : Float) → Cost Good C x → Small Good (dual_bound g.pattern.n C) x
  unfolding dual_bound
  cost_dual x c =
      let m : level C 1 ≤ level C (g.pattern.n + 2) = level_mono C 1 (g.pattern.n + 2) (omega arith) in
      record { good = c.good; size = record { above = omega (arith, c.high, level_step C 0); under = omega (arith, c.low) } }

  module _ (some : 0 < g.pattern.n) where
    -- the cost limit is far below the levels of a search
    limit : C * units_per_one + 4 * units_per_one ≤ 2 ^ 50 * units_per_one
    limit =
        let same : level C (suc (g.pattern.n + 1)) ≡ level C (g.pattern.n + 2) = ap (level C)
        (let e : suc (g.pattern.n + 1) ≡ g.pattern.n + 2 = omega arith in e) in
        omega (arith, level_most S some, level_step C (g.pattern.n + 1))

    pub cost_under_rinf : (x : Float) → Cost Good C x → position x < position rinf
    cost_under_rinf x c = ltb-true (position x) (position rinf)
        (sym (lt_key x rinf (cost_ordered x c) rinf_ordered) ∙ below_rinf x (S.laws.number x c.good) (omega (arith, c.high, limit)))
