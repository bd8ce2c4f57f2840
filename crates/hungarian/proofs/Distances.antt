-- The sums of a search, over any small error: a distance t - u, the offset (d - c) + u of a column, the next t, and a raised dual are good doubles,
-- near their exact values and far below 2 ^ 53.
-- The two u of an offset cancel, so bounds grow with the number of popped rows and not from search to search. Each is linear arithmetic on keys.
use mathlib.Core.Path.{◌≡◌, ap}
use Prim.Native.Nat.{ℕ, suc, ◌+◌, ◌*◌, ◌^◌, ◌≤◌, ◌<◌}
use native.Mathlib.Omega.{arith}
use lib.Ieee.{Float, binary64, add, sub}
use Rattle.float64.specs.Number.{units_per_one, origin}
use Rattle.float64.specs.inner.Keys.{position}
use Rattle.float64.specs.inner.Arithmetic.{Apart, whole_limit}
use Rattle.float64.proofs.Constants.{below_rinf}
use Rattle.hungarian.specs.Graph.{CostGraph}
use Rattle.hungarian.specs.inner.Setting.{Setting}
use Rattle.hungarian.specs.inner.Bounds.{level, Small, dual_bound, Cost, Distance}
use Rattle.hungarian.proofs.Bounds.{level_step, level_mono, level_most}

-- the offset v = (d - c) + u of a column whose row has the distance d = t - u and whose own entry costs c: v + c is near t
pub record Offset (Good : Float → Type 0) (err : ℕ) (t c v : Float) : Type 0 where
  pub good : Good v
  pub near : Apart (3 * err) (2 * (position v + position c)) (2 * (position t + origin))

-- what is left once the old dual has cancelled: the new dual r is near (t - origin) - (s - w), in either direction
raised_above : (r u e p d t s w m E L c : ℕ) → 2 * (r + m) ≤ 2 * (u + e) + E → 2 * (e + p) ≤ 2 * (d + m) + E → 2 * (d + u) ≤ 2 * (t + m) + E
    → 2 * (s + m) ≤ 2 * (p + w) + E → t ≤ m + L → m ≤ s + L → w ≤ m + c
    → 2 * r ≤ 2 * m + 4 * L + 2 * c + 4 * E
raised_above r u e p d t s w m E L c a b f h i j k = omega arith

raised_under : (r u e p d t s w m E L : ℕ) → 2 * (u + e) ≤ 2 * (r + m) + E → 2 * (d + m) ≤ 2 * (e + p) + E → 2 * (t + m) ≤ 2 * (d + u) + E
    → 2 * (p + w) ≤ 2 * (s + m) + E → m ≤ t + L → s ≤ m + L → m ≤ w
    → 2 * m ≤ 2 * r + 4 * L + 4 * E
raised_under r u e p d t s w m E L a b f h i j k = omega arith

module _ {Good : Float → Type 0} {err C : ℕ} {g : CostGraph} (S : Setting Good err C g) (some : 0 < g.pattern.n) where
  top : level C (g.pattern.n + 2) ≤ 2 ^ 50 * units_per_one
  top = level_most S some

  -- one more than the highest level of a search
  step : level C (suc (g.pattern.n + 1)) ≡ level C (g.pattern.n + 1) + C * units_per_one + 4 * units_per_one
  step = level_step C (g.pattern.n + 1)

  same_level : level C (suc (g.pattern.n + 1)) ≡ level C (g.pattern.n + 2)
  same_level = ap (level C) (let e : suc (g.pattern.n + 1) ≡ g.pattern.n + 2 = omega arith in e)

  -- t - u is within 2 ^ 53
  pub distance_room : (p : ℕ) (t u : Float) → p ≤ g.pattern.n + 2 → Small Good (level C p) t → Small Good (dual_bound g.pattern.n C) u
      → Apart (whole_limit * units_per_one) (position t) (position u)
  unfolding dual_bound
  distance_room p t u h x y =
      let m : level C p ≤ level C (g.pattern.n + 2) = level_mono C p (g.pattern.n + 2) h in
      record { above = omega (arith, x.size.above, y.size.under, top); under = omega (arith, x.size.under, y.size.above, top) }

  pub distance : (p : ℕ) (t u : Float) → p ≤ g.pattern.n + 2 → Small Good (level C p) t → Small Good (dual_bound g.pattern.n C) u
      → Distance Good err t u (sub binary64 t u)
  unfolding dual_bound
  distance p t u h x y =
      let m : level C p ≤ level C (g.pattern.n + 2) = level_mono C p (g.pattern.n + 2) h in
      let r = distance_room p t u h x y in
      let n : Apart err (2 * (position (sub binary64 t u) + position u)) (2 * (position t + origin)) = S.laws.minus_near t u x.good y.good r in
      let k : Good (sub binary64 t u) = S.laws.minus t u x.good y.good r in
      record {
        good = k;
        near = n;
        finite = below_rinf (sub binary64 t u) (S.laws.number (sub binary64 t u) k) (omega (arith, n.above, x.size.above, y.size.under, top, S.fine));
      }

  -- ---- the offset (d - c) + u
  module _ (p : ℕ) (t u d c : Float) (h : p ≤ g.pattern.n + 1) (x : Small Good (level C p) t) (y : Small Good (dual_bound g.pattern.n C) u)
      (z : Cost Good C c)
      (w : Distance Good err t u d) where
    low : level C p ≤ level C (g.pattern.n + 1)
    low = level_mono C p (g.pattern.n + 1) h

    pub cost_room_lem : Apart (whole_limit * units_per_one) (position d) (position c)
    unfolding dual_bound
    cost_room_lem = record {
      above = omega (arith, low, w.near.above, x.size.above, y.size.under, z.low, top, step, same_level, S.fine);
      under = omega (arith, low, w.near.under, x.size.under, y.size.above, z.high, top, step, same_level, S.fine);
    }

    less : Apart err (2 * (position (sub binary64 d c) + position c)) (2 * (position d + origin))
    less = S.laws.minus_near d c w.good z.good cost_room_lem

    pub less_good : Good (sub binary64 d c)
    less_good = S.laws.minus d c w.good z.good cost_room_lem

    pub offset_room : Apart (whole_limit * units_per_one) (position (sub binary64 d c) + position u) (origin + origin)
    offset_room = record {
      above = omega (arith, low, less.above, w.near.above, x.size.above, z.low, top, step, same_level, S.fine);
      under = omega (arith, low, less.under, w.near.under, x.size.under, z.high, top, step, same_level, S.fine);
    }

    pub offset : Offset Good err t c (add binary64 (sub binary64 d c) u)
    offset =
        let k : Apart err (2 * (position (add binary64 (sub binary64 d c) u) + origin)) (2 * (position (sub binary64 d c) + position u)) =
        S.laws.plus_near (sub binary64 d c) u less_good y.good offset_room in
        record {
          good = S.laws.plus (sub binary64 d c) u less_good y.good offset_room;
          near =
              record { above = omega (arith, k.above, less.above, w.near.above); under = omega (arith, k.under, less.under, w.near.under) };
        }

  -- the next t: the offset and an entry's cost
  pub next_room : (p : ℕ) (t c v e : Float) → p ≤ g.pattern.n + 1 → Small Good (level C p) t → Cost Good C c → Cost Good C e → Offset Good err t c v
      → Apart (whole_limit * units_per_one) (position v + position e) (origin + origin)
  next_room p t c v e h x y z w =
      let m : level C p ≤ level C (g.pattern.n + 1) = level_mono C p (g.pattern.n + 1) h in
      record {
        above = omega (arith, w.near.above, x.size.above, y.low, z.high, top, step, same_level, S.fine);
        under = omega (arith, w.near.under, x.size.under, y.high, z.low, top, step, same_level, S.fine);
      }

  pub next : (p : ℕ) (t c v e : Float) → p ≤ g.pattern.n + 1 → Small Good (level C p) t → Cost Good C c → Cost Good C e → Offset Good err t c v
      → Small Good (level C (suc p)) (add binary64 v e) × Apart err (2 * (position (add binary64 v e) + origin)) (2 * (position v + position e))
  next p t c v e h x y z w =
      let r = next_room p t c v e h x y z w in
      let n : Apart err (2 * (position (add binary64 v e) + origin)) (2 * (position v + position e)) = S.laws.plus_near v e w.good z.good r in (
        record {
          good = S.laws.plus v e w.good z.good r;
          size = record {
            above = omega (arith, n.above, w.near.above, x.size.above, y.low, z.high, level_step C p, S.fine);
            under = omega (arith, n.under, w.near.under, x.size.under, y.high, z.low, level_step C p, S.fine);
          };
        },
        n,
      )

  -- within the bound of a dual
  wide_above : (r : ℕ) → 2 * r ≤ 2 * origin + 4 * level C (g.pattern.n + 1) + 2 * (C * units_per_one) + 4 * err → err ≤ units_per_one
      → r ≤ origin + dual_bound g.pattern.n C
  unfolding dual_bound
  wide_above r h f = omega (arith, step, same_level)

  wide_under : (r : ℕ) → 2 * origin ≤ 2 * r + 4 * level C (g.pattern.n + 1) + 4 * err → err ≤ units_per_one → origin ≤ r + dual_bound g.pattern.n C
  unfolding dual_bound
  wide_under r h f = omega (arith, step, same_level)

  -- the dual of a popped row after a path of cost p = s - w, w the dual of a free row: its old dual cancels
  module _ (t u d s w p : Float) (x : Small Good (level C (g.pattern.n + 1)) t) (y : Small Good (dual_bound g.pattern.n C) u) (z : Distance Good err t u d)
      (x' : Small Good (level C (g.pattern.n + 1)) s) (y' : Cost Good C w) (z' : Distance Good err s w p) where
    abbrev e : Float
    e = sub binary64 d p

    pub gain_room : Apart (whole_limit * units_per_one) (position d) (position p)
    unfolding dual_bound
    gain_room = record {
      above = omega (arith, z.near.above, x.size.above, y.size.under, z'.near.under, x'.size.under, y'.high, top, step, same_level, S.fine);
      under = omega (arith, z.near.under, x.size.under, y.size.above, z'.near.above, x'.size.above, y'.low, top, step, same_level, S.fine);
    }

    gained : Apart err (2 * (position e + position p)) (2 * (position d + origin))
    gained = S.laws.minus_near d p z.good z'.good gain_room

    pub gain_good : Good e
    gain_good = S.laws.minus d p z.good z'.good gain_room

    pub raised_room : Apart (whole_limit * units_per_one) (position u + position e) (origin + origin)
    raised_room = record {
      above = omega (arith, gained.above, z.near.above, x.size.above, z'.near.under, x'.size.under, y'.high, top, step, same_level, S.fine);
      under = omega (arith, gained.under, z.near.under, x.size.under, z'.near.above, x'.size.above, y'.low, top, step, same_level, S.fine);
    }

    pub raised : Small Good (dual_bound g.pattern.n C) (add binary64 u e) × Apart (2 * err) (2 * (position (add binary64 u e) + position p))
        (2 * (position u + position d))
    unfolding dual_bound
    raised =
        let n = gained in
        let k : Apart err (2 * (position (add binary64 u e) + origin)) (2 * (position u + position e)) =
        S.laws.plus_near u e y.good gain_good raised_room in (
          record {
            good = S.laws.plus u e y.good gain_good raised_room;
            size = record {
              above = (let b : 2 * position (add binary64 u e) ≤ 2 * origin + 4 * level C (g.pattern.n + 1) + 2 * (C * units_per_one) + 4 * err =
                  raised_above (position (add binary64 u e)) (position u) (position e) (position p) (position d) (position t) (position s)
                  (position w) origin err
                  (level C (g.pattern.n + 1)) (C * units_per_one) k.above n.above z.near.above z'.near.under x.size.above x'.size.under
                  y'.high in wide_above (position (add binary64 u e)) b S.fine);
              under = (let b : 2 * origin ≤ 2 * position (add binary64 u e) + 4 * level C (g.pattern.n + 1) + 4 * err =
                  raised_under (position (add binary64 u e)) (position u) (position e) (position p) (position d) (position t) (position s)
                  (position w) origin err (level C (g.pattern.n + 1)) k.under
                  n.under z.near.under z'.near.above x.size.under x'.size.above y'.low in
                  wide_under (position (add binary64 u e)) b S.fine);
            };
          },
          record { above = omega (arith, k.above, n.above); under = omega (arith, k.under, n.under) },
        )
