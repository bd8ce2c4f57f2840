-- The first words of a region, as the code lends them.
use mathlib.Core.Path.{◌≡◌, ap, sym, ◌∙◌}
use mathlib.Core.List.{List}
use Prim.Native.Nat.{ℕ, ◌+◌, ◌-◌, ◌*◌, ◌≤◌}
use native.Mathlib.Omega.{arith}
use lib.ListN.{take, drop}
use lib.Seq.{take-take}
use Rattle.hungarian.specs.inner.Layout.{region}

pub lent_words : (r n m : ℕ) (w : List ℕ) → m ≤ n → take (r * n + m - r * n) (drop (r * n) w) ≡ take m (region r n w)
unfolding region
lent_words r n m w h =
    ap (λ (k : ℕ). take k (drop (r * n) w)) (let e : r * n + m - r * n ≡ m = omega arith in e) ∙ sym (take-take m n (drop (r * n) w) h)
