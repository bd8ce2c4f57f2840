-- The work slice after its two fills: the regions within the first are constant, those before it stay, and the heap is zero.
use mathlib.Core.Path.{◌≡◌, refl, ◌∙◌}
use mathlib.Core.List.{List}
use Prim.Native.Nat.{ℕ, ◌+◌, ◌-◌, ◌*◌, ◌≤◌}
use native.Mathlib.Omega.{arith}
use lib.ListN.{length, take, drop, replicate, length-drop, length-replicate}
use lib.Seq.{length-take-le}
use borrow.Rule.Slice.PartMut.{put_mid, same_len_mid}
use lib.Ieee.{Float}
use Rattle.limits.specs.Limits.{none}
use Rattle.float64.specs.Constants.{rinf}
use Rattle.hungarian.specs.inner.Layout.{region}
use Rattle.hungarian.proofs.Regions.{region_before, region_filled}
use Rattle.hungarian_path.specs.inner.StepsArrays.{Prepared}
use Rattle.hungarian_path.proofs.Memory.{part_drop}

-- the slice after the first fill and after the second
module _ (n : ℕ) (w x y : List ℕ) (long : length w ≡ 12 * n + 1)
    (first : x ≡ replicate (length (take (6 * n - 4 * n) (drop (4 * n) w))) none) where
  abbrev w₁ : List ℕ
  w₁ = put_mid (4 * n) (6 * n - 4 * n) w x

  few : length (take (6 * n - 4 * n) (drop (4 * n) w)) ≡ 2 * n
  few = length-take-le (6 * n - 4 * n) (drop (4 * n) w) (rw length-drop (omega arith)) ∙ omega arith

  size : length w₁ ≡ 12 * n + 1
  size = same_len_mid (4 * n) (6 * n - 4 * n) w x (rw first (length-replicate _ none)) ∙ long

  module _ (second : y ≡ replicate (length (take (length w₁ - 11 * n) (drop (11 * n) w₁))) 0) where
    abbrev w₂ : List ℕ
    w₂ = put_mid (11 * n) (length w₁ - 11 * n) w₁ y

    rest : length (take (length w₁ - 11 * n) (drop (11 * n) w₁)) ≡ n + 1
    rest = length-take-le (length w₁ - 11 * n) (drop (11 * n) w₁) (rw length-drop (omega arith)) ∙ omega (arith, size)

    region_none : (r : ℕ) → 4 * n ≤ r * n → r * n + n ≤ 6 * n → region r n w₂ ≡ replicate n none
    region_none r a b =
        region_before r n (11 * n) w₁ _ (omega arith) (omega (arith, size))
        ∙ rw (first, few)
        (region_filled r n (take (4 * n) w) _ (2 * n) none (omega (arith, front)) (omega (arith, front)))
      where
        front : length (take (4 * n) w) ≡ 4 * n
        front = length-take-le (4 * n) w (omega arith)

    region_same : (r : ℕ) → r * n + n ≤ 4 * n → region r n w₂ ≡ region r n w
    region_same r a =
        region_before r n (11 * n) w₁ _ (omega arith) (omega (arith, size)) ∙ region_before r n (4 * n) w _ a (omega arith)

    pub prepared : (pos' : List ℕ) → pos' ≡ replicate n 0 → (d' : List Float) → d' ≡ replicate n rinf → Prepared n w w₂ pos' d'
    prepared pos' f d' e = record {
      distances = e;
      places = f;
      heap = part_drop w₁ (11 * n) (length w₁) refl (omega (arith, size)) y ∙ rw (second, rest) refl;
      pr = region_none 4 (omega arith) (omega arith);
      out = region_none 5 (omega arith) (omega arith);
      iperm = region_same 0 (omega arith);
      jperm = region_same 1 (omega arith);
    }
