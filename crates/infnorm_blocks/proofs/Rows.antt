-- The one-pass factors come row after row, and block after block: the factors of the rows so far stand before the maxima of the others.
use Rattle.std.proofs.Common.{◌≡◌, true, ℕ, ◌+◌, ◌<◌, ◌≤◌, List, ◌++◌, Float, length, get_or, take, drop, set, map, refl, ap, subst, ◌∙◌, zero-add, append-nil, le_refl, arith}
use Rattle.std.proofs.Math.Seq.{take-add}
use Rattle.std.proofs.lemmas.List.{map-append, take_all, drop_all, length-map, length-take-le, get_or_default}
use Rattle.std.proofs.lemmas.List.Edits.{map_over_more}
use Rattle.std.specs.Float.{nan}
use Rattle.std.specs.Float.Ieee.{lt}
use borrow.Rule.Slice.PartMut.{put_mid}
use Rattle.float64.specs.Constants as Constants
use Rattle.root_blocks.specs.inner.Blocks.{Roots}
use Rattle.infnorm_factors.specs.Factors.{inv_sqrt_scale_guarded, root}
use Rattle.infnorm_factors.proofs.Parts.{rest_is, place_is, part_put}

-- the rows below i have their factors
abbrev pub Scaled : List Float → List Float → ℕ → Type 0
Scaled maxima factors i = factors ≡ map inv_sqrt_scale_guarded (take i maxima) ++ drop i maxima

module _ (maxima factors : List Float) (i : ℕ) (scaled : Scaled maxima factors i) where
  written : List Float
  written = map inv_sqrt_scale_guarded (take i maxima)

  long : i ≤ length maxima → length written ≡ i
  unfolding written
  long h = length-map (take i maxima) inv_sqrt_scale_guarded ∙ length-take-le i maxima h

  is : factors ≡ written ++ drop i maxima
  unfolding written
  is = scaled

  -- row i is a maximum still
  pub maximum_there : i ≤ length maxima → get_or factors i nan ≡ get_or maxima i nan
  maximum_there h = place_is written maxima i (long h) is nan

  pub row_next : {x : Float} → i < length maxima → i < length factors → x ≡ inv_sqrt_scale_guarded (get_or factors i nan) → Scaled maxima (set factors i x) (i + 1)
  row_next {x} h l e =
      rw e (map_over_more inv_sqrt_scale_guarded maxima factors i (get_or factors i nan) h scaled (get_or_default factors i nan (get_or factors i nan) l))

  pub block_next : (k to : ℕ) {part : List Float} → i + k ≡ to → to ≤ length maxima → part ≡ map inv_sqrt_scale_guarded (take k (drop i factors))
      → Scaled maxima (put_mid i k factors part) to
  unfolding written
  block_next k to {part} e h q =
      let new : part ≡ map inv_sqrt_scale_guarded (take k (drop i maxima)) =
      q ∙ ap (λ (l : List Float). map inv_sqrt_scale_guarded (take k l)) (rest_is written maxima i (long (omega arith)) is) in
      part_put written maxima i (long (omega arith)) is k part
      ∙ rw (new, ← map-append inv_sqrt_scale_guarded (take i maxima) (take k (drop i maxima)), ← take-add i k maxima, e) refl

pub rows_to : (maxima factors : List Float) {i to : ℕ} → Scaled maxima factors i → i ≡ to → Scaled maxima factors to
rows_to maxima factors s e = subst (Scaled maxima factors) e s

-- the root that stands for the number at place i is its root
pub root_there : {numbers roots : List Float} → Roots numbers 0 roots 16 → (i : ℕ) → i < 16 → (x : Float) → x ≡ get_or numbers i nan
    → lt Constants.zero x ≡ true → get_or roots i nan ≡ root x
unfolding root
root_there {numbers} r i h x e t = rw e (rw zero-add at (r.at i h) (rw e at t))

-- all rows have theirs
pub all_scaled : (maxima factors : List Float) → Scaled maxima factors (length maxima) → factors ≡ map inv_sqrt_scale_guarded maxima
all_scaled maxima factors s =
    s ∙ rw (take_all (length maxima) maxima (le_refl _), drop_all (length maxima) maxima (le_refl _), append-nil (map inv_sqrt_scale_guarded maxima)) refl
