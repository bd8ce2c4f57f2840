-- One round and the rounds: what a loop over the rows leaves is the definition's list, and the rounds from here on are all rounds.
use mathlib.Core.Path.{◌≡◌, refl, sym, ap, ◌∙◌, subst}
use mathlib.Core.Bool.{Bool, true, false, cond}
use mathlib.Core.List.{List, [], ◌∷◌}
use Prim.Native.Nat.{ℕ, zero, suc, ◌+◌, ◌-◌, ◌≤◌, ◌<◌}
use native.Mathlib.Nat.{not-suc-le-zero}
use native.Mathlib.Omega.{arith}
use lib.Ieee.{Float, nan, lt}
use lib.ListN.{length, get_or, set}
use Rattle.float64.specs.Constants as Constants
use Rattle.sparse.specs.Matrix.{Matrix}
use Rattle.infnorm_factors.specs.Factors.{Round, round_from, new_factor, zipped, rounds}
use Rattle.slices.specs.inner.Steps.{Front}
use Rattle.slices.proofs.Fronts.{front_reads, front_next}
use Rattle.infnorm_rounds.specs.inner.Blocks.{Updated}

-- ---- f of the numbers of two lists of one length
pub length_zipped : (f : Float → Float → Float) (l r : List Float) → length l ≡ length r → length (zipped f l r) ≡ length l
unfolding zipped
length_zipped f [] r e = refl
length_zipped f (x ∷ l) [] e = let z : ⊥ = omega arith in absurd z
length_zipped f (x ∷ l) (y ∷ r) e = ap suc (length_zipped f l r (omega arith))

pub get_d_zipped : (f : Float → Float → Float) (l r : List Float) (i : ℕ) → length l ≡ length r → i < length l
    → get_or (zipped f l r) i nan ≡ f (get_or l i nan) (get_or r i nan)
unfolding zipped
get_d_zipped f [] r i e h = absurd (not-suc-le-zero h)
get_d_zipped f (x ∷ l) [] i e h = let z : ⊥ = omega arith in absurd z
get_d_zipped f (x ∷ l) (y ∷ r) zero e h = refl
get_d_zipped f (x ∷ l) (y ∷ r) (suc i) e h = get_d_zipped f l r i (omega arith) (omega arith)

-- ---- one row more
pub updated_next : {work f g : List Float} {x : Float} {from i : ℕ} → Updated work f from g i → length g ≡ length work → i < length work
    → x ≡ new_factor (get_or g i nan) (get_or work i nan) → Updated work f from (set g i x) (i + 1)
updated_next {work} {f} {g} {x} {from} {i} s e h a = record { come = λ before u. go before (s.come before u) }
  where
    go : (before : List Float) → Front (zipped new_factor before work) before g i → Front (zipped new_factor before work) before (set g i x) (i + 1)
    go before v =
        let n : length before ≡ length work = sym v.same ∙ e in
        front_next v (omega arith)
        (a ∙ ap (λ (d : Float). new_factor d (get_or work i nan)) (front_reads v) ∙ sym (get_d_zipped new_factor before work i n (omega arith)))

pub updated_to : {work f g : List Float} {from i to : ℕ} → Updated work f from g i → i ≡ to → Updated work f from g to
updated_to {work} {f} {g} {from} s e = subst (Updated work f from g) e s

pub not_yet : {work f : List Float} {from : ℕ} → Updated work f from f from
not_yet = record { come = λ before u. u }

-- ---- the rounds
module _ (m : Matrix) where
  -- a round, and `count` more unless it is the last
  abbrev followed : ℕ → Round → List Float
  followed count r = cond (lt r.largest Constants.infnorm_tol) r.factors (rounds count m r.factors)

  one_more : (i count : ℕ) (d : List Float) → i ≡ suc count → rounds i m d ≡ followed count (round_from m d)
  unfolding rounds
  one_more i count d e = rw e refl

  no_more : (i : ℕ) (d : List Float) → i ≡ 0 → rounds i m d ≡ d
  unfolding rounds
  no_more i d e = rw e refl

  module _ {whole : List Float} (most done : ℕ) (d : List Float) (e : whole ≡ rounds (most - done) m d) where
    module _ {after : List Float} {near : Bool} (h : done < most) (f : after ≡ (round_from m d).factors)
        (t : lt (round_from m d).largest Constants.infnorm_tol ≡ near) where
      here : whole ≡ cond near after (rounds (most - (done + 1)) m after)
      here = e ∙ one_more (most - done) (most - (done + 1)) d (omega arith) ∙ rw (f, t) refl

      pub round_last : near ≡ true → after ≡ whole
      round_last l = sym (here ∙ rw l refl)

      pub round_next : near ≡ false → whole ≡ rounds (most - (done + 1)) m after
      round_next l = here ∙ rw l refl

    pub rounds_end : most ≤ done → d ≡ whole
    rounds_end h = sym (e ∙ no_more (most - done) d (omega arith))
