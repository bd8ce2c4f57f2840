-- A search's answer is followed: with a path, the flip and the raised duals are the definition's; without one nothing changes.
use mathlib.Core.Path.{◌≡◌, refl, sym, ap, ◌∙◌, subst}
use mathlib.Core.List.{List, map}
use Prim.Native.Nat.{ℕ, ◌+◌, ◌-◌, ◌*◌, ◌≤◌, ◌<◌}
use native.Mathlib.Nat.{mul-le-mul_right}
use native.Mathlib.Omega.{arith}
use lib.Dec.{lit≤}
use lib.ListN.{length, get_or, take, drop}
use lib.Seq.{drop-drop, get_or-drop}
use lib.Ieee.{Float}
use Rattle.hungarian.specs.inner.Layout.{region, popped_at}
use Rattle.hungarian.specs.Search.{Found, path, no_path, raise}
use Rattle.hungarian.specs.Match.{pairs_after, duals_after}
use Rattle.hungarian_path.specs.inner.Views.{unmarked, heap_in}
use Rattle.hungarian_path.specs.inner.StepsFlip.{Flips}
use Rattle.hungarian_search.specs.inner.Steps.{ApplyReady, Applies}

-- ---- words and regions after the pairs
module _ (b : ℕ) (w w' : List ℕ) (p : ℕ) (e : drop b w' ≡ drop b w) (h : b ≤ p) where
  pub back_word : get_or w' p 0 ≡ get_or w p 0
  back_word = let f : b + (p - b) ≡ p = omega arith in
      subst (λ (x : ℕ). get_or w' x 0 ≡ get_or w x 0) f (sym (get_or-drop b w' (p - b) 0) ∙ ap (λ (l : List ℕ). get_or l (p - b) 0) e ∙ get_or-drop b w (p - b) 0)

  back_drop : drop p w' ≡ drop p w
  back_drop = let f : b + (p - b) ≡ p = omega arith in
      subst (λ (x : ℕ). drop x w' ≡ drop x w) f (sym (drop-drop (p - b) b w') ∙ ap (drop (p - b)) e ∙ drop-drop (p - b) b w)

module _ (n : ℕ) (w w' : List ℕ) (e : drop (2 * n) w' ≡ drop (2 * n) w) where
  pub back_region : (r : ℕ) → 2 ≤ r → region r n w' ≡ region r n w
  unfolding region
  back_region r h = ap (take n) (back_drop (2 * n) w w' (r * n) e (mul-le-mul_right n h))

  pub back_heap : (pos : List ℕ) (len : ℕ) → heap_in n w' pos len ≡ heap_in n w pos len
  unfolding heap_in
  back_heap pos len = λ z. record { heap = back_drop (2 * n) w w' (11 * n) e (omega arith) z; pos = map unmarked pos; len = len }

module _ (n : ℕ) (rows : List ℕ) (u : List Float) (w : List ℕ) (d : List Float) (popped num : ℕ) where
  pub apply_none : Applies n rows u u w w d no_path popped num num
  unfolding pairs_after duals_after
  apply_none = record { pairs = λ g t e a b. refl; duals = λ t e f. refl; rest = refl }

  module _ (end : Found) (R : ApplyReady n rows u w d end popped num) (c : Float) (k j : ℕ) (is : end ≡ path c k j) (w' : List ℕ)
      (F : Flips n rows w w' k j num) where
    pub raise_asks : (p : ℕ) → p < popped → (get_or w' (7 * n + p) 0 < length u) × (get_or w' (7 * n + p) 0 < length d)
    raise_asks p h = rw (back_word (2 * n) w w' (7 * n + p) F.rest (omega arith)) (R.rows_in p h)

    pub apply_along : (u' : List Float) → u' ≡ raise d c (take popped (region popped_at n w')) u → Applies n rows u u' w w' d end popped num (num + 1)
    unfolding pairs_after duals_after
    apply_along u' e = rw is (record {
      pairs = F.pairs;
      duals = λ t a b. e ∙ ap (λ (l : List ℕ). raise d c (take popped l) u) (back_region n w w' F.rest popped_at (lit≤ tt))
          ∙ sym (λ z. raise (a z) c (b z) u);
      rest = F.rest;
    })
