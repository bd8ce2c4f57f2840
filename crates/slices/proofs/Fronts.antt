-- A list that is written from the front until it is another one: the places below i are the target's, the others as they were. By the laws of
-- `take` and `drop`.
use mathlib.Core.Path.{◌≡◌, refl, sym, ap, ◌∙◌}
use mathlib.Core.List.{List}
use Prim.Native.Nat.{ℕ, suc, ◌+◌, ◌≤◌, ◌<◌}
use native.Mathlib.Nat.{add-zero}
use native.Mathlib.Numerals.{add-one}
use native.Mathlib.Omega.{arith}
use lib.Ieee.{Float, nan}
use lib.ListN.{length, get_or, set, drop, length-set}
use lib.Seq.{take_all, take-suc, take-suc-set, drop-set-lt, drop-drop, get_or-drop}
use Rattle.slices.specs.inner.Steps.{Front}

pub front_start : (target before : List Float) → length target ≡ length before → Front target before before 0
front_start target before e = record { same = refl; alike = e; done = refl; left = refl }

module _ {target before list : List Float} {i : ℕ} (f : Front target before list i) where
  -- what is not written yet is read as it was
  pub front_reads : get_or list i nan ≡ get_or before i nan
  front_reads = sym (at list) ∙ ap (λ (l : List Float). get_or l 0 nan) f.left ∙ at before
    where
      at : (l : List Float) → get_or (drop i l) 0 nan ≡ get_or l i nan
      at l = get_or-drop i l 0 nan ∙ ap (λ (k : ℕ). get_or l k nan) (add-zero i)

  pub front_next : {x : Float} → i < length before → x ≡ get_or target i nan → Front target before (set list i x) (i + 1)
  front_next {x} h e =
      let here : i < length list = omega (arith, f.same) in
      let there : i < length target = omega (arith, f.alike) in
      rw (add-one i)
      (record {
        same = length-set list i x ∙ f.same;
        alike = f.alike;
        done = take-suc-set list i x here ∙ rw (f.done, e) (sym (take-suc target i nan there));
        left = drop-set-lt (suc i) list i x (omega arith) ∙ rw (← add-one i, ← drop-drop 1 i list, ← drop-drop 1 i before) (ap (drop 1) f.left);
      })

  pub front_end : length before ≤ i → list ≡ target
  front_end h = sym (take_all i list (omega (arith, f.same))) ∙ f.done ∙ take_all i target (omega (arith, f.alike))
