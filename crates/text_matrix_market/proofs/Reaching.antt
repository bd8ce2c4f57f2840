-- The first place whose byte passes a test, as `position` finds it: by induction on the list.
use mathlib.Core.Path.{◌≡◌, refl, sym, ap, ◌∙◌}
use Rattle.std.proofs.Common.{Some, None}
use Rattle.std.specs.List.{position, position_or_len}
use mathlib.Core.Bool.{Bool, true, false, cond, not}
use mathlib.Core.List.{List, [], ◌∷◌}
use Prim.Native.Nat.{ℕ, suc, ◌+◌, ◌-◌, ◌≤◌}
use native.Mathlib.Nat.{le_antisymm}
use borrow.Author.Tests.{ltb-false}
use lib.Dec.{ltb}
use native.Mathlib.Omega.{arith}
use lib.ListN.{length, take, drop, length-drop}
use lib.Seq.{take_all}
use Rattle.text_matrix_market.specs.inner.Steps.{up_to, reach}

pub up_to_within : (test : ℕ → Bool) (l : List ℕ) → up_to test l ≤ length l
unfolding up_to
up_to_within test [] = omega arith
up_to_within test (b ∷ l) = first (test b) (up_to_within test l)
  where
    first : (t : Bool) → up_to test l ≤ length l → cond t 0 (suc (up_to test l)) ≤ suc (length l)
    first true h = omega arith
    first false h = omega arith

module _ (test : ℕ → Bool) (l : List ℕ) where
  pub reach_from : (i : ℕ) → i ≤ reach test l i
  unfolding reach
  reach_from i = omega arith

  pub reach_within : (i : ℕ) → i ≤ length l → reach test l i ≤ length l
  unfolding reach
  reach_within i h = omega (arith, up_to_within test (drop i l), length-drop i l)

-- ---- as `position` finds it
up_to_position : (test : ℕ → Bool) (l : List ℕ) → up_to test l ≡ position_or_len test l
unfolding up_to
up_to_position test [] = refl
up_to_position test (b ∷ l) = first (test b) (up_to_position test l)
  where
    first : (t : Bool) → up_to test l ≡ position_or_len test l → cond t 0 (suc (up_to test l)) ≡ cond (not t) (1 + position_or_len test l) 0
    first true e = refl
    first false e = omega arith

-- what `position` answers
position_some : (test : ℕ → Bool) (l : List ℕ) (k : ℕ) → position test l ≡ Some k → up_to test l ≡ k
position_some test l k e = up_to_position test l ∙ by (ltb (position_or_len test l) (length l)) e
  where
    by : (t : Bool) → cond t (Some (position_or_len test l)) None ≡ Some k → position_or_len test l ≡ k
    by true x = cc
    by false x = let y : ⊥ = cc in absurd y

position_none : (test : ℕ → Bool) (l : List ℕ) → position test l ≡ None → up_to test l ≡ length l
position_none test l e = le_antisymm (up_to_within test l) (omega (arith, up_to_position test l, by (ltb (position_or_len test l) (length l)) refl e))
  where
    by : (t : Bool) → ltb (position_or_len test l) (length l) ≡ t → cond t (Some (position_or_len test l)) None ≡ None → length l ≤ position_or_len test l
    by true h x = let y : ⊥ = cc in absurd y
    by false h x = ltb-false (position_or_len test l) (length l) h

module _ (test : ℕ → Bool) (l : List ℕ) (from : ℕ) where
  -- the part from a place on, as a slice has it
  abbrev pub part : List ℕ
  part = take (length l - from) (drop from l)

  whole : part ≡ drop from l
  whole = take_all (length l - from) (drop from l) (omega (arith, length-drop from l))

  pub reach_found : (k : ℕ) → position test part ≡ Some k → from + k ≡ reach test l from
  unfolding reach
  reach_found k e =
      let p : up_to test (drop from l) ≡ k = position_some test (drop from l) k (ap (position test) (sym whole) ∙ e) in
      omega arith

  pub reach_none : from ≤ length l → position test part ≡ None → length l ≡ reach test l from
  unfolding reach
  reach_none h e =
      let p : up_to test (drop from l) ≡ length (drop from l) = position_none test (drop from l) (ap (position test) (sym whole) ∙ e) in
      omega (arith, length-drop from l)
