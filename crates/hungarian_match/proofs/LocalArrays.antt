-- Parts of local arrays, as they are lent and when they are back: their lengths and what they hold.
use mathlib.Core.Path.{◌≡◌, ap, ◌∙◌}
use mathlib.Core.List.{List, ◌++◌}
use Prim.Native.Nat.{ℕ, ◌≤◌}
use native.Mathlib.Nat.{le-add_right}
use lib.ListN.{length, take, drop, replicate, length-replicate, length-append}
use lib.Seq.{length-take-le, take_at}

pub part_length : {A : Type 0} (k m : ℕ) (x : A) → k ≤ m → length (take k (replicate m x)) ≡ k
part_length k m x h = length-take-le k (replicate m x) (rw (length-replicate m x) h)

-- a part that was lent and is back
module _ {A : Type 0} (k m : ℕ) (x : A) (part : List A) (h : k ≤ m) (kept : length part ≡ length (take k (replicate m x))) where
  part_back : take k (part ++ drop k (replicate m x)) ≡ part
  part_back = take_at part _ k (kept ∙ part_length k m x h)

  pub part_within : k ≤ length (part ++ drop k (replicate m x))
  part_within = rw length-append (rw (kept ∙ part_length k m x h) (le-add_right k _))

  pub part_again : length (take k (part ++ drop k (replicate m x))) ≡ k
  part_again = ap length part_back ∙ kept ∙ part_length k m x h

  pub part_holds : (f : ℕ → List A) → part ≡ f (length (take k (replicate m x))) → take k (part ++ drop k (replicate m x)) ≡ f k
  part_holds f e = part_back ∙ e ∙ ap f (part_length k m x h)
