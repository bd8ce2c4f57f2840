-- A list that is written from the front, place after place or part after part: what is written so far stands before the rest of what was there.
use Rattle.std.proofs.Common.{◌≡◌, ℕ, ◌+◌, ◌<◌, List, [], ◌∷◌, ◌++◌, suc, length, get_or, take, drop, set, sym, ap, ap₂, ◌∙◌, append_assoc, add-zero, add-one}
use Rattle.std.proofs.Math.Seq.{drop-cons, set-append_seam}
use Rattle.std.proofs.lemmas.List.{drop-drop, take_at, drop_at, get_or-drop}
use borrow.Rule.Slice.PartMut.{put_mid}

module _ {X : Type 0} (written d : List X) (n : ℕ) {list : List X} (long : length written ≡ n) (is : list ≡ written ++ drop n d) where
  -- what is not written yet
  pub rest_is : drop n list ≡ drop n d
  rest_is = ap (drop n) is ∙ drop_at written (drop n d) n long

  pub place_is : (x : X) → get_or list n x ≡ get_or d n x
  place_is x = sym (at list) ∙ ap (λ (l : List X). get_or l 0 x) rest_is ∙ at d
    where
      at : (l : List X) → get_or (drop n l) 0 x ≡ get_or l n x
      at l = get_or-drop n l 0 x ∙ ap (λ (k : ℕ). get_or l k x) (add-zero n)

  -- the next place is written
  pub place_set : (x : X) → n < length d → set list n x ≡ (written ++ x ∷ []) ++ drop (n + 1) d
  place_set x h =
      ap₂ (λ (l : List X) (k : ℕ). set l k x) (is ∙ ap (λ (l : List X). written ++ l) (drop-cons d n x h)) (sym long)
      ∙ set-append_seam written (get_or d n x) (drop (suc n) d) x
      ∙ rw (add-one n) (sym (append_assoc written (x ∷ []) (drop (suc n) d)))

  -- the next k places are written
  pub part_put : (k : ℕ) (part : List X) → put_mid n k list part ≡ (written ++ part) ++ drop (n + k) d
  part_put k part =
      ap₂ (λ (a b : List X). a ++ (part ++ b)) (ap (take n) is ∙ take_at written (drop n d) n long) (ap (drop k) rest_is ∙ drop-drop k n d)
      ∙ sym (append_assoc written part (drop (n + k) d))
