-- A part without a byte that ends one is found whole: before the parts after its end (`part_first`), and as the last one (`part_last`). So with lines
-- and words. By induction on the part.
use mathlib.Core.Path.{◌≡◌, refl, ap, ◌∙◌}
use mathlib.Core.Bool.{Bool, true, false}
use mathlib.Core.List.{List, [], ◌∷◌, ◌++◌}
use Prim.Native.Nat.{ℕ, ◌<◌}
use native.Mathlib.Omega.{arith}
use lib.ListN.{length}
use Rattle.text_matrix_market.specs.Text.{is_line_feed, is_blank, cut, non_empty, lines_of, words_of}
use Rattle.text_matrix_market.proofs.Words.{word_kept}

-- no byte of a list passes the test
abbrev pub None : (ℕ → Bool) → List ℕ → Type 0
None test [] = Unit
None test (b ∷ l) = (test b ≡ false) × None test l

pub none_append : (test : ℕ → Bool) (s t : List ℕ) → None test s → None test t → None test (s ++ t)
none_append test [] t p q = q
none_append test (b ∷ s) t p q = (p.0, none_append test s t p.1 q)

module _ (ends : ℕ → Bool) where
  part_first : (part : List ℕ) (b : ℕ) (rest : List ℕ) → None ends part → ends b ≡ true → cut ends (part ++ (b ∷ rest)) ≡ part ∷ cut ends rest
  unfolding cut
  part_first [] b rest p e = rw e
  part_first (x ∷ part) b rest p e = rw (p.0, part_first part b rest p.1 e)

  part_last : (part : List ℕ) → 0 < length part → None ends part → cut ends part ≡ part ∷ []
  unfolding cut
  part_last [] h p = let z : ⊥ = omega arith in absurd z
  part_last (x ∷ []) h p = rw p.0
  part_last (x ∷ y ∷ part) h p = rw (p.0, part_last (y ∷ part) (omega arith) p.1)

pub lines_first : (line rest : List ℕ) → None is_line_feed line → lines_of (line ++ (10 ∷ rest)) ≡ line ∷ lines_of rest
unfolding lines_of
lines_first line rest p = part_first is_line_feed line 10 rest p refl

-- ---- words
module _ (word : List ℕ) (some : 0 < length word) (p : None is_blank word) where
  pub words_first : (rest : List ℕ) → words_of (word ++ (32 ∷ rest)) ≡ word ∷ words_of rest
  unfolding words_of
  words_first rest = ap non_empty (part_first is_blank word 32 rest p refl) ∙ word_kept word (cut is_blank rest) some

  pub words_last : words_of word ≡ word ∷ []
  unfolding words_of non_empty
  words_last = ap non_empty (part_last is_blank word some p) ∙ word_kept word [] some
