-- Lines and words by places: where the first line or word ends, and what follows it. By induction on the list.
use Rattle.std.proofs.Common.{nat_eq}
use Rattle.std.specs.List.{starts_with}
use Rattle.std.proofs.lemmas.Bool.Decides.{nat_tests}
use mathlib.Core.Path.{◌≡◌, refl, sym, ap, ◌∙◌}
use mathlib.Core.Bool.{Bool, true, false, not, cond}
use mathlib.Core.Logic.{◌⊎◌, inl, inr, ⊎_elim}
use mathlib.Core.List.{List, [], ◌∷◌}
use Prim.Native.Nat.{ℕ, suc, ◌+◌, ◌-◌, ◌≤◌, ◌<◌}
use native.Mathlib.Omega.{arith}
use native.Mathlib.Nat.{le_antisymm}
use borrow.Author.Tests.{eq-eqb, ne_eqb}
use lib.Dec.{eqb}
use lib.ListN.{length, take, drop, length-drop, drop_of_length-le}
use lib.Seq.{drop-drop}
use Rattle.text_matrix_market.specs.Text.{is_blank, is_line_feed, prepend, cut, non_empty, lines_of, words_of, is_nil, begins_percent}
use Rattle.text_matrix_market.specs.inner.Steps.{up_to, reach, is_word_byte, line_end, word_start, word_end, next_word, word_past}
use Rattle.text_matrix_market.proofs.Reaching.{reach_from, reach_within}

-- a word that is not empty is kept
pub word_kept : (word : List ℕ) (words : List (List ℕ)) → 0 < length word → non_empty (word ∷ words) ≡ word ∷ non_empty words
unfolding non_empty
word_kept [] words h = let z : ⊥ = omega arith in absurd z
word_kept (b ∷ word) words h = refl

-- as std's `starts_with` tests it
pub percent_test : (l : List ℕ) → starts_with nat_eq l (37 ∷ []) ≡ begins_percent l
unfolding begins_percent
percent_test [] = refl
percent_test (b ∷ l) = grind (arith, nat_tests)

-- ---- a list that is not empty is its first part, and the parts behind the byte that ends it
module _ (ends : ℕ → Bool) where
  stretch : (b : ℕ) (l : List ℕ) (t : Bool) → ((l ≡ []) ⊎ (cut ends l ≡ take (up_to ends l) l ∷ cut ends (drop (suc (up_to ends l)) l)))
      → prepend t b (cut ends l) ≡ take (cond t 0 (suc (up_to ends l))) (b ∷ l) ∷ cut ends (drop (suc (cond t 0 (suc (up_to ends l)))) (b ∷ l))
  unfolding cut up_to
  stretch b l true h = refl
  stretch b l false (inl e) = rw e
  stretch b l false (inr e) = rw e

  pub cut_first : (b : ℕ) (l : List ℕ) → cut ends (b ∷ l) ≡ take (up_to ends (b ∷ l)) (b ∷ l) ∷ cut ends (drop (suc (up_to ends (b ∷ l))) (b ∷ l))
  unfolding cut up_to
  cut_first b [] = stretch b [] (ends b) (inl refl)
  cut_first b (x ∷ l) = stretch b (x ∷ l) (ends b) (inr (cut_first x l))

-- the first line of what is left of an input, and the lines below it
pub lines_first : (input : List ℕ) (at : ℕ) → at < length input
    → lines_of (drop at input) ≡ take (line_end input at - at) (drop at input) ∷ lines_of (drop (line_end input at + 1) input)
unfolding lines_of reach
lines_first input at h =
    let l : List ℕ = drop at input in
    let e : at + up_to is_line_feed l - at ≡ up_to is_line_feed l = omega arith in
    let f : at + up_to is_line_feed l + 1 ≡ at + suc (up_to is_line_feed l) = omega arith in
    rw (e, f, ← drop-drop (suc (up_to is_line_feed l)) at input) (some l (simp length-drop (omega arith)))
  where
    some : (l : List ℕ) → 0 < length l → cut is_line_feed l ≡ take (up_to is_line_feed l) l ∷ cut is_line_feed (drop (suc (up_to is_line_feed l)) l)
    some [] k = let z : ⊥ = omega arith in absurd z
    some (b ∷ l) k = cut_first is_line_feed b l

pub lines_none : (input : List ℕ) (at : ℕ) → length input ≤ at → lines_of (drop at input) ≡ []
unfolding lines_of cut
lines_none input at h = rw (drop_of_length-le input {i = at} h)

-- ---- words
abbrev pub head_word : List (List ℕ) → List ℕ
head_word [] = []
head_word (word ∷ words) = word

abbrev pub tail_words : List (List ℕ) → List (List ℕ)
tail_words [] = []
tail_words (word ∷ words) = words

words_blank : (b : ℕ) (l : List ℕ) → is_blank b ≡ true → words_of (b ∷ l) ≡ words_of l
unfolding words_of cut non_empty
words_blank b l e = rw e

-- blanks that lead are passed over
words_skip : (l : List ℕ) → words_of l ≡ words_of (drop (up_to is_word_byte l) l)
unfolding up_to
words_skip [] = refl
words_skip (b ∷ l) = first (is_blank b) refl (words_skip l)
  where
    first : (t : Bool) → is_blank b ≡ t → words_of l ≡ words_of (drop (up_to is_word_byte l) l) → words_of (b ∷ l) ≡ words_of
        (drop (cond (not t) 0 (suc (up_to is_word_byte l))) (b ∷ l))
    first true e h = words_blank b l e ∙ h
    first false e h = refl

-- a list at its end, or at the first byte of a word
Ready : List ℕ → Type 0
Ready [] = Unit
Ready (b ∷ l) = is_blank b ≡ false

skip_ready : (l : List ℕ) → Ready (drop (up_to is_word_byte l) l)
unfolding up_to Ready
skip_ready [] = tt
skip_ready (b ∷ l) = first (is_blank b) refl (skip_ready l)
  where
    first : (t : Bool) → is_blank b ≡ t → Ready (drop (up_to is_word_byte l) l) → Ready (drop (cond (not t) 0 (suc (up_to is_word_byte l))) (b ∷ l))
    first true e h = h
    first false e h = e

-- the byte that ends a word is a blank
words_past : (l : List ℕ) → words_of (drop (up_to is_blank l) l) ≡ words_of (drop (suc (up_to is_blank l)) l)
unfolding up_to
words_past [] = refl
words_past (b ∷ l) = first (is_blank b) refl (words_past l)
  where
    first : (t : Bool) → is_blank b ≡ t → words_of (drop (up_to is_blank l) l) ≡ words_of (drop (suc (up_to is_blank l)) l)
        → words_of (drop (cond t 0 (suc (up_to is_blank l))) (b ∷ l)) ≡ words_of (drop (suc (cond t 0 (suc (up_to is_blank l)))) (b ∷ l))
    first true e h = words_blank b l e
    first false e h = h

-- from the first byte of a word on
up_word_byte : (b : ℕ) (l : List ℕ) → is_blank b ≡ false → up_to is_blank (b ∷ l) ≡ suc (up_to is_blank l)
unfolding up_to
up_word_byte b l h = rw h

words_found : (b : ℕ) (l : List ℕ) → is_blank b ≡ false → words_of (b ∷ l) ≡ take (up_to is_blank (b ∷ l)) (b ∷ l) ∷ words_of (drop (up_to is_blank (b ∷ l)) (b ∷ l))
unfolding words_of non_empty
words_found b l h = rw (cut_first is_blank b l, up_word_byte b l h) (ap (λ (ws : List (List ℕ)). (b ∷ take (up_to is_blank l) l) ∷ ws) (sym (words_past l)))

head_first : (l : List ℕ) → Ready l → take (up_to is_blank l) l ≡ head_word (words_of l)
unfolding Ready words_of cut non_empty up_to
head_first [] h = refl
head_first (b ∷ l) h = sym (ap head_word (words_found b l h))

tail_first : (l : List ℕ) → Ready l → words_of (drop (up_to is_blank l) l) ≡ tail_words (words_of l)
unfolding Ready words_of cut non_empty up_to
tail_first [] h = refl
tail_first (b ∷ l) h = sym (ap tail_words (words_found b l h))

nil_first : (l : List ℕ) → Ready l → ((length l ≡ 0) × (words_of l ≡ [])) ⊎ ((0 < length l) × (is_nil (words_of l) ≡ false))
unfolding Ready words_of cut non_empty
nil_first [] h = inl (refl, refl)
nil_first (b ∷ l) h = inr (omega arith, ap is_nil (words_found b l h))

-- ---- the same by places of a line
module _ (line : List ℕ) (from : ℕ) where
  rest : List ℕ
  rest = drop from line

  at_start : drop (word_start line from) line ≡ drop (up_to is_word_byte rest) rest
  unfolding reach rest
  at_start = sym (drop-drop (up_to is_word_byte (drop from line)) from line)

  start_ready : Ready (drop (word_start line from) line)
  unfolding rest
  start_ready = rw at_start (skip_ready rest)

  start_words : words_of (drop (word_start line from) line) ≡ words_of (drop from line)
  unfolding rest
  start_words = ap words_of at_start ∙ sym (words_skip rest)

  pub next_word_lem : next_word line from ≡ head_word (words_of (drop from line))
  unfolding next_word reach
  next_word_lem =
      let l : List ℕ = drop (word_start line from) line in
      let e : word_end line (word_start line from) - word_start line from ≡ up_to is_blank l = omega arith in
      ap (λ (k : ℕ). take k l) e ∙ head_first l start_ready ∙ ap head_word start_words

  pub words_after : words_of (drop (word_past line from) line) ≡ tail_words (words_of (drop from line))
  unfolding word_past reach
  words_after =
      let l : List ℕ = drop (word_start line from) line in
      ap words_of (sym (drop-drop (up_to is_blank l) (word_start line from) line)) ∙ tail_first l start_ready ∙ ap tail_words start_words

  -- there is a word from here on exactly if the place where it would start is not the end
  start_nil : ((length line ≤ word_start line from) × (words_of (drop from line) ≡ []))
      ⊎ ((word_start line from < length line) × (is_nil (words_of (drop from line)) ≡ false))
  start_nil = ⊎_elim
      (λ p. inl (omega (arith, p.0, length-drop (word_start line from) line), sym start_words ∙ p.1))
      (λ p. inr (omega (arith, p.0, length-drop (word_start line from) line), ap is_nil (sym start_words) ∙ p.1))
      (nil_first (drop (word_start line from) line) start_ready)

  pub no_word : length line ≤ word_start line from → words_of (drop from line) ≡ []
  no_word h = ⊎_elim (λ p. p.1) (λ p. let z : ⊥ = omega (arith, p.0) in absurd z) start_nil

  pub some_word : word_start line from < length line → is_nil (words_of (drop from line)) ≡ false
  some_word h = ⊎_elim (λ p. let z : ⊥ = omega (arith, p.0) in absurd z) (λ p. p.1) start_nil

  pub past_within : from ≤ length line → word_past line from ≤ length line
  unfolding word_past
  past_within h = reach_within is_blank line (word_start line from) (reach_within is_word_byte line from h)

  pub blank_test : from ≤ length line → eqb (word_start line from) (length line) ≡ is_nil (words_of (drop from line))
  blank_test h = ⊎_elim
      (λ p. eq-eqb _ _ (le_antisymm (reach_within is_word_byte line from h) p.0) ∙ sym (ap is_nil p.1))
      (λ p. ne_eqb _ _ (λ (e : word_start line from ≡ length line). let z : ⊥ = omega (arith, p.0) in absurd z) ∙ sym p.1)
      start_nil

-- a word found by its two ends
module _ (line : List ℕ) (from : ℕ) {begin end : ℕ} (b : begin ≡ word_start line from) (e : end ≡ word_end line begin) where
  pub found_word : take (end - begin) (drop begin line) ≡ next_word line from
  unfolding next_word
  found_word = rw (e, b)

  pub found_past : end ≡ word_past line from
  unfolding word_past
  found_past = rw (e, b)

  pub end_within : from ≤ length line → end ≤ length line
  end_within h = omega (arith, reach_within is_blank line begin (omega (arith, reach_within is_word_byte line from h)))

  pub end_past : begin ≤ end
  end_past = omega (arith, reach_from is_blank line begin)
