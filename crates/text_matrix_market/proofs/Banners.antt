-- The banner, word by word: it is one exactly if the words from here on are the names that are left. By the cases of the list of words.
use Rattle.std.proofs.Common.{Option, Some, None, IfSome}
use Rattle.std.specs.Bool.{then_some}
use mathlib.Core.Path.{◌≡◌, refl, sym, ap₂, ◌∙◌}
use mathlib.Core.Bool.{Bool, true, false, ◌&&◌}
use mathlib.Core.List.{List, [], ◌∷◌}
use Prim.Native.Nat.{ℕ, ◌≤◌, ◌<◌}
use native.Mathlib.Omega.{arith}
use lib.Dec.{eqb}
use lib.ListN.{length, drop}
use Rattle.text_matrix_market.specs.declared.banner.Kind.TheVariants.{General, Symmetric, Pattern}
use Rattle.text_matrix_market.specs.Text.{words_of, is_nil, begins_percent}
use Rattle.text_matrix_market.specs.Banner.{same_word, same_words, banner_words, is_banner, codes, banner_kind}
use Rattle.text_matrix_market.specs.inner.Steps.{next_word, word_past, word_start, nothing_past}
use Rattle.text_matrix_market.proofs.Words.{head_word, tail_words, next_word_lem, words_after, past_within, blank_test}

-- `names` are left of all the names, and the words from `at` on are compared with them
pub record Passed (all : List (List ℕ)) (line : List ℕ) (names : List (List ℕ)) (at : ℕ) : Type 0 where
  pub within : at ≤ length line
  pub same : same_words (words_of line) all ≡ same_words (words_of (drop at line)) names

word_by_word : (ws : List (List ℕ)) (name : List ℕ) (names : List (List ℕ)) → 0 < length name
    → same_words ws (name ∷ names) ≡ (same_word (head_word ws) name && same_words (tail_words ws) names)
unfolding same_words same_word
word_by_word ws [] names h = let z : ⊥ = omega arith in absurd z
word_by_word [] (y ∷ ys) names h = refl
word_by_word (w ∷ ws) (y ∷ ys) names h = refl

no_names : (ws : List (List ℕ)) → same_words ws [] ≡ is_nil ws
unfolding same_words
no_names [] = refl
no_names (w ∷ ws) = refl

past_same : (t : Bool) (p q : ℕ) → then_some t p ≡ Some q → (t ≡ true) × (p ≡ q)
past_same true p q e = (refl, cc)
past_same false p q e = let y : ⊥ = cc in absurd y

other_word : (t : Bool) (p : ℕ) → then_some t p ≡ None → t ≡ false
other_word true p e = let y : ⊥ = cc in absurd y
other_word false p e = refl

module _ (all : List (List ℕ)) (line : List ℕ) where
  pub none_passed : Passed all line all 0
  none_passed = record { within = omega arith; same = refl }

  module _ {name : List ℕ} {names : List (List ℕ)} {at : ℕ} (some : 0 < length name) (p : Passed all line (name ∷ names) at) where
    turn : same_words (words_of line) all ≡ (same_word (next_word line at) name && same_words (words_of (drop (word_past line at) line)) names)
    turn = p.same ∙ word_by_word (words_of (drop at line)) name names some
        ∙ ap₂ (λ (w : List ℕ) (ws : List (List ℕ)). same_word w name && same_words ws names) (sym (next_word_lem line at)) (sym (words_after line at))

    pub named : {past : ℕ} → then_some (same_word (next_word line at) name) (word_past line at) ≡ Some past → Passed all line names past
    named {past} e =
        let q = past_same (same_word (next_word line at) name) (word_past line at) past e in
        record { within = rw (← q.1) (past_within line at p.within); same = turn ∙ rw (q.0, q.1) }

    pub misnamed : then_some (same_word (next_word line at) name) (word_past line at) ≡ None → false ≡ same_words (words_of line) all
    misnamed e = sym (turn ∙ rw (other_word (same_word (next_word line at) name) (word_past line at) e))

  pub all_passed : {at : ℕ} → Passed all line [] at → is_nil (words_of (drop at line)) ≡ same_words (words_of line) all
  all_passed {at} p = sym (p.same ∙ no_names (words_of (drop at line)))

  -- where the last name is compared
  pub last_compared : {name : List ℕ} {at : ℕ} (answer : Option ℕ) → 0 < length name → Passed all line (name ∷ []) at
      → answer ≡ then_some (same_word (next_word line at) name) (word_past line at)
      → IfSome answer (λ (past : ℕ). past ≤ length line) × (nothing_past answer line ≡ same_words (words_of line) all)
  last_compared (Some past) some p e = let q = named some p (sym e) in (q.within, all_passed q)
  last_compared None some p e = (tt, misnamed some p (sym e))

-- ---- the banner: its first byte, its words and no more
module _ (field symmetry line : List ℕ) where
  abbrev names : List (List ℕ)
  names = banner_words field symmetry

  pub no_percent : begins_percent line ≡ false → false ≡ is_banner field symmetry line
  unfolding is_banner
  no_percent e = rw e

  pub no_banner_words : false ≡ same_words (words_of line) names → false ≡ is_banner field symmetry line
  unfolding is_banner
  no_banner_words e = by (begins_percent line)
    where
      by : (t : Bool) → false ≡ (t && same_words (words_of line) names)
      by true = e
      by false = refl

  pub banner_there : {past : ℕ} → begins_percent line ≡ true → past ≤ length line
      → is_nil (words_of (drop past line)) ≡ same_words (words_of line) names → eqb (word_start line past) (length line) ≡ is_banner field symmetry line
  unfolding is_banner
  banner_there {past} e h x = blank_test line past h ∙ x ∙ rw e

-- ---- the kinds, one after the other
module _ (line : List ℕ) where
  pub is_general : is_banner (codes "integer") (codes "general") line ≡ true → Some General ≡ banner_kind line
  unfolding banner_kind
  is_general e = rw e

  module _ (g : is_banner (codes "integer") (codes "general") line ≡ false) where
    pub is_symmetric : is_banner (codes "integer") (codes "symmetric") line ≡ true → Some Symmetric ≡ banner_kind line
    unfolding banner_kind
    is_symmetric e = rw (g, e)

    module _ (s : is_banner (codes "integer") (codes "symmetric") line ≡ false) where
      pub is_pattern : is_banner (codes "pattern") (codes "general") line ≡ true → Some Pattern ≡ banner_kind line
      unfolding banner_kind
      is_pattern e = rw (g, s, e)

      pub no_kind : is_banner (codes "pattern") (codes "general") line ≡ false → None ≡ banner_kind line
      unfolding banner_kind
      no_kind e = rw (g, s, e)
