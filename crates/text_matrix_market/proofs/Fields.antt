-- The numbers of a line, one word after the other. A word that is found to be a number leaves the words after it; by the cases of the list of words.
use Rattle.std.proofs.Common.{Option, Some, None}
use mathlib.Core.Path.{◌≡◌, refl, sym, ap, ◌∙◌}
use mathlib.Core.Bool.{false, true≢false}
use mathlib.Core.List.{List, [], ◌∷◌}
use Prim.Native.Nat.{ℕ, ◌≤◌, ◌<◌}
use native.Mathlib.Omega.{arith}
use lib.ListN.{length, drop}
use Rattle.text_matrix_market.specs.declared.banner.Kind.{Kind}
use Rattle.text_matrix_market.specs.declared.banner.Kind.TheVariants.{General, Symmetric, Pattern}
use Rattle.text_matrix_market.specs.Text.{words_of, is_nil}
use Rattle.text_matrix_market.specs.Numbers.{number_read, size_read, three_of, two_of, numbers_of}
use Rattle.text_matrix_market.specs.inner.Steps.{next_word, word_past, word_start, field_of, weight_field}
use Rattle.text_matrix_market.proofs.Words.{head_word, tail_words, next_word_lem, words_after, past_within, no_word, some_word}

-- the next word from a place on is the number v, as it is read, and ends at `past`
pub record Found (read : List ℕ → Option ℕ) (line : List ℕ) (from v past : ℕ) : Type 0 where
  pub word : List ℕ
  pub is : read word ≡ Some v
  pub words : words_of (drop from line) ≡ word ∷ words_of (drop past line)
  pub within : past ≤ length line

-- the next word from a place on is no number, or there is none
abbrev pub Lost : (List ℕ → Option ℕ) → List ℕ → ℕ → Type 0
Lost read line from = read (head_word (words_of (drop from line))) ≡ None

number_found : (n : Option ℕ) (p v past : ℕ) → field_of n p ≡ Some (v, past) → (n ≡ Some v) × (p ≡ past)
number_found None p v past e = let y : ⊥ = cc in absurd y
number_found (Some w) p v past e =
    let same : ◌≡◌ {A = ℕ × ℕ} (w, p) (v, past) = cc in
    (ap (λ (x : ℕ × ℕ). Some x.0) same, ap (λ (x : ℕ × ℕ). x.1) same)

number_lost : (n : Option ℕ) (p : ℕ) → field_of n p ≡ None → n ≡ None
number_lost None p e = refl
number_lost (Some w) p e = let y : ⊥ = cc in absurd y

-- no word is no number
no_number : number_read [] ≡ None
unfolding number_read
no_number = refl

no_size : size_read [] ≡ None
unfolding size_read
no_size = refl

some_words : (read : List ℕ → Option ℕ) → read [] ≡ None → (ws : List (List ℕ)) (v : ℕ) → read (head_word ws) ≡ Some v → ws ≡ head_word ws ∷ tail_words ws
some_words read n [] v e = let y : ⊥ = cc in absurd y
some_words read n (w ∷ ws) v e = refl

module _ (read : List ℕ → Option ℕ) (line : List ℕ) (from : ℕ) where
  found_by : {v past : ℕ} → read [] ≡ None → from ≤ length line → field_of (read (next_word line from)) (word_past line from) ≡ Some (v, past)
      → Found read line from v past
  found_by {v} {past} none h e =
      let p = number_found (read (next_word line from)) (word_past line from) v past e in
      let ws : List (List ℕ) = words_of (drop from line) in
      let n : read (head_word ws) ≡ Some v = ap read (sym (next_word_lem line from)) ∙ p.0 in
      record {
        word = head_word ws;
        is = n;
        words = some_words read none ws v n ∙ ap (λ (rest : List (List ℕ)). head_word ws ∷ rest)
            (sym (words_after line from) ∙ ap (λ (k : ℕ). words_of (drop k line)) p.1);
        within = rw (← p.1) (past_within line from h);
      }

  lost_by : field_of (read (next_word line from)) (word_past line from) ≡ None → Lost read line from
  lost_by e = ap read (sym (next_word_lem line from)) ∙ number_lost (read (next_word line from)) (word_past line from) e

pub found : (line : List ℕ) (from : ℕ) {v past : ℕ} → from ≤ length line → field_of (number_read (next_word line from))
    (word_past line from) ≡ Some (v, past) → Found number_read line from v past
found line from h e = found_by number_read line from no_number h e

pub lost : (line : List ℕ) (from : ℕ) → field_of (number_read (next_word line from)) (word_past line from) ≡ None → Lost number_read line from
lost line from e = lost_by number_read line from e

-- three numbers that are the same are so one by one
pub same_three : {a b c x y z : ℕ} → ◌≡◌ {A = Option (ℕ × ℕ × ℕ)} (Some (a, b, c)) (Some (x, y, z)) → (a ≡ x) × (b ≡ y) × (c ≡ z)
same_three {a} {b} {c} {x} {y} {z} e =
    let same : ◌≡◌ {A = ℕ × ℕ × ℕ} (a, b, c) (x, y, z) = cc in
    (ap (λ (t : ℕ × ℕ × ℕ). t.0) same, ap (λ (t : ℕ × ℕ × ℕ). t.1) same, ap (λ (t : ℕ × ℕ × ℕ). t.2) same)

-- ---- three words
module _ (last : List ℕ → Option ℕ) where
  first_lost : (ws : List (List ℕ)) → number_read (head_word ws) ≡ None → None ≡ three_of last ws
  unfolding three_of
  first_lost [] e = refl
  first_lost (a ∷ []) e = refl
  first_lost (a ∷ b ∷ []) e = refl
  first_lost (a ∷ b ∷ c ∷ []) e = rw e
  first_lost (a ∷ b ∷ c ∷ d ∷ ws) e = refl

  second_lost : (a : List ℕ) (x : ℕ) (ws : List (List ℕ)) → number_read a ≡ Some x → number_read (head_word ws) ≡ None → None ≡ three_of last (a ∷ ws)
  unfolding three_of
  second_lost a x [] h e = refl
  second_lost a x (b ∷ []) h e = refl
  second_lost a x (b ∷ c ∷ []) h e = rw (h, e)
  second_lost a x (b ∷ c ∷ d ∷ ws) h e = refl

  third_lost : (a b : List ℕ) (x y : ℕ) (ws : List (List ℕ)) → number_read a ≡ Some x → number_read b ≡ Some y → last (head_word ws) ≡ None
      → None ≡ three_of last (a ∷ b ∷ ws)
  unfolding three_of
  third_lost a b x y [] h k e = refl
  third_lost a b x y (c ∷ []) h k e = rw (h, k, e)
  third_lost a b x y (c ∷ d ∷ ws) h k e = refl

  too_many : (a b c : List ℕ) (ws : List (List ℕ)) → is_nil ws ≡ false → None ≡ three_of last (a ∷ b ∷ c ∷ ws)
  unfolding three_of
  too_many a b c [] e = absurd (true≢false e)
  too_many a b c (d ∷ ws) e = refl

-- ---- two words
first_of_two : (ws : List (List ℕ)) → number_read (head_word ws) ≡ None → None ≡ two_of ws
unfolding two_of
first_of_two [] e = refl
first_of_two (a ∷ []) e = refl
first_of_two (a ∷ b ∷ []) e = rw e
first_of_two (a ∷ b ∷ c ∷ ws) e = refl

second_of_two : (a : List ℕ) (x : ℕ) (ws : List (List ℕ)) → number_read a ≡ Some x → number_read (head_word ws) ≡ None → None ≡ two_of (a ∷ ws)
unfolding two_of
second_of_two a x [] h e = refl
second_of_two a x (b ∷ []) h e = rw (h, e)
second_of_two a x (b ∷ c ∷ ws) h e = refl

two_too_many : (a b : List ℕ) (ws : List (List ℕ)) → is_nil ws ≡ false → None ≡ two_of (a ∷ b ∷ ws)
unfolding two_of
two_too_many a b [] e = absurd (true≢false e)
two_too_many a b (c ∷ ws) e = refl

-- ---- what is left behind row and column
-- nothing but a weight v, which ends at `past`
abbrev pub Weighed : Kind → List ℕ → ℕ → ℕ → ℕ → Type 0
Weighed General line from v past = Found number_read line from v past
Weighed Symmetric line from v past = Found size_read line from v past
Weighed Pattern line from v past = (v ≡ 0) × (past ≡ from)

pub weighed : (kind : Kind) (line : List ℕ) (from : ℕ) {v past : ℕ} → from ≤ length line → weight_field kind line from ≡ Some (v, past)
    → Weighed kind line from v past
unfolding weight_field
weighed General line from h e = found_by number_read line from no_number h e
weighed Symmetric line from h e = found_by size_read line from no_size h e
weighed Pattern line from {v} {past} h e =
    let same : ◌≡◌ {A = ℕ × ℕ} (0, from) (v, past) = cc in
    (sym (ap (λ (x : ℕ × ℕ). x.0) same), sym (ap (λ (x : ℕ × ℕ). x.1) same))

pub weighed_within : (kind : Kind) (line : List ℕ) (from : ℕ) {v past : ℕ} → from ≤ length line → weight_field kind line from ≡ Some (v, past)
    → past ≤ length line
weighed_within General line from h e = (weighed General line from h e).within
weighed_within Symmetric line from h e = (weighed Symmetric line from h e).within
weighed_within Pattern line from h e = omega (arith, (weighed Pattern line from h e).1)

-- ---- by the kind of line
pub no_first : (kind : Kind) (line : List ℕ) → Lost number_read line 0 → None ≡ numbers_of kind line
unfolding numbers_of
no_first General line e = first_lost number_read (words_of line) e
no_first Symmetric line e = first_lost size_read (words_of line) e
no_first Pattern line e = first_of_two (words_of line) e

pub no_second : (kind : Kind) (line : List ℕ) {x p : ℕ} → Found number_read line 0 x p → Lost number_read line p → None ≡ numbers_of kind line
unfolding numbers_of
no_second General line {x} {p} f e = rw f.words (second_lost number_read f.word x (words_of (drop p line)) f.is e)
no_second Symmetric line {x} {p} f e = rw f.words (second_lost size_read f.word x (words_of (drop p line)) f.is e)
no_second Pattern line {x} {p} f e = rw f.words (second_of_two f.word x (words_of (drop p line)) f.is e)

pub no_third : (kind : Kind) (line : List ℕ) {x p y q : ℕ} → Found number_read line 0 x p → Found number_read line p y q
    → weight_field kind line q ≡ None → None ≡ numbers_of kind line
unfolding numbers_of weight_field
no_third General line {x} {p} {y} {q} f g e =
    rw (f.words, g.words) (third_lost number_read f.word g.word x y (words_of (drop q line)) f.is g.is (lost_by number_read line q e))
no_third Symmetric line {x} {p} {y} {q} f g e =
    rw (f.words, g.words) (third_lost size_read f.word g.word x y (words_of (drop q line)) f.is g.is (lost_by size_read line q e))
no_third Pattern line f g e = let y : ⊥ = cc in absurd y

module _ (line : List ℕ) {x p y q : ℕ} (f : Found number_read line 0 x p) (g : Found number_read line p y q) where
  more_words : (kind : Kind) (z r : ℕ) → Weighed kind line q z r → word_start line r < length line → None ≡ numbers_of kind line
  unfolding numbers_of
  more_words General z r h k =
      rw (f.words, g.words, h.words) (too_many number_read f.word g.word h.word (words_of (drop r line)) (some_word line r k))
  more_words Symmetric z r h k =
      rw (f.words, g.words, h.words) (too_many size_read f.word g.word h.word (words_of (drop r line)) (some_word line r k))
  more_words Pattern z r h k = rw (f.words, g.words, ← h.1) (two_too_many f.word g.word (words_of (drop r line)) (some_word line r k))

  no_more : (kind : Kind) (z r : ℕ) → Weighed kind line q z r → length line ≤ word_start line r → Some (x, y, z) ≡ numbers_of kind line
  unfolding numbers_of three_of two_of
  no_more General z r h k = rw (f.words, g.words, h.words, no_word line r k, f.is, g.is, h.is)
  no_more Symmetric z r h k = rw (f.words, g.words, h.words, no_word line r k, f.is, g.is, h.is)
  no_more Pattern z r h k = rw (f.words, g.words, ← h.1, no_word line r k, f.is, g.is, h.0)

  pub one_more : (kind : Kind) {z r : ℕ} → weight_field kind line q ≡ Some (z, r) → word_start line r < length line → None ≡ numbers_of kind line
  one_more kind {z} {r} e = more_words kind z r (weighed kind line q g.within e)

  pub all_three : (kind : Kind) {z r : ℕ} → weight_field kind line q ≡ Some (z, r) → length line ≤ word_start line r → Some (x, y, z) ≡ numbers_of kind line
  all_three kind {z} {r} e = no_more kind z r (weighed kind line q g.within e)
