-- Lines and words are what their bytes say: the parts that `cut` makes are parts by their bytes (`cut_parts`), and parts by their bytes are found
-- again, one after the other. Numbers: digit by digit.
use Rattle.std.proofs.Common.{Option, Some}
use mathlib.Core.Path.{◌≡◌, refl, sym, ap, ◌∙◌, subst}
use mathlib.Core.Bool.{Bool, true, false, cond, ◌&&◌, ◌||◌}
use mathlib.Core.Logic.{◌⊎◌, inl, inr, ◌↔◌}
use mathlib.Core.List.{List, [], ◌∷◌, ◌++◌, append-nil}
use Prim.Native.Nat.{ℕ, ◌+◌, ◌-◌, ◌*◌, ◌^◌, ◌<◌}
use native.Mathlib.Nat.{pow-succ', zero-mul, add-mul, mul_assoc, mul_left_comm, add_assoc}
use native.Mathlib.Omega.{arith}
use borrow.Author.Tests.{eq-eqb, ne_eqb, le-leb, leb-true, eqb-true, eqb-false}
use lib.Dec.{eqb, leb}
use lib.ListN.{length}
use Rattle.slices.proofs.Bools.{both}
use Rattle.text_matrix_market.specs.Text.{is_line_feed, is_blank, prepend, cut, non_empty, lines_of, words_of}
use Rattle.text_matrix_market.specs.Numbers.{is_digit, only_if, decimal_value, number_read, size_read}
use Rattle.text_matrix_market.proofs.Words.{word_kept}
use Rattle.text_tie_file.specs.Bytes.{Every, NoFeed, AreLines, Blank, NoBlank, Ends, AreWords, Digit, place_sum, IsNumber, IsSigned}

pub never : {X : Type 0} → ◌≡◌ {A = ℕ} 0 1 → X
never e = let z : ⊥ = omega arith in absurd z

-- ---- tests of a byte
pub blank_test : (b : ℕ) → Blank b → is_blank b ≡ true
blank_test b (inl e) = rw e
blank_test b (inr (inl e)) = rw e
blank_test b (inr (inr e)) = rw e

pub blank_found : (b : ℕ) → is_blank b ≡ true → Blank b
blank_found b e = first (eqb b 32) (eqb b 9) (eqb b 13) refl refl refl e
  where
    first : (s t u : Bool) → eqb b 32 ≡ s → eqb b 9 ≡ t → eqb b 13 ≡ u → (s || (t || u)) ≡ true → Blank b
    first true t u p q r h = inl (eqb-true b 32 p)
    first false true u p q r h = inr (inl (eqb-true b 9 q))
    first false false true p q r h = inr (inr (eqb-true b 13 r))
    first false false false p q r h = never cc

pub no_blank_found : (b : ℕ) → is_blank b ≡ false → NoBlank b
no_blank_found b e k = never (let t : is_blank b ≡ true = blank_test b k in cc)

pub no_blank_test : (b : ℕ) → NoBlank b → is_blank b ≡ false
no_blank_test b h = other (is_blank b) refl
  where
    other : (t : Bool) → is_blank b ≡ t → t ≡ false
    other true e = absurd (h (blank_found b e))
    other false e = refl

-- ---- parts by their bytes, for any test that ends one
module _ (ends : ℕ → Bool) where
  abbrev None : List ℕ → Type 0
  None l = Every (λ b. ends b ≡ false) l

  abbrev Parts : List ℕ → List (List ℕ) → Type 0
  Parts l [] = l ≡ []
  Parts l (part ∷ parts) =
      None part
      × (((0 < length part) × (l ≡ part) × (parts ≡ []))
      ⊎ ((b : ℕ) × (rest : List ℕ) × (ends b ≡ true) × (l ≡ part ++ (b ∷ rest)) × Parts rest parts))

  in_front : (b : ℕ) (l : List ℕ) (parts : List (List ℕ)) (t : Bool) → ends b ≡ t → Parts l parts → Parts (b ∷ l) (prepend t b parts)
  in_front b l parts true e p = (tt, inr (b, l, e, refl, p))
  in_front b l [] false e p = ((e, tt), inl (omega arith, ap (λ (x : List ℕ). b ∷ x) p, refl))
  in_front b l (part ∷ parts) false e (n, inl (h, x, y)) = ((e, n), inl (omega arith, ap (λ (x : List ℕ). b ∷ x) x, y))
  in_front b l (part ∷ parts) false e (n, inr (c, rest, h, x, y)) = ((e, n), inr (c, rest, h, ap (λ (x : List ℕ). b ∷ x) x, y))

  cut_parts : (l : List ℕ) → Parts l (cut ends l)
  unfolding cut
  cut_parts [] = refl
  cut_parts (b ∷ l) = in_front b l (cut ends l) (ends b) refl (cut_parts l)

  part_first : (part : List ℕ) (b : ℕ) (rest : List ℕ) → None part → ends b ≡ true → cut ends (part ++ (b ∷ rest)) ≡ part ∷ cut ends rest
  unfolding cut
  part_first [] b rest p e = rw e
  part_first (x ∷ part) b rest p e = rw (p.0, part_first part b rest p.1 e)

  part_last : (part : List ℕ) → 0 < length part → None part → cut ends part ≡ part ∷ []
  unfolding cut
  part_last [] h p = let z : ⊥ = omega arith in absurd z
  part_last (x ∷ []) h p = rw p.0
  part_last (x ∷ y ∷ part) h p = rw (p.0, part_last (y ∷ part) (omega arith) p.1)

  parts_cut : (l : List ℕ) (parts : List (List ℕ)) → Parts l parts → cut ends l ≡ parts
  unfolding cut
  parts_cut l [] p = rw p
  parts_cut l (part ∷ parts) (n, inl (h, x, y)) = rw (x, y) (part_last part h n)
  parts_cut l (part ∷ parts) (n, inr (b, rest, h, x, y)) = rw (x, part_first part b rest n h) (ap (λ (q : List (List ℕ)). part ∷ q) (parts_cut rest parts y))

-- ---- lines
none_feed : (l : List ℕ) → Every NoFeed l → None is_line_feed l
none_feed [] p = tt
none_feed (b ∷ l) p = (ne_eqb b 10 p.0, none_feed l p.1)

feed_none : (l : List ℕ) → None is_line_feed l → Every NoFeed l
feed_none [] p = tt
feed_none (b ∷ l) p = (eqb-false b 10 p.0, feed_none l p.1)

lines_parts : (input : List ℕ) (lines : List (List ℕ)) → AreLines input lines → Parts is_line_feed input lines
lines_parts input [] p = p
lines_parts input (line ∷ lines) (n, inl a) = (none_feed line n, inl a)
lines_parts input (line ∷ lines) (n, inr (rest, e, a)) = (none_feed line n, inr (10, rest, refl, e, lines_parts rest lines a))

parts_lines : (input : List ℕ) (lines : List (List ℕ)) → Parts is_line_feed input lines → AreLines input lines
parts_lines input [] p = p
parts_lines input (line ∷ lines) (n, inl a) = (feed_none line n, inl a)
parts_lines input (line ∷ lines) (n, inr (b, rest, h, e, a)) =
    (feed_none line n, inr (rest, e ∙ ap (λ (x : ℕ). line ++ (x ∷ rest)) (eqb-true b 10 h), parts_lines rest lines a))

-- the lines of an input, and no other list is
pub lines_exactly : (input : List ℕ) (lines : List (List ℕ)) → (lines_of input ≡ lines) ↔ AreLines input lines
unfolding lines_of
lines_exactly input lines = (
  λ e. subst (AreLines input) e (parts_lines input (cut is_line_feed input) (cut_parts is_line_feed input)),
  λ a. parts_cut is_line_feed input lines (lines_parts input lines a),
)

-- ---- words
blank_none : (l : List ℕ) → Every NoBlank l → None is_blank l
blank_none [] p = tt
blank_none (b ∷ l) p = (no_blank_test b p.0, blank_none l p.1)

none_blank : (l : List ℕ) → None is_blank l → Every NoBlank l
none_blank [] p = tt
none_blank (b ∷ l) p = (no_blank_found b p.0, none_blank l p.1)

words_led : (b : ℕ) (l : List ℕ) (words : List (List ℕ)) → Blank b → AreWords l words → AreWords (b ∷ l) words
words_led b l [] h p = (h, p)
words_led b l (word ∷ words) h (lead, rest, e, c, s, n, x, y) =
    (b ∷ lead, rest, ap (λ (q : List ℕ). b ∷ q) e, (h, c), s, n, x, y)

parts_words : (l : List ℕ) (parts : List (List ℕ)) → Parts is_blank l parts → AreWords l (non_empty parts)
unfolding non_empty
parts_words l [] p = rw p tt
parts_words l ([] ∷ parts) (n, inl (h, x, y)) = let z : ⊥ = omega arith in absurd z
parts_words l ([] ∷ parts) (n, inr (b, rest, h, x, y)) = rw x (words_led b rest (non_empty parts) (blank_found b h) (parts_words rest parts y))
parts_words l ((b ∷ part) ∷ parts) (n, inl (h, x, y)) =
    rw y ([], [], x ∙ sym (append-nil (b ∷ part)), tt, omega arith, none_blank (b ∷ part) n, tt, tt)
parts_words l ((b ∷ part) ∷ parts) (n, inr (c, rest, h, x, y)) =
    let f = blank_found c h in
    ([], c ∷ rest, x, tt, omega arith, none_blank (b ∷ part) n, f, words_led c rest (non_empty parts) f (parts_words rest parts y))

skip : (lead l : List ℕ) → Every Blank lead → words_of (lead ++ l) ≡ words_of l
unfolding words_of cut non_empty
skip [] l p = refl
skip (b ∷ lead) l p = rw (blank_test b p.0) (skip lead l p.1)

none_there : (l : List ℕ) → Every Blank l → words_of l ≡ []
unfolding words_of cut non_empty
none_there [] p = refl
none_there (b ∷ l) p = rw (blank_test b p.0) (none_there l p.1)

first_found : (word rest : List ℕ) → 0 < length word → Every NoBlank word → Ends rest → words_of (word ++ rest) ≡ word ∷ words_of rest
unfolding words_of cut non_empty
first_found word [] h n e = rw (append-nil word, part_last is_blank word h (blank_none word n)) (word_kept word [] h)
first_found word (b ∷ rest) h n e =
    rw (part_first is_blank word b rest (blank_none word n) (blank_test b e), blank_test b e) (word_kept word (cut is_blank rest) h)

words_back : (line : List ℕ) (words : List (List ℕ)) → AreWords line words → words_of line ≡ words
words_back line [] p = none_there line p
words_back line (word ∷ words) (lead, rest, e, c, s, n, x, y) =
    ap words_of e ∙ skip lead (word ++ rest) c ∙ first_found word rest s n x ∙ ap (λ (q : List (List ℕ)). word ∷ q) (words_back rest words y)

pub words_exactly : (line : List ℕ) (words : List (List ℕ)) → (words_of line ≡ words) ↔ AreWords line words
unfolding words_of
words_exactly line words = (
  λ e. subst (AreWords line) e (parts_words line (cut is_blank line) (cut_parts is_blank line)),
  words_back line words,
)

-- ---- numbers
digit_test : (b : ℕ) → Digit b → is_digit b ≡ true
digit_test b d = rw (le-leb 48 b d.0, le-leb b 57 d.1)

digit_found : (b : ℕ) → is_digit b ≡ true → Digit b
digit_found b e = let p = both (leb 48 b) (leb b 57) e in (leb-true 48 b p.0, leb-true b 57 p.1)

next_place : (v d p s : ℕ) → (10 * v + d) * p + s ≡ v * (10 * p) + (d * p + s)
next_place v d p s = rw (add-mul (10 * v) d p, mul_assoc 10 v p, mul_left_comm 10 v p, add_assoc (v * (10 * p)) (d * p) s) refl

decimal_back : (v : ℕ) (digits : List ℕ) → Every Digit digits → decimal_value v digits ≡ Some (v * 10 ^ length digits + place_sum digits)
unfolding decimal_value
decimal_back v [] p = let e : v ≡ v * 1 + 0 = omega arith in ap Some e
decimal_back v (b ∷ digits) p =
    rw (digit_test b p.0, pow-succ' 10 (length digits))
    (decimal_back (10 * v + (b - 48)) digits p.1 ∙ ap Some (next_place v (b - 48) (10 ^ length digits) (place_sum digits)))

decimal_zero : (digits : List ℕ) → Every Digit digits → decimal_value 0 digits ≡ Some (place_sum digits)
decimal_zero digits p =
    let e : 0 * 10 ^ length digits + place_sum digits ≡ place_sum digits = rw (zero-mul (10 ^ length digits)) (omega arith) in
    decimal_back 0 digits p ∙ ap Some e

only_then : (t : Bool) (x : Option ℕ) (w : ℕ) → only_if t x ≡ Some w → (t ≡ true) × (x ≡ Some w)
only_then true x w e = (refl, e)
only_then false x w e = never cc

decimal_found : (v w : ℕ) (digits : List ℕ) → decimal_value v digits ≡ Some w → Every Digit digits
unfolding decimal_value
decimal_found v w [] e = tt
decimal_found v w (b ∷ digits) e =
    let p = only_then (is_digit b) (decimal_value (10 * v + (b - 48)) digits) w e in
    (digit_found b p.0, decimal_found (10 * v + (b - 48)) w digits p.1)

number_back : (word : List ℕ) (value : ℕ) → IsNumber word value → number_read word ≡ Some value
unfolding number_read
number_back word value n =
    rw (le-leb 1 (length word) n.some, le-leb (length word) 18 n.few, n.sum) (decimal_zero word n.digits)

number_found : (word : List ℕ) (value : ℕ) → number_read word ≡ Some value → IsNumber word value
unfolding number_read
number_found word value e =
    let p = only_then (leb 1 (length word) && leb (length word) 18) (decimal_value 0 word) value e in
    let q = both (leb 1 (length word)) (leb (length word) 18) p.0 in
    let d = decimal_found 0 value word p.1 in
    let s : decimal_value 0 word ≡ Some (place_sum word) = decimal_zero word d in
    record { some = leb-true 1 (length word) q.0; few = leb-true (length word) 18 q.1; digits = d; sum = let f = p.1 in cc }

-- a word that is read as a number is one, and its value is the sum of its digits by their places
pub number_exactly : (word : List ℕ) (value : ℕ) → (number_read word ≡ Some value) ↔ IsNumber word value
number_exactly word value = (number_found word value, number_back word value)

no_minus : (b : ℕ) (word : List ℕ) (value : ℕ) → IsNumber (b ∷ word) value → eqb b 45 ≡ false
no_minus b word value n = ne_eqb b 45 (λ e. omega (arith, n.digits.0.0))

signed_back : (word : List ℕ) (size : ℕ) → IsSigned word size → size_read word ≡ Some size
unfolding size_read
signed_back [] size (inl n) = let z : ⊥ = omega (arith, n.some) in absurd z
signed_back [] size (inr (digits, e, n)) = never cc
signed_back (b ∷ word) size (inl n) = rw (no_minus b word size n) (number_back (b ∷ word) size n)
signed_back (b ∷ word) size (inr (digits, e, n)) =
    let h : b ≡ 45 = cc in
    let t : word ≡ digits = cc in
    rw (eq-eqb b 45 h, t) (number_back digits size n)

signed_found : (word : List ℕ) (size : ℕ) → size_read word ≡ Some size → IsSigned word size
unfolding size_read
signed_found [] size e = never cc
signed_found (b ∷ word) size e = first (eqb b 45) refl e
  where
    first : (t : Bool) → eqb b 45 ≡ t → cond t (number_read word) (number_read (b ∷ word)) ≡ Some size → IsSigned (b ∷ word) size
    first true h x = inr (word, ap (λ (c : ℕ). c ∷ word) (eqb-true b 45 h), number_found word size x)
    first false h x = inl (number_found (b ∷ word) size x)

pub signed_exactly : (word : List ℕ) (size : ℕ) → (size_read word ≡ Some size) ↔ IsSigned word size
signed_exactly word size = (signed_found word size, signed_back word size)
