-- A line is read as exactly what it states. Each law goes from what a line states to what the reader makes of it; the converse is by the cases of the
-- reader's tests.
use Rattle.std.proofs.Common.{Option, Some, None, Ok, Err}
use Rattle.refusal.specs.Refusal.{entry_line, upper_entry}
use mathlib.Core.Path.{◌≡◌, refl, sym, ap, ◌∙◌, subst}
use mathlib.Core.Bool.{Bool, true, false, ◌&&◌}
use mathlib.Core.Logic.{◌⊎◌, inl, inr, ⊎_elim, ◌↔◌}
use mathlib.Core.List.{List, [], ◌∷◌, map}
use Prim.Native.Nat.{ℕ, suc, ◌-◌, ◌*◌, ◌^◌, ◌≤◌, ◌<◌}
use native.Mathlib.Nat.{mul-zero}
use native.Mathlib.Omega.{arith}
use borrow.Author.Tests.{eq-eqb, le-leb, lt-ltb, le-ltb, ltb-true, ltb-false, eqb-true}
use lib.Dec.{eqb, ltb}
use lib.ListN.{get_or}
use Rattle.slices.proofs.Bools.{both}
use Rattle.text_matrix_market.specs.declared.banner.Kind.{Kind}
use Rattle.text_matrix_market.specs.declared.banner.Kind.TheVariants.{General, Symmetric, Pattern}
use Rattle.text_matrix_market.specs.declared.stages.Entry.{Entry}
use Rattle.text_matrix_market.specs.Text.{words_of, is_nil, is_blank_line, begins_percent}
use Rattle.text_matrix_market.specs.Numbers.{number_read, size_read, three, three_of, two_of, numbers_of}
use Rattle.text_matrix_market.specs.Banner.{lower_case, same_word, same_words, codes, banner_words, is_banner, kind_if, banner_kind}
use Rattle.text_matrix_market.specs.File.{is_within, weight_fits, is_upper, zero_based, line_entry}
use Rattle.text_matrix_market.proofs.Entries.{inside, an_entry, upper_entry_lem}
use Rattle.text_matrix_market.proofs.Fields.{same_three}
use Rattle.text_tie_file.specs.Bytes.{IsNumber, IsSigned}
use Rattle.text_tie_file.specs.Lines.{BannerOf, BlankLine, ThreeWords, TwoWords, EntryWords, InRange, Shaped, Stored, Unstored, Says}
use Rattle.text_tie_file.proofs.Bytes.{never, number_exactly, signed_exactly}

-- ---- blank lines and comments
nil_test : (words : List (List ℕ)) → words ≡ [] → is_nil words ≡ true
nil_test [] e = refl
nil_test (word ∷ words) e = never cc

nil_found : (words : List (List ℕ)) → is_nil words ≡ true → words ≡ []
nil_found [] e = refl
nil_found (word ∷ words) e = never cc

pub blank_exactly : (line : List ℕ) → (is_blank_line line ≡ true) ↔ BlankLine line
unfolding is_blank_line
blank_exactly line = (nil_found (words_of line), nil_test (words_of line))

pub percent_exactly : (line : List ℕ) → (begins_percent line ≡ true) ↔ (get_or line 0 0 ≡ 37)
unfolding begins_percent
percent_exactly [] = (λ e. never cc, λ e. let z : ⊥ = omega arith in absurd z)
percent_exactly (b ∷ line) = (eqb-true b 37, eq-eqb b 37)

-- a test that does not hold
pub denied : {t : Bool} {P : Type 0} → (t ≡ true) ↔ P → (P → ⊥) → t ≡ false
denied {t} {P} h n = other t refl
  where
    other : (s : Bool) → t ≡ s → s ≡ false
    other true e = absurd (n (h.0 e))
    other false e = refl

-- ---- the banner
same_word_lem : (word name : List ℕ) → (same_word word name ≡ true) ↔ (map lower_case word ≡ name)
unfolding same_word
same_word_lem [] [] = (λ e. refl, λ e. refl)
same_word_lem [] (y ∷ name) = (λ e. never cc, λ e. never cc)
same_word_lem (x ∷ word) [] = (λ e. never cc, λ e. never cc)
same_word_lem (x ∷ word) (y ∷ name) = (
  λ e.
      let p = both (eqb (lower_case x) y) (same_word word name) e in
      let h : lower_case x ≡ y = eqb-true (lower_case x) y p.0 in
      let t : map lower_case word ≡ name = (same_word_lem word name).0 p.1 in
      rw (h, t) refl,
  λ e.
      let h : lower_case x ≡ y = cc in
      let t : map lower_case word ≡ name = cc in
      rw (eq-eqb (lower_case x) y h) ((same_word_lem word name).1 t),
)

same_words_lem : (words names : List (List ℕ)) → (same_words words names ≡ true) ↔ (map (map lower_case) words ≡ names)
unfolding same_words
same_words_lem [] [] = (λ e. refl, λ e. refl)
same_words_lem [] (y ∷ names) = (λ e. never cc, λ e. never cc)
same_words_lem (x ∷ words) [] = (λ e. never cc, λ e. never cc)
same_words_lem (x ∷ words) (y ∷ names) = (
  λ e.
      let p = both (same_word x y) (same_words words names) e in
      let h : map lower_case x ≡ y = (same_word_lem x y).0 p.0 in
      let t : map (map lower_case) words ≡ names = (same_words_lem words names).0 p.1 in
      rw (h, t) refl,
  λ e.
      let h : map lower_case x ≡ y = cc in
      let t : map (map lower_case) words ≡ names = cc in
      rw ((same_word_lem x y).1 h) ((same_words_lem words names).1 t),
)

-- the test that the reader makes for a kind
abbrev kind_test : Kind → List ℕ → Bool
kind_test General line = is_banner (codes "integer") (codes "general") line
kind_test Symmetric line = is_banner (codes "integer") (codes "symmetric") line
kind_test Pattern line = is_banner (codes "pattern") (codes "general") line

test_banner : (field symmetry line : List ℕ)
    → (is_banner field symmetry line ≡ true) ↔ ((get_or line 0 0 ≡ 37) × (map (map lower_case) (words_of line) ≡ banner_words field symmetry))
unfolding is_banner
test_banner field symmetry line = (
  λ e.
      let p = both (begins_percent line) (same_words (words_of line) (banner_words field symmetry)) e in
      ((percent_exactly line).0 p.0, (same_words_lem (words_of line) (banner_words field symmetry)).0 p.1),
  λ p. rw ((percent_exactly line).1 p.0) ((same_words_lem (words_of line) (banner_words field symmetry)).1 p.1),
)

kind_test_lem : (kind : Kind) (line : List ℕ) → (kind_test kind line ≡ true) ↔ BannerOf kind line
kind_test_lem General line = let t = test_banner (codes "integer") (codes "general") line in
    (λ e. record { first = (t.0 e).0; words = (t.0 e).1 }, λ b. t.1 (b.first, b.words))
kind_test_lem Symmetric line = let t = test_banner (codes "integer") (codes "symmetric") line in
    (λ e. record { first = (t.0 e).0; words = (t.0 e).1 }, λ b. t.1 (b.first, b.words))
kind_test_lem Pattern line = let t = test_banner (codes "pattern") (codes "general") line in
    (λ e. record { first = (t.0 e).0; words = (t.0 e).1 }, λ b. t.1 (b.first, b.words))

-- no line is the banner of two kinds: their words differ
-- a letter in which they differ
abbrev letter : ℕ → List (List ℕ) → ℕ
letter k words = get_or (get_or words k []) 0 0

symmetric_not_general : (line : List ℕ) → BannerOf Symmetric line → BannerOf General line → ⊥
symmetric_not_general line s g = let e : ◌≡◌ {A = ℕ} 115 103 = ap (letter 4) (sym s.words ∙ g.words) in omega arith

pattern_not_general : (line : List ℕ) → BannerOf Pattern line → BannerOf General line → ⊥
pattern_not_general line s g = let e : ◌≡◌ {A = ℕ} 112 105 = ap (letter 3) (sym s.words ∙ g.words) in omega arith

pattern_not_symmetric : (line : List ℕ) → BannerOf Pattern line → BannerOf Symmetric line → ⊥
pattern_not_symmetric line s g = let e : ◌≡◌ {A = ℕ} 112 105 = ap (letter 3) (sym s.words ∙ g.words) in omega arith

banner_back : (kind : Kind) (line : List ℕ) → BannerOf kind line → banner_kind line ≡ Some kind
unfolding banner_kind
banner_back General line b = rw ((kind_test_lem General line).1 b)
banner_back Symmetric line b = rw (denied (kind_test_lem General line) (symmetric_not_general line b), (kind_test_lem Symmetric line).1 b)
banner_back Pattern line b =
    rw (
      denied (kind_test_lem General line) (pattern_not_general line b),
      denied (kind_test_lem Symmetric line) (pattern_not_symmetric line b),
      (kind_test_lem Pattern line).1 b,
    )

banner_found : (kind : Kind) (line : List ℕ) → banner_kind line ≡ Some kind → BannerOf kind line
unfolding banner_kind
banner_found kind line e = first (kind_test General line) (kind_test Symmetric line) (kind_test Pattern line) refl refl refl e
  where
    first : (s t u : Bool) → kind_test General line ≡ s → kind_test Symmetric line ≡ t → kind_test Pattern line ≡ u
        → kind_if s General (kind_if t Symmetric (kind_if u Pattern None)) ≡ Some kind → BannerOf kind line
    first true t u p q r x = let k : General ≡ kind = cc in subst (λ (y : Kind). BannerOf y line) k ((kind_test_lem General line).0 p)
    first false true u p q r x = let k : Symmetric ≡ kind = cc in subst (λ (y : Kind). BannerOf y line) k ((kind_test_lem Symmetric line).0 q)
    first false false true p q r x = let k : Pattern ≡ kind = cc in subst (λ (y : Kind). BannerOf y line) k ((kind_test_lem Pattern line).0 r)
    first false false false p q r x = never cc

pub banner_exactly : (kind : Kind) (line : List ℕ) → (banner_kind line ≡ Some kind) ↔ BannerOf kind line
banner_exactly kind line = (banner_found kind line, banner_back kind line)

-- a line is a banner or none
pub banner_told : (line : List ℕ) → ((kind : Kind) × BannerOf kind line) ⊎ ((banner_kind line ≡ None) × ((kind : Kind) → BannerOf kind line → ⊥))
banner_told line = first (banner_kind line) refl
  where
    first : (r : Option Kind) → banner_kind line ≡ r → ((kind : Kind) × BannerOf kind line)
        ⊎ ((banner_kind line ≡ None) × ((kind : Kind) → BannerOf kind line → ⊥))
    first (Some kind) e = inl (kind, banner_found kind line e)
    first None e = inr (e, λ kind b. never (let x : banner_kind line ≡ Some kind = banner_back kind line b in cc))

-- ---- numbers of a line
abbrev Exactly : (List ℕ → Option ℕ) → (List ℕ → ℕ → Type 0) → Type 0
Exactly read P = (word : List ℕ) (value : ℕ) → (read word ≡ Some value) ↔ P word value

three_known : (x y z : Option ℕ) (a b c : ℕ) → three x y z ≡ Some (a, b, c) → (x ≡ Some a) × (y ≡ Some b) × (z ≡ Some c)
three_known None y z a b c e = never cc
three_known (Some x) None z a b c e = never cc
three_known (Some x) (Some y) None a b c e = never cc
three_known (Some x) (Some y) (Some z) a b c e =
    let same = same_three e in (ap Some same.0, ap Some same.1, ap Some same.2)

module _ (read : List ℕ → Option ℕ) (P : List ℕ → ℕ → Type 0) (exactly : Exactly read P) (line : List ℕ) (a b c : ℕ) where
  three_back : ThreeWords P line a b c → three_of read (words_of line) ≡ Some (a, b, c)
  unfolding three_of
  three_back t = rw (t.words, (number_exactly t.first a).1 t.is_first, (number_exactly t.second b).1 t.is_second, (exactly t.third c).1 t.is_third)

  three_by : (words : List (List ℕ)) → words_of line ≡ words → three_of read words ≡ Some (a, b, c) → ThreeWords P line a b c
  unfolding three_of
  three_by [] w e = never cc
  three_by (x ∷ []) w e = never cc
  three_by (x ∷ y ∷ []) w e = never cc
  three_by (x ∷ y ∷ z ∷ []) w e =
      let k = three_known (number_read x) (number_read y) (read z) a b c e in
      record {
        first = x;
        second = y;
        third = z;
        words = w;
        is_first = (number_exactly x a).0 k.0;
        is_second = (number_exactly y b).0 k.1;
        is_third =
            (exactly z c).0 k.2;
      }
  three_by (x ∷ y ∷ z ∷ u ∷ words) w e = never cc

two_back : (line : List ℕ) (a b : ℕ) → TwoWords line a b → two_of (words_of line) ≡ Some (a, b, 0)
unfolding two_of
two_back line a b t = rw (t.words, (number_exactly t.first a).1 t.is_first, (number_exactly t.second b).1 t.is_second)

two_by : (line : List ℕ) (a b c : ℕ) (words : List (List ℕ)) → words_of line ≡ words → two_of words ≡ Some (a, b, c) → TwoWords line a b × (c ≡ 0)
unfolding two_of
two_by line a b c [] w e = never cc
two_by line a b c (x ∷ []) w e = never cc
two_by line a b c (x ∷ y ∷ []) w e =
    let k = three_known (number_read x) (number_read y) (Some 0) a b c e in
    let z = k.2 in
    (record { first = x; second = y; words = w; is_first = (number_exactly x a).0 k.0; is_second = (number_exactly y b).0 k.1 }, cc)
two_by line a b c (x ∷ y ∷ z ∷ words) w e = never cc

-- what a kind's line is read as is what its words say
pub numbers_exactly : (kind : Kind) (line : List ℕ) (a b c : ℕ) → (numbers_of kind line ≡ Some (a, b, c)) ↔ EntryWords kind line a b c
unfolding numbers_of
numbers_exactly General line a b c =
    (three_by number_read IsNumber number_exactly line a b c (words_of line) refl, three_back number_read IsNumber number_exactly line a b c)
numbers_exactly Symmetric line a b c =
    (three_by size_read IsSigned signed_exactly line a b c (words_of line) refl, three_back size_read IsSigned signed_exactly line a b c)
numbers_exactly Pattern line a b c = (two_by line a b c (words_of line) refl, λ p. two_back line a b p.0 ∙ ap (λ (z : ℕ). Some (a, b, z)) (sym p.1))

-- ---- an entry line
weight_test : (kind : Kind) (line : List ℕ) (n row column weight : ℕ) → EntryWords kind line row column weight → InRange kind n weight
    → weight_fits kind n weight ≡ true
weight_test General line n row column weight w h = lt-ltb (n * weight) (2 ^ 48) h
weight_test Symmetric line n row column weight w h = lt-ltb weight (2 ^ 53) h
weight_test Pattern line n row column weight w h = let e : n * weight ≡ 0 = rw (w.1, mul-zero) in lt-ltb (n * weight) (2 ^ 48) (omega arith)

weight_found : (kind : Kind) (n weight : ℕ) → weight_fits kind n weight ≡ true → InRange kind n weight
weight_found General n weight e = ltb-true (n * weight) (2 ^ 48) e
weight_found Symmetric n weight e = ltb-true weight (2 ^ 53) e
weight_found Pattern n weight e = tt

within_test : (n i : ℕ) → i < n → is_within n (suc i) ≡ true
within_test n i h = rw (le-leb 1 (suc i) (omega arith), le-leb (suc i) n (omega arith))

stored_test : (kind : Kind) (e : Entry) → Stored kind e → is_upper kind (suc e.row) (suc e.column) ≡ false
stored_test General e h = refl
stored_test Symmetric e h = le-ltb (suc e.row) (suc e.column) (omega arith)
stored_test Pattern e h = refl

unstored_test : (kind : Kind) (e : Entry) → Unstored kind e → is_upper kind (suc e.row) (suc e.column) ≡ true
unstored_test General e h = absurd h
unstored_test Symmetric e h = lt-ltb (suc e.row) (suc e.column) (omega arith)
unstored_test Pattern e h = absurd h

from_zero : (e : Entry) → zero_based (suc e.row) (suc e.column) e.weight ≡ e
from_zero e =
    let r : suc e.row - 1 ≡ e.row = omega arith in
    let c : suc e.column - 1 ≡ e.column = omega arith in
    rw (r, c) refl

module _ (kind : Kind) (n : ℕ) (line : List ℕ) (e : Entry) (s : Shaped kind n line e) where
  numbers_there : numbers_of kind line ≡ Some (suc e.row, suc e.column, e.weight)
  numbers_there = (numbers_exactly kind line (suc e.row) (suc e.column) e.weight).1 s.words

  weight_there : weight_fits kind n e.weight ≡ true
  weight_there = weight_test kind line n (suc e.row) (suc e.column) e.weight s.words s.weight

  pub says_read : Stored kind e → line_entry kind n line ≡ Ok e
  says_read h =
      sym (an_entry kind n line numbers_there (within_test n e.row s.row) (within_test n e.column s.column) weight_there (stored_test kind e h))
      ∙ ap Ok (from_zero e)

  pub above_read : Unstored kind e → line_entry kind n line ≡ Err upper_entry
  above_read h =
      sym (upper_entry_lem kind n line numbers_there (within_test n e.row s.row) (within_test n e.column s.column) weight_there
      (unstored_test kind e h))

stored_or_not : (kind : Kind) (e : Entry) → Stored kind e ⊎ Unstored kind e
stored_or_not General e = inl tt
stored_or_not Symmetric e = first (ltb e.row e.column) refl
  where
    first : (t : Bool) → ltb e.row e.column ≡ t → (e.column ≤ e.row) ⊎ (e.row < e.column)
    first true h = inr (ltb-true e.row e.column h)
    first false h = inl (ltb-false e.row e.column h)
stored_or_not Pattern e = inl tt

-- a line says an entry, has the shape of one that is not stored, or of none
pub data Told (kind : Kind) (n : ℕ) (line : List ℕ) : Type 0 where
  says : (e : Entry) → Says kind n line e → Told kind n line
  above : (e : Entry) → Shaped kind n line e → Unstored kind e → Told kind n line
  nothing : line_entry kind n line ≡ Err entry_line → ((e : Entry) → Shaped kind n line e → ⊥) → Told kind n line

no_shape : (kind : Kind) (n : ℕ) (line : List ℕ) → line_entry kind n line ≡ Err entry_line → (e : Entry) → Shaped kind n line e → ⊥
no_shape kind n line x e s =
    never (⊎_elim (λ h. let y : line_entry kind n line ≡ Ok e = says_read kind n line e s h in cc) (λ h. let y : line_entry kind n line ≡ Err upper_entry =
    above_read kind n line e s h in cc) (stored_or_not kind e))

shape_by : (kind : Kind) (n : ℕ) (line : List ℕ) (row column weight : ℕ) → numbers_of kind line ≡ Some (row, column, weight)
    → is_within n row ≡ true → is_within n column ≡ true → weight_fits kind n weight ≡ true → Shaped kind n line (zero_based row column weight)
shape_by kind n line row column weight e h k w =
    let i = inside n row h in
    let j = inside n column k in
    let r : suc (row - 1) ≡ row = omega (arith, i.0) in
    let c : suc (column - 1) ≡ column = omega (arith, j.0) in
    record {
      words = rw (r, c) ((numbers_exactly kind line row column weight).0 e);
      row = omega (arith, i.0, i.1);
      column =
          omega (arith, j.0, j.1);
      weight = weight_found kind n weight w;
    }

pub entry_told : (kind : Kind) (n : ℕ) (line : List ℕ) → Told kind n line
unfolding line_entry
entry_told kind n line = by (numbers_of kind line) refl
  where
    when : (row column weight : ℕ) (t : Bool) → numbers_of kind line ≡ Some (row, column, weight)
        → (is_within n row && (is_within n column && weight_fits kind n weight)) ≡ t → Told kind n line
    when row column weight true e h =
        let p = both (is_within n row) (is_within n column && weight_fits kind n weight) h in
        let q = both (is_within n column) (weight_fits kind n weight) p.1 in
        let x = zero_based row column weight in
        let s : Shaped kind n line x = shape_by kind n line row column weight e p.0 q.0 q.1 in
        ⊎_elim (λ i. says x (s, i)) (λ i. above x s i) (stored_or_not kind x)
    when row column weight false e h = let x : line_entry kind n line ≡ Err entry_line = rw (e, h) in nothing x (no_shape kind n line x)

    by : (x : Option (ℕ × ℕ × ℕ)) → numbers_of kind line ≡ x → Told kind n line
    by None e = let x : line_entry kind n line ≡ Err entry_line = rw e in nothing x (no_shape kind n line x)
    by (Some (row, column, weight)) e = when row column weight _ e refl
