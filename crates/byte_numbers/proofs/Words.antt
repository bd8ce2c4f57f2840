-- Numbers read from bytes and written as bytes, one after the other. A loop that reads has the list's first i numbers in front of what was there
-- (`fill_more`), one that writes has their bytes there (`lay_more`). By induction, and by the laws of lists.
use mathlib.Core.Path.{◌≡◌, refl, sym, ap, ap₂, ◌∙◌, subst}
use mathlib.Core.List.{List, [], ◌∷◌, ◌++◌, map, map-id, append-nil, append_assoc}
use Prim.Native.Nat.{ℕ, zero, suc, ◌+◌, ◌-◌, ◌*◌, ◌≤◌, ◌<◌}
use native.Mathlib.Nat.{not-suc-le-zero, le_of_suc-le-suc, le_of_lt, le_of_eq, add_comm, mul-suc, mul-zero, mul-le-mul_left, div-div-eq-div-mul}
use native.Mathlib.Numerals.{add-one, towards_suc}
use native.Mathlib.Omega.{arith}
use lib.ListN.{length, get_or, set, take, drop, length-append, drop_of_length-le, length-map, get_or-map}
use lib.Seq.{sets, length-sets, sets-eq, take-suc, take-length, length-take-le, take_at, drop_at, drop-drop}
use borrow.Rule.Slice.PartMut.{put_mid}
use Rattle.std.specs.Int.{w32, w64, to_le_bytes, from_le_bytes}
use Rattle.std.proofs.Common.{get_or-take, get_or-drop}
use lib.Ieee.{Float, nan, binary64, of_bits, to_bits}
use Rattle.byte_numbers.specs.Bytes.{bytes_of, number_at, list_of, words, doubles, all_bytes, word_bytes, double_bytes}

-- ---- samples, by computing

two_words : words (4 ∷ 3 ∷ 2 ∷ 1 ∷ 255 ∷ 0 ∷ 0 ∷ 128 ∷ []) 2 ≡ 0x01020304 ∷ 0x800000ff ∷ []
unfolding words list_of number_at
two_words = refl

one_word : word_bytes (0x01020304 ∷ 5 ∷ []) ≡ 4 ∷ 3 ∷ 2 ∷ 1 ∷ 5 ∷ 0 ∷ 0 ∷ 0 ∷ []
unfolding word_bytes all_bytes bytes_of
one_word = refl

infinity_and_a_nan : doubles (0 ∷ 0 ∷ 0 ∷ 0 ∷ 0 ∷ 0 ∷ 240 ∷ 127 ∷ 1 ∷ 0 ∷ 0 ∷ 0 ∷ 0 ∷ 0 ∷ 240 ∷ 255 ∷ []) 2 ≡ of_bits binary64 0x7ff0000000000000 ∷ nan ∷ []
unfolding doubles list_of number_at of_bits
infinity_and_a_nan = refl

bytes_of_a_nan : double_bytes (nan ∷ []) ≡ 0 ∷ 0 ∷ 0 ∷ 0 ∷ 0 ∷ 0 ∷ 248 ∷ 127 ∷ []
unfolding double_bytes all_bytes bytes_of to_bits
bytes_of_a_nan = refl

-- ---- one number: the library's bytes of a number, and its number of bytes, are the definitions here
pub four_bytes : (v : ℕ) → to_le_bytes w32 v ≡ bytes_of 4 v
unfolding bytes_of
four_bytes v = simp div-div-eq-div-mul

pub eight_bytes : (v : ℕ) → to_le_bytes w64 v ≡ bytes_of 8 v
unfolding bytes_of
eight_bytes v = simp div-div-eq-div-mul

-- bytes written over a part of a list
pub written : (l new bytes : List ℕ) (at count : ℕ) → at + count ≤ length l → length bytes ≡ count → new ≡ bytes
    → put_mid at (at + count - at) l new ≡ sets l at bytes
written l new bytes at count fits n e =
    let size : at + count - at ≡ length bytes = omega arith in
    rw (size, e) (sym (sets-eq bytes l at (omega arith) ∙ rw (append_assoc, drop-drop) refl))

piece : (l : List ℕ) (at count i : ℕ) → i < count → get_or (take count (drop at l)) i 0 ≡ get_or l (at + i) 0
piece l at count i h = get_or-take count (drop at l) i 0 h ∙ get_or-drop at l i 0

pub word_is : (l : List ℕ) (at : ℕ) → from_le_bytes w32 (take 4 (drop at l)) ≡ number_at 4 l at
unfolding number_at
word_is l at =
    let p = piece l at 4 in
    rw (p 0 (omega arith), p 1 (omega arith), p 2 (omega arith), p 3 (omega arith)) (simp towards_suc (omega arith))

pub long_is : (l : List ℕ) (at : ℕ) → from_le_bytes w64 (take 8 (drop at l)) ≡ number_at 8 l at
unfolding number_at
long_is l at =
    let p = piece l at 8 in
    rw (
      p 0 (omega arith),
      p 1 (omega arith),
      p 2 (omega arith),
      p 3 (omega arith),
      p 4 (omega arith),
      p 5 (omega arith),
      p 6 (omega arith),
      p 7 (omega arith),
    ) (simp towards_suc (omega arith))

-- ---- a list read from the front

module _ {A : Type 0} (f : ℕ → A) (d : List A) where
  abbrev pub filled : ℕ → List A
  filled i = list_of i f ++ drop i d

fill_suc : {A : Type 0} (n : ℕ) (f : ℕ → A) (d : List A) → n < length d → set (filled f d n) n (f n) ≡ filled f d (suc n)
unfolding list_of
fill_suc n f [] l = absurd (not-suc-le-zero l)
fill_suc zero f (x ∷ d) l = refl
fill_suc {A} (suc n) f (x ∷ d) l = ap (λ (t : List A). f 0 ∷ t) (fill_suc n (λ (i : ℕ). f (suc i)) d (le_of_suc-le-suc l))

module _ {A : Type 0} (f : ℕ → A) (d : List A) where
  pub fill_none : d ≡ filled f d 0
  unfolding list_of
  fill_none = refl

  pub fill_more : (n : ℕ) → n < length d → set (filled f d n) n (f n) ≡ filled f d (n + 1)
  fill_more n l = subst (λ (k : ℕ). set (filled f d n) n (f n) ≡ filled f d k) (sym (add-one n)) (fill_suc n f d l)

pub list_at : {A : Type 0} (n : ℕ) (f : ℕ → A) (i : ℕ) (z : A) → i < n → get_or (list_of n f) i z ≡ f i
unfolding list_of
list_at zero f i z l = absurd (not-suc-le-zero l)
list_at (suc n) f zero z l = refl
list_at (suc n) f (suc i) z l = list_at n (λ (k : ℕ). f (suc k)) i z (le_of_suc-le-suc l)

abbrev pub double_at : List ℕ → ℕ → Float
double_at bytes i = of_bits binary64 (number_at 8 bytes (8 * i))

pub double_at_lem : (bytes : List ℕ) (n i : ℕ) → i < n → get_or (doubles bytes n) i nan ≡ double_at bytes i
unfolding doubles
double_at_lem bytes n i l = list_at n (double_at bytes) i nan l

-- ---- a list laid down from the front

pub bytes_length : (w v : ℕ) → length (bytes_of w v) ≡ w
unfolding bytes_of
bytes_length zero v = refl
bytes_length (suc w) v = ap suc (bytes_length w _)

module _ (w : ℕ) where
  all_length : (vs : List ℕ) → length (all_bytes w vs) ≡ w * length vs
  unfolding all_bytes
  all_length [] = sym (mul-zero w)
  all_length (v ∷ vs) =
      length-append (bytes_of w v) (all_bytes w vs)
      ∙ ap₂ (λ (a b : ℕ). a + b) (bytes_length w v) (all_length vs)
      ∙ add_comm w (w * length vs)
      ∙ sym (mul-suc w (length vs))

  all_append : (us vs : List ℕ) → all_bytes w (us ++ vs) ≡ all_bytes w us ++ all_bytes w vs
  unfolding all_bytes
  all_append [] vs = refl
  all_append (u ∷ us) vs = ap (λ (t : List ℕ). bytes_of w u ++ t) (all_append us vs) ∙ sym (append_assoc (bytes_of w u) (all_bytes w us) (all_bytes w vs))

  all_one : (v : ℕ) → all_bytes w (v ∷ []) ≡ bytes_of w v
  unfolding all_bytes
  all_one v = append-nil (bytes_of w v)

  all_none : all_bytes w [] ≡ []
  unfolding all_bytes
  all_none = refl

module _ (w : ℕ) (vs d : List ℕ) where
  abbrev pub laid : ℕ → List ℕ
  laid i = all_bytes w (take i vs) ++ drop (w * i) d

  pub lay_none : d ≡ laid 0
  lay_none = sym (ap₂ (λ (x y : List ℕ). x ++ y) (all_none w) (ap (λ (k : ℕ). drop k d) (mul-zero w)))

  front_length : (i : ℕ) → i ≤ length vs → length (all_bytes w (take i vs)) ≡ w * i
  front_length i l = all_length w (take i vs) ∙ ap (λ (k : ℕ). w * k) (length-take-le i vs l)

  front_more : (i z : ℕ) → i < length vs → all_bytes w (take (suc i) vs) ≡ all_bytes w (take i vs) ++ bytes_of w (get_or vs i z)
  front_more i z l = ap (all_bytes w) (take-suc vs i z l) ∙ all_append w (take i vs) (get_or vs i z ∷ [])
      ∙ ap (λ (t : List ℕ). all_bytes w (take i vs) ++ t) (all_one w (get_or vs i z))

  lay_suc : (i z : ℕ) → i < length vs → length (laid i) ≡ w * length vs → sets (laid i) (w * i) (bytes_of w (get_or vs i z)) ≡ laid (suc i)
  lay_suc i z l e =
      let b = bytes_of w (get_or vs i z) in
      let front = all_bytes w (take i vs) in
      let fl : length front ≡ w * i = front_length i (le_of_lt l) in
      let end : w * i + length b ≡ w * suc i = ap (λ (k : ℕ). w * i + k) (bytes_length w (get_or vs i z)) ∙ sym (mul-suc w i) in
      let fits : w * i + length b ≤ length (laid i) =
      subst (λ (k : ℕ). w * i + length b ≤ k) (sym e) (subst (λ (k : ℕ). k ≤ w * length vs) (sym end) (mul-le-mul_left w l)) in
      sets-eq b (laid i) (w * i) fits
      ∙ ap₂ (λ (x y : List ℕ). x ++ b ++ y) (take_at front (drop (w * i) d) (w * i) fl)
      (sym (drop-drop (length b) (w * i) (laid i)) ∙ ap (drop (length b)) (drop_at front (drop (w * i) d) (w * i) fl) ∙ drop-drop (length b) (w * i) d
      ∙ ap (λ (k : ℕ). drop k d) end)
      ∙ ap (λ (x : List ℕ). x ++ drop (w * suc i) d) (sym (front_more i z l))

  pub lay_more : (i z : ℕ) → i < length vs → length (laid i) ≡ w * length vs → sets (laid i) (w * i) (bytes_of w (get_or vs i z)) ≡ laid (i + 1)
  lay_more i z l e = subst (λ (k : ℕ). sets (laid i) (w * i) (bytes_of w (get_or vs i z)) ≡ laid k) (sym (add-one i)) (lay_suc i z l e)

  -- one more, on a list that is known to be so far laid down
  lay_on : (i z : ℕ) (l : List ℕ) → i < length vs → length l ≡ w * length vs → l ≡ laid i
      → (length (sets l (w * i) (bytes_of w (get_or vs i z))) ≡ w * length vs) × (sets l (w * i) (bytes_of w (get_or vs i z)) ≡ laid (i + 1))
  lay_on i z l h n e =
      let b = bytes_of w (get_or vs i z) in
      (length-sets l (w * i) b ∙ n, ap (λ (x : List ℕ). sets x (w * i) b) e ∙ lay_more i z h (sym (ap length e) ∙ n))

  pub lay_all : length d ≡ w * length vs → laid (length vs) ≡ all_bytes w vs
  lay_all e =
      ap₂ (λ (x y : List ℕ). all_bytes w x ++ y) (take-length vs) (drop_of_length-le d {i = w * length vs} (le_of_eq e)) ∙ append-nil (all_bytes w vs)

-- the same of values that stand for numbers
module _ {A : Type 0} (w : ℕ) (number : A → ℕ) (values : List A) (d : List ℕ) where
  pub put_none : d ≡ laid w (map number values) d 0
  put_none = lay_none w (map number values) d

  -- x is value i; l is so far laid down, and r with the bytes of x too
  pub put_more : (i : ℕ) (x : A) (l r : List ℕ) → i < length values → length d ≡ w * length values → length l ≡ length d
      → x ≡ get_or values i x → l ≡ laid w (map number values) d i → r ≡ sets l (w * i) (bytes_of w (number x))
      → r ≡ laid w (map number values) d (i + 1)
  put_more i x l r k fits same here e laid_l =
      let count = length-map values number in
      let vs = map number values in
      let at : get_or vs i (number x) ≡ number x = get_or-map number values i x ∙ ap number (sym here) in
      rw (laid_l, ← at) (lay_on w vs d i (number x) l (omega arith) (rw count (same ∙ fits)) e).1

  pub put_done : length d ≡ w * length values → laid w (map number values) d (length values) ≡ all_bytes w (map number values)
  put_done fits = rw (← (length-map values number)) (lay_all w (map number values) d (rw length-map fits))

abbrev pub bits_of : List Float → List ℕ
bits_of values = map (to_bits binary64) values

pub bits_length : (values : List Float) → length (bits_of values) ≡ length values
bits_length values = length-map values (to_bits binary64)

pub bits_at : (values : List Float) (i : ℕ) → get_or (bits_of values) i (to_bits binary64 nan) ≡ to_bits binary64 (get_or values i nan)
bits_at values i = get_or-map (to_bits binary64) values i nan

pub word_bytes_are : (values : List ℕ) → all_bytes 4 (map (λ word. word) values) ≡ word_bytes values
unfolding word_bytes
word_bytes_are values = ap (all_bytes 4) (map-id values)

pub double_bytes_are : (values : List Float) → all_bytes 8 (bits_of values) ≡ double_bytes values
unfolding double_bytes
double_bytes_are values = refl

-- ---- one word

pub one_laid : (d : List ℕ) (a : ℕ) → length d ≡ 4 → sets d 0 (bytes_of 4 a) ≡ word_bytes (a ∷ [])
one_laid d a h = (lay_on 4 (a ∷ []) d 0 0 d (omega arith) h (lay_none 4 (a ∷ []) d)).1 ∙ lay_all 4 (a ∷ []) d h ∙ word_bytes_are (a ∷ [])

-- ---- eight numbers

eight_laid : (d : List ℕ) (a b c e f g p q : ℕ) → length d ≡ 64
    → sets (sets (sets (sets (sets (sets (sets (sets d 0 (bytes_of 8 a)) 8 (bytes_of 8 b)) 16 (bytes_of 8 c)) 24 (bytes_of 8 e)) 32 (bytes_of 8 f)) 40
    (bytes_of 8 g)) 48 (bytes_of 8 p)) 56 (bytes_of 8 q)
    ≡ all_bytes 8 (a ∷ b ∷ c ∷ e ∷ f ∷ g ∷ p ∷ q ∷ [])
eight_laid d a b c e f g p q h =
    let vs : List ℕ = a ∷ b ∷ c ∷ e ∷ f ∷ g ∷ p ∷ q ∷ [] in
    let s1 : List ℕ = sets d 0 (bytes_of 8 a) in
    let s2 : List ℕ = sets s1 8 (bytes_of 8 b) in
    let s3 : List ℕ = sets s2 16 (bytes_of 8 c) in
    let s4 : List ℕ = sets s3 24 (bytes_of 8 e) in
    let s5 : List ℕ = sets s4 32 (bytes_of 8 f) in
    let s6 : List ℕ = sets s5 40 (bytes_of 8 g) in
    let s7 : List ℕ = sets s6 48 (bytes_of 8 p) in
    let p0 = lay_on 8 vs d 0 0 d (omega arith) h (lay_none 8 vs d) in
    let p1 = lay_on 8 vs d 1 0 s1 (omega arith) p0.0 p0.1 in
    let p2 = lay_on 8 vs d 2 0 s2 (omega arith) p1.0 p1.1 in
    let p3 = lay_on 8 vs d 3 0 s3 (omega arith) p2.0 p2.1 in
    let p4 = lay_on 8 vs d 4 0 s4 (omega arith) p3.0 p3.1 in
    let p5 = lay_on 8 vs d 5 0 s5 (omega arith) p4.0 p4.1 in
    let p6 = lay_on 8 vs d 6 0 s6 (omega arith) p5.0 p5.1 in
    let p7 = lay_on 8 vs d 7 0 s7 (omega arith) p6.0 p6.1 in
    p7.1 ∙ lay_all 8 vs d h

-- the same of slices that are written one after the other
pub eight_written : {s1 s2 s3 s4 s5 s6 s7 s8 : List ℕ} (d : List ℕ) (a b c e f g p q : ℕ) → length d ≡ 64
    → s1 ≡ sets d 0 (bytes_of 8 a) → s2 ≡ sets s1 8 (bytes_of 8 b) → s3 ≡ sets s2 16 (bytes_of 8 c) → s4 ≡ sets s3 24 (bytes_of 8 e)
    → s5 ≡ sets s4 32 (bytes_of 8 f) → s6 ≡ sets s5 40 (bytes_of 8 g) → s7 ≡ sets s6 48 (bytes_of 8 p) → s8 ≡ sets s7 56 (bytes_of 8 q)
    → s8 ≡ all_bytes 8 (a ∷ b ∷ c ∷ e ∷ f ∷ g ∷ p ∷ q ∷ [])
eight_written d a b c e f g p q h e1 e2 e3 e4 e5 e6 e7 e8 =
    onto 56 q (onto 48 p (onto 40 g (onto 32 f (onto 24 e (onto 16 c (onto 8 b e1 e2) e3) e4) e5) e6) e7) e8 ∙ eight_laid d a b c e f g p q h
  where
    onto : {s t r : List ℕ} (k x : ℕ) → s ≡ t → r ≡ sets s k (bytes_of 8 x) → r ≡ sets t k (bytes_of 8 x)
    onto k x u w = w ∙ ap (λ (l : List ℕ). sets l k (bytes_of 8 x)) u
