-- What is written as bytes reads back: numbers that their width holds, and doubles, of which a NaN has one pattern. By induction over the bytes of a
-- number, then over the list.
use mathlib.Core.Path.{◌≡◌, refl, sym, ap, ap₂, ◌∙◌, subst}
use mathlib.Core.List.{List, [], ◌∷◌, ◌++◌, map, map-id}
use Prim.Native.Nat.{ℕ, zero, suc, ◌+◌, ◌*◌, ◌/◌, ◌%◌, ◌^◌, ◌<◌}
use native.Mathlib.Nat.{mul-suc, mul-zero, add_comm, pow-suc, div-lt_iff_lt-mul, zero-lt-suc}
use native.Mathlib.Omega.{arith}
use lib.Dec.{T}
use lib.ListN.{length, get_or, drop}
use lib.Seq.{sets, sets-eq}
use lib.Ieee.{Float, nan, binary64, fits, of_bits, to_bits}
use lib.Ieee.Bits.{of_bits-to_bits, to_bits-lt}
use Rattle.byte_numbers.specs.Bytes.{bytes_of, number_at, list_of, words, longs, doubles, all_bytes, word_bytes, double_bytes}
use Rattle.byte_numbers.proofs.Words.{bytes_length}

-- ---- one number
-- the bytes in front are passed
at_next : (w b : ℕ) (l : List ℕ) (k : ℕ) → number_at w (b ∷ l) (suc k) ≡ number_at w l k
unfolding number_at
at_next zero b l k = refl
at_next (suc w) b l k = ap (λ (x : ℕ). get_or l k 0 + 256 * x) (at_next w b l (suc k))

at_behind : (w : ℕ) (a b : List ℕ) (k m : ℕ) → m ≡ length a + k → number_at w (a ++ b) m ≡ number_at w b k
at_behind w [] b k m e = ap (number_at w b) (omega arith)
at_behind w (x ∷ a) b k zero e = absurd (omega arith)
at_behind w (x ∷ a) b k (suc m) e = at_next w x (a ++ b) m ∙ at_behind w a b k m (omega arith)

-- a number that w bytes hold
pub number_back : (w v : ℕ) (rest : List ℕ) → v < 256 ^ w → number_at w (bytes_of w v ++ rest) 0 ≡ v
unfolding number_at bytes_of
number_back zero v rest h = omega arith
number_back (suc w) v rest h =
    let less : v / 256 < 256 ^ w = (div-lt_iff_lt-mul (zero-lt-suc 255)).1 (rw (pow-suc 256 w) at h) in
    let back : number_at w (v % 256 ∷ (bytes_of w (v / 256) ++ rest)) 1 ≡ v / 256 =
    at_next w (v % 256) (bytes_of w (v / 256) ++ rest) 0 ∙ number_back w (v / 256) rest less in
    ap (λ (x : ℕ). v % 256 + 256 * x) back ∙ omega arith

-- ---- lists
list_same : {A : Type 0} (n : ℕ) (f g : ℕ → A) → ((i : ℕ) → f i ≡ g i) → list_of n f ≡ list_of n g
unfolding list_of
list_same zero f g e = refl
list_same (suc n) f g e = ap₂ ◌∷◌ (e 0) (list_same n (λ (i : ℕ). f (suc i)) (λ (i : ℕ). g (suc i)) (λ i. e (suc i)))

-- values that are numbers of w bytes in some form, each of which has its value back
module _ {A : Type 0} (w : ℕ) (form : A → ℕ) (value : ℕ → A) (z : A) where
  list_back : (l : List A) → ((i : ℕ) → i < length l → (form (get_or l i z) < 256 ^ w) × (value (form (get_or l i z)) ≡ get_or l i z))
      → list_of (length l) (λ (i : ℕ). value (number_at w (all_bytes w (map form l)) (w * i))) ≡ l
  unfolding list_of all_bytes
  list_back [] h = refl
  list_back (x ∷ l) h =
      let o = h 0 (omega arith) in
      ap₂ ◌∷◌
      (ap value (ap (number_at w (bytes_of w (form x) ++ all_bytes w (map form l))) (mul-zero w) ∙ number_back w (form x) (all_bytes w (map form l)) o.0) ∙ o.1)
      (list_same (length l) _ _
      (λ i. ap value (at_behind w (bytes_of w (form x)) (all_bytes w (map form l)) (w * i) (w * suc i)
      (mul-suc w i ∙ add_comm (w * i) w ∙ ap (λ (k : ℕ). k + w * i) (sym (bytes_length w (form x))))))
      ∙ list_back l (λ i k. h (suc i) (omega arith)))

numbers_back : (w : ℕ) (l : List ℕ) → ((i : ℕ) → i < length l → get_or l i 0 < 256 ^ w) → list_of (length l) (λ (i : ℕ). number_at w (all_bytes w l) (w * i)) ≡ l
numbers_back w l h =
    subst (λ (k : List ℕ). list_of (length l) (λ (i : ℕ). number_at w (all_bytes w k) (w * i)) ≡ l) (map-id l)
    (list_back w (λ (x : ℕ). x) (λ (x : ℕ). x) 0 l (λ i k. (h i k, refl)))

pub words_back : (l : List ℕ) → ((i : ℕ) → i < length l → get_or l i 0 < 2 ^ 32) → words (word_bytes l) (length l) ≡ l
unfolding words word_bytes
words_back l h = numbers_back 4 l h

pub longs_back : (l : List ℕ) → ((i : ℕ) → i < length l → get_or l i 0 < 2 ^ 64) → longs (all_bytes 8 l) (length l) ≡ l
unfolding longs
longs_back l h = numbers_back 8 l h

pub doubles_back : (l : List Float) → ((i : ℕ) → i < length l → T (fits binary64 (get_or l i nan))) → doubles (double_bytes l) (length l) ≡ l
unfolding doubles double_bytes
doubles_back l h = list_back 8 (to_bits binary64) (of_bits binary64) nan l
    (λ i k. (to_bits-lt binary64 (get_or l i nan) (h i k), of_bits-to_bits binary64 (get_or l i nan) (h i k)))

-- 8 bytes laid over 8 bytes, read as a double
pub double_back : (old : List ℕ) (x : Float) → length old ≡ 8 → T (fits binary64 x)
    → of_bits binary64 (number_at 8 (sets old 0 (bytes_of 8 (to_bits binary64 x))) 0) ≡ x
double_back old x h t =
    let b = bytes_of 8 (to_bits binary64 x) in
    let n : length b ≡ 8 = bytes_length 8 (to_bits binary64 x) in
    ap (λ (l : List ℕ). of_bits binary64 (number_at 8 l 0)) (sets-eq b old 0 (omega arith))
    ∙ ap (of_bits binary64) (number_back 8 (to_bits binary64 x) (drop (0 + length b) old) (to_bits-lt binary64 x t))
    ∙ of_bits-to_bits binary64 x t
