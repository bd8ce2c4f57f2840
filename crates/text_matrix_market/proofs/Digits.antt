-- A number as a loop reads it, digit by digit: by one step of the definition each. Eighteen digits stay below 10^18.
use Rattle.std.proofs.Common.{Option, Some, None, MatchOption, unwrap_or, Bor, nat_eq}
use lib.Pointwise.{pointwise}
use mathlib.Core.Path.{◌≡◌, refl, sym, ap, ◌∙◌}
use mathlib.Core.Bool.{Bool, true, false, ◌&&◌, and-false, and-true}
use mathlib.Core.List.{List, [], ◌∷◌}
use Prim.Native.Nat.{ℕ, ◌+◌, ◌-◌, ◌*◌, ◌^◌, ◌≤◌, ◌<◌}
use native.Mathlib.Nat.{pow-suc, pow-le-pow_right}
use native.Mathlib.Numerals.{add-one}
use native.Mathlib.Omega.{arith}
use borrow.Author.Tests.{le-leb, lt-leb, leb-true}
use lib.Dec.{eqb, leb}
use lib.ListN.{length, get_or, take, drop, drop_of_length-le}
use lib.Seq.{drop-cons}
use Rattle.text_matrix_market.specs.Numbers.{is_digit, only_if, decimal_value, number_read, size_read}

digit_to_9 : (b : ℕ) → is_digit b ≡ true → b ≤ 57
digit_to_9 b e = by (leb 48 b) (leb b 57) refl e
  where
    by : (t u : Bool) → leb b 57 ≡ u → (t && u) ≡ true → b ≤ 57
    by true true h x = leb-true b 57 h
    by true false h x = let y : ⊥ = cc in absurd y
    by false u h x = let y : ⊥ = cc in absurd y

module _ (word : List ℕ) where
  pub too_short : length word ≡ 0 → None ≡ number_read word
  unfolding number_read
  too_short h = rw (lt-leb 1 (length word) (omega arith))

  pub too_long : 18 < length word → None ≡ number_read word
  unfolding number_read
  too_long h = rw (lt-leb (length word) 18 h, and-false)

  -- the digits from place i on, behind those of `value`
  pub record Read (value i : ℕ) : Type 0 where
    pub within : i ≤ length word
    pub few : length word ≤ 18
    pub below : value < 10 ^ i
    pub same : number_read word ≡ decimal_value value (drop i word)

  pub read_none : (length word ≡ 0 → ⊥) → length word ≤ 18 → Read 0 0
  unfolding number_read
  read_none h k =
      let l : 1 ≤ length word = omega arith in
      record { within = omega arith; few = k; below = omega arith; same = rw (le-leb 1 (length word) l, le-leb (length word) 18 k) }

  module _ {value i : ℕ} (r : Read value i) where
    pub small : i < length word → value < 10 ^ 17
    small h =
        let k : i ≤ 17 = omega (arith, r.few) in
        let p : 10 ^ i ≤ 10 ^ 17 = pow-le-pow_right {n = 10} (omega arith) k in
        omega (arith, r.below)

    module _ (h : i < length word) where
      turn : decimal_value value (drop i word) ≡ only_if (is_digit (get_or word i 0)) (decimal_value (10 * value + (get_or word i 0 - 48)) (drop (i + 1) word))
      unfolding decimal_value
      turn = rw (drop-cons word i 0 h, add-one)

      pub no_digit : is_digit (get_or word i 0) ≡ false → None ≡ number_read word
      no_digit e = sym (r.same ∙ turn ∙ rw e)

      pub digit : is_digit (get_or word i 0) ≡ true → Read (10 * value + (get_or word i 0 - 48)) (i + 1)
      digit e =
          let last : get_or word i 0 ≤ 57 = digit_to_9 (get_or word i 0) e in
          record {
            within = omega arith;
            few = r.few;
            below = rw (add-one, pow-suc 10 i) (omega (arith, r.below));
            same = r.same ∙ turn ∙ rw e;
          }

    pub read_all : length word ≤ i → Some value ≡ number_read word
    unfolding decimal_value
    read_all h = sym (r.same ∙ rw (drop_of_length-le word {i = i} h))

-- ---- a minus in front
pub size_minus : (word : List ℕ) → pointwise nat_eq (take 1 word) (45 ∷ []) ≡ true → number_read (drop 1 word) ≡ size_read word
unfolding size_read
size_minus [] e = let y : ⊥ = cc in absurd y
size_minus (b ∷ word) e = let first : eqb b 45 ≡ true = sym (and-true (eqb b 45)) ∙ e in rw first

size_plain : (word : List ℕ) → pointwise nat_eq (take 1 word) (45 ∷ []) ≡ false → number_read word ≡ size_read word
unfolding size_read number_read
size_plain [] e = refl
size_plain (b ∷ word) e = let first : eqb b 45 ≡ false = sym (and-true (eqb b 45)) ∙ e in rw first

-- as `strip_prefix` takes it off
abbrev Stripped : Bor (List ℕ) → Option (Bor (List ℕ)) → Type 0
Stripped word o =
    MatchOption o (pointwise nat_eq (take 1 word.now) (45 ∷ []) ≡ false)
    (λ (x : Bor (List ℕ)). (pointwise nat_eq (take 1 word.now) (45 ∷ []) ≡ true) × (x.now ≡ drop 1 word.now) × (length x.now + 1 ≡ length word.now))

pub size_stripped : (word : Bor (List ℕ)) (o : Option (Bor (List ℕ))) → Stripped word o → number_read (unwrap_or o word).now ≡ size_read word.now
size_stripped word None h = size_plain word.now h
size_stripped word (Some x) h = ap number_read h.1 ∙ size_minus word.now h.0
