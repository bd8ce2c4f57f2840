-- A number's digits read back as the number (`number_back`), and hold no byte below the digits (`decimal_none`). By induction on the number, a tenth
-- of it at a time.
use Rattle.std.proofs.Common.{Some}
use mathlib.Core.Path.{◌≡◌, refl, sym, ap, ◌∙◌, subst, subst₂}
use mathlib.Core.Bool.{Bool, true, false}
use mathlib.Core.List.{List, [], ◌∷◌, ◌++◌, append-nil, append_assoc}
use Prim.Native.Nat.{ℕ, zero, suc, ◌+◌, ◌-◌, ◌*◌, ◌/◌, ◌%◌, ◌^◌, ◌≤◌, ◌<◌}
use native.Mathlib.Omega.{arith}
use borrow.Author.Tests.{le-leb, ltb-true, ltb-false}
use lib.Dec.{ltb}
use lib.ListN.{length, length-append}
use Rattle.text_matrix_market.specs.Numbers.{decimal_value, number_read}
use Rattle.text_report.specs.Decimal.{digit, decimal}
use Rattle.text_report.proofs.Digits.{decimal_one, decimal_more, decimal_length}
use Rattle.text_pairs_read.proofs.Parts.{None, none_append}

-- a word of digits, which leaves the reader at n
record Numeral (word : List ℕ) (n : ℕ) : Type 0 where
  some : 0 < length word
  none : (test : ℕ → Bool) → ((b : ℕ) → 48 ≤ b → test b ≡ false) → None test word
  reads : (rest : List ℕ) → decimal_value 0 (word ++ rest) ≡ decimal_value n rest

one_more : (n d : ℕ) (rest : List ℕ) → d < 10 → decimal_value n (digit d ∷ rest) ≡ decimal_value (10 * n + d) rest
unfolding decimal_value
one_more n d rest h =
    let e : 10 * n + (48 + d - 48) ≡ 10 * n + d = omega arith in
    rw (le-leb 48 (48 + d) (omega arith), le-leb (48 + d) 57 (omega arith), e)

numeral_one : (n : ℕ) → n < 10 → Numeral (digit n ∷ []) n
numeral_one n h = record {
  some = omega arith;
  none = λ test low. (low (48 + n) (omega arith), tt);
  reads = λ rest. let e : 10 * 0 + n ≡ n = omega arith in one_more 0 n rest h ∙ ap (λ (v : ℕ). decimal_value v rest) e;
}

numeral_more : (word : List ℕ) (n d : ℕ) → d < 10 → Numeral word n → Numeral (word ++ (digit d ∷ [])) (10 * n + d)
numeral_more word n d h p = record {
  some = omega (arith, p.some, length-append word (digit d ∷ []));
  none = λ test low. none_append test word (digit d ∷ []) (p.none test low) (low (48 + d) (omega arith), tt);
  reads = λ rest. ap (decimal_value 0) (append_assoc word (digit d ∷ []) rest) ∙ p.reads (digit d ∷ rest) ∙ one_more n d rest h;
}

numeral_below : (f n : ℕ) → n ≤ f → Numeral (decimal n) n
numeral_below zero n h = subst (λ (word : List ℕ). Numeral word n) (sym (decimal_one n (omega arith))) (numeral_one n (omega arith))
numeral_below (suc f) n h = go (ltb n 10) refl (numeral_below f (n / 10) (omega arith))
  where
    go : (single : Bool) → ltb n 10 ≡ single → Numeral (decimal (n / 10)) (n / 10) → Numeral (decimal n) n
    go true e p =
        let l : n < 10 = ltb-true n 10 e in
        subst (λ (word : List ℕ). Numeral word n) (sym (decimal_one n l)) (numeral_one n l)
    go false e p =
        let v : 10 * (n / 10) + n % 10 ≡ n = omega arith in
        subst₂ Numeral (sym (decimal_more n (ltb-false n 10 e))) v (numeral_more (decimal (n / 10)) (n / 10) (n % 10) (omega arith) p)

-- ---- what lines are made of
-- a number that the reader takes: at most eighteen digits
abbrev pub Taken : ℕ → Type 0
Taken n = n < 10 ^ 18

pub decimal_some : (n : ℕ) → 0 < length (decimal n)
decimal_some n = (numeral_below n n (omega arith)).some

pub decimal_none : (test : ℕ → Bool) → ((b : ℕ) → 48 ≤ b → test b ≡ false) → (n : ℕ) → None test (decimal n)
decimal_none test low n = (numeral_below n n (omega arith)).none test low

pub number_back : (n : ℕ) → Taken n → number_read (decimal n) ≡ Some n
unfolding number_read decimal_value
number_back n h =
    let l : length (decimal n) ≤ 18 = decimal_length 17 n h in
    rw (le-leb 1 (length (decimal n)) (decimal_some n), le-leb (length (decimal n)) 18 l)
    (ap (decimal_value 0) (sym (append-nil (decimal n))) ∙ (numeral_below n n (omega arith)).reads [])
