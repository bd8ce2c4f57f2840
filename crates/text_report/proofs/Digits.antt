-- A number's digits are its one digit, or those of a tenth of it and its last one (`decimal_one`, `decimal_more`); a number below 10 ^ k has at most k
-- of them (`decimal_length`). By induction on the fuel, and on k.
use mathlib.Core.Path.{◌≡◌, refl, ap, ◌∙◌}
use mathlib.Core.Bool.{Bool, true, false, false≢true}
use mathlib.Core.List.{List, [], ◌∷◌, ◌++◌}
use Prim.Native.Nat.{ℕ, zero, suc, ◌+◌, ◌/◌, ◌%◌, ◌^◌, ◌≤◌, ◌<◌}
use native.Mathlib.Nat.{pow-suc}
use native.Mathlib.Omega.{arith}
use borrow.Author.Tests.{lt-ltb, le-ltb, ltb-true, ltb-false}
use lib.Dec.{ltb}
use lib.ListN.{length, length-append}
use Rattle.text_report.specs.Decimal.{digit, digits, decimal}

-- more fuel than the number asks changes nothing
any_fuel : (f g n : ℕ) (single : Bool) → single ≡ ltb n 10 → n ≤ f → n ≤ g → digits f single n ≡ digits g single n
unfolding digits
any_fuel zero zero n single e p q = refl
any_fuel zero (suc g) n true e p q = refl
any_fuel zero (suc g) n false e p q = absurd (false≢true (e ∙ lt-ltb n 10 (omega arith)))
any_fuel (suc f) zero n true e p q = refl
any_fuel (suc f) zero n false e p q = absurd (false≢true (e ∙ lt-ltb n 10 (omega arith)))
any_fuel (suc f) (suc g) n true e p q = refl
any_fuel (suc f) (suc g) n false e p q =
    ap (λ (l : List ℕ). l ++ (digit (n % 10) ∷ [])) (any_fuel f g (n / 10) (ltb (n / 10) 10) refl (omega arith) (omega arith))

one_digit : (f n : ℕ) → digits f true n ≡ digit n ∷ []
unfolding digits
one_digit zero n = refl
one_digit (suc f) n = refl

more_digits : (f n : ℕ) → 10 ≤ n → n ≤ f → digits f false n ≡ decimal (n / 10) ++ (digit (n % 10) ∷ [])
unfolding digits decimal
more_digits zero n l p = let z : ⊥ = omega arith in absurd z
more_digits (suc f) n l p = ap (λ (l : List ℕ). l ++ (digit (n % 10) ∷ [])) (any_fuel f (n / 10) (n / 10) (ltb (n / 10) 10) refl (omega arith) (omega arith))

pub decimal_one : (n : ℕ) → n < 10 → decimal n ≡ digit n ∷ []
unfolding decimal
decimal_one n l = ap (λ (t : Bool). digits n t n) (lt-ltb n 10 l) ∙ one_digit n n

pub decimal_more : (n : ℕ) → 10 ≤ n → decimal n ≡ decimal (n / 10) ++ (digit (n % 10) ∷ [])
unfolding decimal
decimal_more n l = ap (λ (t : Bool). digits n t n) (le-ltb n 10 l) ∙ more_digits n n l (omega arith)

pub one_length : (n : ℕ) → n < 10 → length (decimal n) ≡ 1
one_length n l = ap length (decimal_one n l)

pub more_length : (n : ℕ) → 10 ≤ n → length (decimal n) ≡ length (decimal (n / 10)) + 1
more_length n l = ap length (decimal_more n l) ∙ length-append (decimal (n / 10)) (digit (n % 10) ∷ [])

pub decimal_length : (k n : ℕ) → n < 10 ^ suc k → length (decimal n) ≤ suc k
decimal_length zero n h = omega (arith, one_length n (omega arith))
decimal_length (suc k) n h = go (ltb n 10) refl (decimal_length k (n / 10) (omega (arith, pow-suc 10 (suc k))))
  where
    go : (single : Bool) → ltb n 10 ≡ single → length (decimal (n / 10)) ≤ suc k → length (decimal n) ≤ suc (suc k)
    go true e l = omega (arith, one_length n (ltb-true n 10 e))
    go false e l = omega (arith, more_length n (ltb-false n 10 e))
