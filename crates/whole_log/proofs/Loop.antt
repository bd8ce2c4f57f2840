-- What the loop over the digits keeps (`Running`): laws of its start, of one turn and of its end, and the bounds that its sums and shifts ask.
use mathlib.Core.Path.{◌≡◌, refl, sym, ◌∙◌, subst}
use Prim.Native.Nat.{ℕ, zero, suc, ◌+◌, ◌-◌, ◌*◌, ◌/◌, ◌^◌, ◌≤◌, ◌<◌}
use native.Mathlib.Nat.{le_trans, le_of_eq, mul-one, mul-le-mul_left}
use native.Mathlib.Omega.{arith}
use lib.Pow.{pow_pos}
use Rattle.whole_log.specs.Log.{digit_of, squared, log_from}
use Rattle.whole_log.specs.inner.Steps.{Running}
use Rattle.whole_log.proofs.Squares.{squared_in, wider}

pub start : (top m e : ℕ) → 2 ^ 31 ≤ m → m < 2 ^ 32 → e < top → Running top m e 16 m e
start top m e lo hi h = record { full = lo; short = hi; room = omega arith; rest = refl }

-- the square s of m: its digit, and its leading digits
pub record Turn (top e s : ℕ) : Type 0 where
  pub digit : s / 2 ^ 63 ≤ 1
  pub low : 2 ^ 31 ≤ s / 2 ^ (31 + s / 2 ^ 63)
  pub high : s / 2 ^ (31 + s / 2 ^ 63) < 2 ^ 32
  pub known : e < top * 65536

pub turn_facts : (top m₀ e₀ k m e s : ℕ) → Running top m₀ e₀ k m e → s ≡ m * m → Turn top e s
turn_facts top m₀ e₀ k m e s r h =
    let i = squared_in m r.full r.short in
    let l : e + 1 ≤ top * 65536 = le_trans (le_trans (le_of_eq (sym (mul-one (e + 1)))) (mul-le-mul_left (e + 1) (pow_pos k))) r.room in
    subst (Turn top e) (sym h) (record { digit = i.0; low = i.1; high = i.2; known = omega arith })

more : (k m e : ℕ) → log_from k (squared m) (2 * e + digit_of m) ≡ log_from (suc k) m e
unfolding log_from
more k m e = refl

none : (m e : ℕ) → e ≡ log_from zero m e
unfolding log_from
none m e = refl

pub turn : (top m₀ e₀ k m e s : ℕ) → Running top m₀ e₀ k m e → 0 < k → s ≡ m * m
    → Running top m₀ e₀ (k - 1) (s / 2 ^ (31 + s / 2 ^ 63)) (e + e + s / 2 ^ 63)
turn top m₀ e₀ zero m e s r l h = absurd (omega arith)
turn top m₀ e₀ (suc k) m e s r l h =
    let i = squared_in m r.full r.short in
    let twice : 2 * e + digit_of m ≡ e + e + digit_of m = omega arith in
    let next : Running top m₀ e₀ k (squared m) (2 * e + digit_of m) = record {
      full = i.1;
      short = i.2;
      room = le_trans (wider k e (digit_of m) i.0) r.room;
      rest = more k m e ∙ r.rest;
    } in
    let less : k ≡ suc k - 1 = omega arith in
    subst (λ (n : ℕ). Running top m₀ e₀ n (s / 2 ^ (31 + s / 2 ^ 63)) (e + e + s / 2 ^ 63)) less
    (subst (λ (a : ℕ). Running top m₀ e₀ k (a / 2 ^ (31 + a / 2 ^ 63)) (e + e + a / 2 ^ 63)) (sym h) (subst (Running top m₀ e₀ k (squared m)) twice next))

pub stop : (top m₀ e₀ k m e : ℕ) → Running top m₀ e₀ k m e → k ≤ 0 → (e ≡ log_from 16 m₀ e₀) × (e < top * 65536)
stop top m₀ e₀ zero m e r l = (none m e ∙ r.rest, let q = r.room in omega arith)
stop top m₀ e₀ (suc k) m e r l = absurd (omega arith)
