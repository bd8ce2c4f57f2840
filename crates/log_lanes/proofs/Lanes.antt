-- Laws of lanes and of the words made of them: one digit by words of 32 digits (`word`), one lane written (`put_lane`), the stages of a pass, the
-- sixteen digits of a lane (by whole_log's `Running`), the words of one block more (`going_on`), and what a word stands for (`lane_word`).
use mathlib.Core.Path.{◌≡◌, refl, sym, ap, ◌∙◌, subst}
use mathlib.Core.Bool.{true, false}
use mathlib.Core.Logic.{◌≢◌}
use mathlib.Core.List.{List, ◌++◌}
use Prim.Native.Nat.{ℕ, ◌+◌, ◌-◌, ◌*◌, ◌/◌, ◌%◌, ◌^◌, ◌≤◌, ◌<◌}
use native.Mathlib.Nat.{le_refl}
use native.Mathlib.Decide.{ℕ_discrete, dec_lt}
use native.Mathlib.Omega.{arith}
use lib.Dec.{ltb, lt→ltb, ltb→lt}
use lib.Ieee.{Float, nan}
use lib.ListN.{length, get_or, set, drop, length-append, length-take, length-drop, get_or-append}
use borrow.Rule.Slice.PartMut.{put_mid}
use Rattle.std.proofs.Common.{rules, get_or-drop}
use Rattle.std.proofs.lemmas.List.{places}
use lib.Seq.{get_or-set_same, get_or-set_other, drop_at, drop-drop}
use Rattle.refusal.specs.Refusal.{value_not_finite}
use Rattle.slices.proofs.Bools.{same_test}
use Rattle.whole_log.specs.Log.{digit_of, squared, log_from, from_units, whole_log}
use Rattle.std.specs.Prelude.{Ok, Err}
use Rattle.whole_log.specs.inner.Steps.{Running}
use Rattle.whole_log.proofs.Loop.{start, turn_facts, turn}
use Rattle.whole_log.proofs.Squares.{halves, log_range}
use Rattle.log_lanes.specs.inner.Lanes.{Ready, Every, Answered, Words, answer_of, no_log}

-- ---- one digit

-- s is a square, put together from hh, hl and ll; its upper word, and the digit behind that
pub record Word (s upper carried : ℕ) : Type 0 where
  pub is_upper_lem : upper ≡ s / 2 ^ 32
  pub behind : carried / 2 ^ 14 % 2 ≡ s / 2 ^ 31 % 2
  pub short : s < 2 ^ 64

pub word : (m hh hl ll : ℕ) → m < 2 ^ 32 → hh ≡ m / 2 ^ 16 * (m / 2 ^ 16) → hl ≡ m / 2 ^ 16 * (m % 2 ^ 16) → ll ≡ m % 2 ^ 16 * (m % 2 ^ 16)
    → Word (m * m) (hh + hl / 2 ^ 15 + (ll / 2 ^ 17 + hl % 2 ^ 15) / 2 ^ 15) (ll / 2 ^ 17 + hl % 2 ^ 15)
word m hh hl ll h a b c =
    let s : hh * 2 ^ 32 + hl * 2 ^ 17 + ll ≡ m * m = rw (a, b, c) (halves m h).whole in
    record { is_upper_lem = omega arith; behind = omega arith; short = (halves m h).short }

-- both cases of the digit
pub digit_one : (m u : ℕ) → u ≡ m * m / 2 ^ 32 → m * m < 2 ^ 64 → u / 2 ^ 31 ≢ 0 → (u ≡ squared m) × (u / 2 ^ 31 ≡ digit_of m)
digit_one m u e l n =
    let d : digit_of m ≡ 1 = omega arith in
    (e ∙ sym (ap (λ (b : ℕ). m * m / 2 ^ (31 + b)) d), omega arith)

pub digit_none : (m u t : ℕ) → Word (m * m) u t → u / 2 ^ 31 ≡ 0 → (u + u + t / 2 ^ 14 % 2 ≡ squared m) × (digit_of m ≡ 0)
digit_none m u t w n =
    let d : digit_of m ≡ 0 = omega (arith, w.is_upper_lem) in
    let s : u + u + t / 2 ^ 14 % 2 ≡ m * m / 2 ^ 31 = omega (arith, w.is_upper_lem, w.behind) in
    (s ∙ sym (ap (λ (b : ℕ). m * m / 2 ^ (31 + b)) d), d)

-- ---- one lane written
pub put_lane : (P : ℕ → ℕ → ℕ → Type 0) (leading known : List ℕ) (i m e : ℕ) → i < length leading → i < length known
    → ((j : ℕ) → j < 16 → j ≢ i → P j (get_or leading j 0) (get_or known j 0)) → P i m e → Every P (set leading i m) (set known i e)
put_lane P leading known i m e l k others here j h = go j h (ℕ_discrete j i)
  where
    go : (j : ℕ) → j < 16 → Dec (j ≡ i) → P j (get_or (set leading i m) j 0) (get_or (set known i e) j 0)
    go j h (yes q) = rw (q, get_or-set_same leading i m 0 l, get_or-set_same known i e 0 k) here
    go j h (no q) = rw (get_or-set_other leading i j m 0 q, get_or-set_other known i j e 0 q) (others j h q)

-- ---- a pass over the lanes: those below i have one digit more
pub record Stage (leading known : List ℕ) (i j m e : ℕ) : Type 0 where
  pub done : j < i → (m ≡ squared (get_or leading j 0)) × (e ≡ 2 * get_or known j 0 + digit_of (get_or leading j 0))
  pub left : i ≤ j → (m ≡ get_or leading j 0) × (e ≡ get_or known j 0)

pub pass_start : (leading known : List ℕ) → Every (Stage leading known 0) leading known
pass_start leading known j h = record { done = λ l. absurd (let z : ⊥ = omega arith in z); left = λ l. (refl, refl) }

-- lane i stands as it stood, and so has what the pass asks
pub pass_here : (leading known l k : List ℕ) (i : ℕ) → i < 16 → Every (Stage leading known i) l k
    → Every (λ j m e. (2 ^ 31 ≤ m) × (e < 2 ^ 30)) leading known → (2 ^ 31 ≤ get_or l i 0) × (get_or k i 0 < 2 ^ 30)
pass_here leading known l k i h s r = let p = (s i h).left (le_refl i) in let q = r i h in (omega (arith, p.0, q.0), omega (arith, p.1, q.1))

pub pass_next : (leading known l k : List ℕ) (i m e : ℕ) → i < 16 → i < length l → i < length k → Every (Stage leading known i) l k
    → (m ≡ squared (get_or l i 0)) × (e ≡ 2 * get_or k i 0 + digit_of (get_or l i 0)) → Every (Stage leading known (i + 1)) (set l i m) (set k i e)
pass_next leading known l k i m e h p q s made =
    let had = (s i h).left (le_refl i) in
    put_lane (Stage leading known (i + 1)) l k i m e p q
    (λ j h d. record { done = λ r. (s j h).done (omega arith); left = λ r. (s j h).left (omega arith) })
    (record { done = λ r. rw (← had.0, ← had.1) made; left = λ r. absurd (let z : ⊥ = omega arith in z) })

-- ---- the sixteen digits of a lane
pub lane_start : (m e : ℕ) → Ready m e → Running 2099 m e 16 m e
lane_start m e r = start 2099 m e r.full r.short r.room

pub lane_turn : (m₀ e₀ k m e m' e' : ℕ) → Running 2099 m₀ e₀ k m e → 0 < k → m' ≡ squared m → e' ≡ 2 * e + digit_of m
    → Running 2099 m₀ e₀ (k - 1) m' e'
lane_turn m₀ e₀ k m e m' e' r l p q =
    let t : Running 2099 m₀ e₀ (k - 1) (squared m) (e + e + digit_of m) = turn 2099 m₀ e₀ k m e (m * m) r l refl in
    let d : e + e + digit_of m ≡ e' = omega arith in
    subst (λ (x : ℕ). Running 2099 m₀ e₀ (k - 1) x e') (sym p) (subst (λ (x : ℕ). Running 2099 m₀ e₀ (k - 1) (squared m) x) d t)

pub lane_known : (m₀ e₀ k m e : ℕ) → Running 2099 m₀ e₀ k m e → (2 ^ 31 ≤ m) × (e < 2 ^ 30)
lane_known m₀ e₀ k m e r = (r.full, omega (arith, (turn_facts 2099 m₀ e₀ k m e (m * m) r refl).known))

-- ---- words
-- the words xs of a block of values, written from `place` on
block_written : (values : List Float) (at done : ℕ) (before words : List ℕ) (block rest : List Float) (xs : List ℕ)
    → Words values at done before words → drop done values ≡ block ++ rest → Answered block xs → length xs ≡ length block
    → at + done + length block ≤ length words
    → Words values at (done + length block) before (put_mid (at + done) (length block) words xs)
block_written values at done before words block rest xs w e a n fits = record {
  same = simp (length-append, length-take, length-drop) (omega (arith, w.same));
  there = λ j h. there j h (dec_lt j done);
  kept = λ j h. search (rules, places) ∙ w.kept j h;
}
  where
    there : (j : ℕ) → j < done + length block → Dec (j < done)
        → answer_of (get_or (put_mid (at + done) (length block) words xs) (at + j) 0) ≡ whole_log (get_or values j nan)
    there j h (yes l) =
        let old : get_or (put_mid (at + done) (length block) words xs) (at + j) 0 ≡ get_or words (at + j) 0 = search (rules, places) in
        ap answer_of old ∙ w.there j l
    there j h (no l) =
        let new : get_or (put_mid (at + done) (length block) words xs) (at + j) 0 ≡ get_or xs (j - done) 0 = search (rules, places) in
        let place : done + (j - done) ≡ j = omega arith in
        let value : get_or block (j - done) nan ≡ get_or values j nan =
        sym (get_or-append block rest nan (j - done) (omega arith)) ∙ ap (λ (t : List Float). get_or t (j - done) nan) (sym e)
        ∙ get_or-drop done values (j - done) nan ∙ ap (λ (k : ℕ). get_or values k nan) place in
        ap answer_of new ∙ a (j - done) (omega arith) ∙ ap whole_log value

-- some values have their words, up to `place`, and the others are `rest`
pub record Going (values : List Float) (at place : ℕ) (rest : List Float) (before words : List ℕ) : Type 0 where
  pub done : ℕ
  pub here : place ≡ at + done
  pub left : drop done values ≡ rest
  pub within : done + length rest ≡ length values
  pub words_so_far : Words values at done before words

pub going_start : (values : List Float) (at : ℕ) (words : List ℕ) → Going values at at values words words
going_start values at words = record {
  done = 0;
  here = omega arith;
  left = refl;
  within = omega arith;
  words_so_far = record { same = refl; there = λ j l. absurd (let z : ⊥ = omega arith in z); kept = λ j l. refl };
}

pub going_within : (values : List Float) (at place : ℕ) (rest later block : List Float) (before words : List ℕ)
    → Going values at place rest before words → rest ≡ block ++ later → place + length block ≤ at + length values
going_within values at place rest later block before words g e =
    let count : length rest ≡ length block + length later = rw e (length-append block later) in
    omega (arith, g.here, g.within)

pub going_on : (values : List Float) (at place : ℕ) (rest later block : List Float) (before words xs : List ℕ)
    → Going values at place rest before words → rest ≡ block ++ later → Answered block xs → length xs ≡ length block
    → at + length values ≤ length words
    → Going values at (place + length block) later before (put_mid place (place + length block - place) words xs)
going_on values at place rest later block before words xs g e a n fits =
    let count : length rest ≡ length block + length later = rw e (length-append block later) in
    let size : place + length block - place ≡ length block = omega arith in
    record {
      done = g.done + length block;
      here = omega (arith, g.here);
      left = sym (drop-drop (length block) g.done values) ∙ ap (drop (length block)) (g.left ∙ e) ∙ drop_at block later (length block) refl;
      within = omega (arith, g.within);
      words_so_far = rw (size, g.here) (block_written values at g.done before words block later xs g.words_so_far (g.left ∙ e) a n
          (omega (arith, g.within)));
    }

pub going_end : (values : List Float) (at place : ℕ) (rest : List Float) (before words : List ℕ) → Going values at place rest before words
    → length rest ≡ 0 → Words values at (length values) before words
going_end values at place rest before words g e =
    let all : g.done ≡ length values = omega (arith, g.within) in
    rw (← all) g.words_so_far

-- ---- what a word stands for
pub word_is : (w : ℕ) → w < no_log → answer_of w ≡ Ok (from_units w)
unfolding answer_of
word_is w h = rw (same_test (ltb w no_log) true (λ t. tt) (λ t. lt→ltb w no_log h)) refl

pub no_word : (w : ℕ) → no_log ≤ w → answer_of w ≡ Err value_not_finite
unfolding answer_of
no_word w h = rw (same_test (ltb w no_log) false (λ t. let z : ⊥ = omega (arith, ltb→lt w no_log t) in z) (λ t. absurd t)) refl

-- a lane that starts with the digits of a logarithm, and one that starts with none
pub lane_word : (m e : ℕ) → 2 ^ 31 ≤ m → m < 2 ^ 32 → e < 2098 → answer_of (log_from 16 m e) ≡ Ok (from_units (log_from 16 m e))
lane_word m e lo hi h = word_is (log_from 16 m e) (omega (arith, log_range 16 m e lo hi))

pub none_word : answer_of (log_from 16 (2 ^ 31) 2098) ≡ Err value_not_finite
unfolding answer_of log_from
none_word = refl
