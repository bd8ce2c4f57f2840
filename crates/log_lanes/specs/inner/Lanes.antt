-- What stands in the lanes and in the words that are made of them.
use Rattle.std.specs.Prelude.{◌≡◌, List, cond, ℕ, ◌+◌, ◌*◌, ◌^◌, ◌≤◌, ◌<◌, ltb, ℤ, Float, length, get_or}
use Rattle.std.specs.Prelude.{Result, Ok, Err}
use Rattle.std.specs.Float.{nan}
use Rattle.refusal.specs.Refusal.{value_not_finite}
use Rattle.whole_log.specs.Log.{log_from, from_units, whole_log}

-- ---- words

-- words of logarithms are below it
abbrev pub no_log : ℕ
no_log = 2098 * 65536

-- what a word stands for: the logarithm whose size in units of 2 ^ -1074 it is, or none
unfoldable pub answer_of : ℕ → Result ℤ ℕ
answer_of word = cond (ltb word no_log) (Ok (from_units word)) (Err value_not_finite)

-- word j is that of value j
abbrev pub Answered : List Float → List ℕ → Type 0
Answered values words = (j : ℕ) → j < length values → answer_of (get_or words j 0) ≡ whole_log (get_or values j nan)

-- from `at` on stand the words of the first `count` values, and before it what stood there
pub record Words (values : List Float) (at count : ℕ) (before words : List ℕ) : Type 0 where
  pub same : length words ≡ length before
  pub there : (j : ℕ) → j < count → answer_of (get_or words (at + j) 0) ≡ whole_log (get_or values j nan)
  pub kept : (j : ℕ) → j < at → get_or words j 0 ≡ get_or before j 0

-- ---- lanes

-- 32 leading digits, and no more known of the logarithm than its whole part
pub record Ready (leading known : ℕ) : Type 0 where
  pub full : 2 ^ 31 ≤ leading
  pub short : leading < 2 ^ 32
  pub room : known < 2099

-- a word for each lane
pub record Wide (leading known : List ℕ) : Type 0 where
  pub leadings : length leading ≡ 16
  pub knowns : length known ≡ 16

-- what holds of each lane: of its number, its leading digits, and what is known
abbrev pub Every : (ℕ → ℕ → ℕ → Type 0) → List ℕ → List ℕ → Type 0
Every P leading known = (j : ℕ) → j < 16 → P j (get_or leading j 0) (get_or known j 0)

-- what a lane holds before its digits are found: if it is one of the first `count`, its value's logarithm begins there
abbrev pub Loaded : List Float → ℕ → ℕ → ℕ → ℕ → Type 0
Loaded values count j leading known = Ready leading known
    × (j < count → answer_of (log_from 16 leading known) ≡ whole_log (get_or values j nan))
