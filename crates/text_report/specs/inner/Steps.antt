-- What the inner functions require and promise.
use Rattle.std.specs.Prelude.{◌≡◌, List, ℕ, ◌+◌, ◌≤◌, ◌<◌, nat_abs, length, get_or, Float}
use Rattle.std.proofs.lemmas.List.Edits.{sets}
use Rattle.std.specs.Float.{nan}
use Rattle.float64.specs.Number.{whole_of, IsWhole}
use Rattle.float64.specs.inner.Arithmetic.{whole_limit}

-- the bytes that any text fits: 64 lines
abbrev pub output_length : ℕ
output_length = 4096

-- a double that has a text here: a whole number of at most 2 ^ 53 in size
pub record Printable (x : Float) : Type 0 where
  pub is_whole : IsWhole x
  pub small : nat_abs (whole_of x) ≤ whole_limit

-- the first n of a list are such doubles
abbrev pub AllPrintable : ℕ → List Float → Type 0
AllPrintable n values = (k : ℕ) → k < n → Printable (get_or values k nan)

-- `out` has been written from `at` on and is now `left`; `next` is the place after the text
pub record Wrote (out : List ℕ) (at : ℕ) (text left : List ℕ) (next : ℕ) : Type 0 where
  pub bytes : left ≡ sets out at text
  pub place : next ≡ at + length text
