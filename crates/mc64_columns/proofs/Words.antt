-- The words of the values, of which the builders make logs: they are put behind what else a slice holds, and stay where that is written to.
use mathlib.Core.Path.{refl, sym, subst}
use mathlib.Core.List.{List}
use Prim.Native.Nat.{ℕ, ◌+◌, ◌<◌}
use native.Mathlib.Omega.{arith}
use lib.Ieee.{Float, nan}
use lib.ListN.{length, get_or, set}
use lib.Seq.{get_or-set_other}
use Rattle.log_lanes.specs.inner.Lanes.{Words}
use Rattle.mc64_columns.specs.declared.LogSource.{LogSource}
use Rattle.mc64_columns.specs.declared.LogSource.TheVariants.{Lent, Own}
use Rattle.mc64_columns.specs.inner.Steps.{WordOf, Worded, WordsPut}

pub lent_words : (lent : List Float) (at : ℕ) (words : List ℕ) → WordsPut Lent lent at words words
lent_words lent at words = record { there = λ k h. tt; kept = λ j h. refl }

pub own_words : (lent : List Float) (at : ℕ) (before words : List ℕ) → Words lent at (length lent) before words → WordsPut Own lent at before words
own_words lent at before words w = record { there = w.there; kept = w.kept }

-- what is written before them leaves them
pub words_stay : (source : LogSource) (lent : List Float) (at : ℕ) (words : List ℕ) (i x : ℕ) → i < at → Worded source lent at words
    → Worded source lent at (set words i x)
words_stay source lent at words i x h w k l =
    subst (λ (word : ℕ). WordOf source (get_or lent k nan) word) (sym (get_or-set_other words i (at + k) x 0 (λ e. omega arith))) (w k l)
