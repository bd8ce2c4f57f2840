-- `banner::banner_end` meets its contract: each name that is found leaves the names behind it.
use Rattle.std.proofs.Common.{◌≡◌, ◌<◌, length, Some, sym, List, [], ◌∷◌, ℕ, arith}
use Rattle.std.specs.Bool.{then_some}
use Rattle.text_matrix_market.specs.Banner.{codes, same_word, banner_words}
use Rattle.text_matrix_market.specs.inner.Steps.{next_word, word_past}
use Rattle.text_matrix_market.proofs.Banners.{Passed, none_passed, named, misnamed, last_compared}
use Rattle.text_matrix_market.proofs.banner.banner_end.Goals as goal

-- the next word from a place on is the name and ends at `past`
abbrev Step : List ℕ → List ℕ → ℕ → ℕ → Type 0
Step name line at past = Some past ≡ then_some (same_word (next_word line at) name) (word_past line at)

module _ (field symmetry line : List ℕ) where
  -- the words from a place on are compared with the names that are left of all
  abbrev Left : List (List ℕ) → ℕ → Type 0
  Left names at = Passed (banner_words field symmetry) line names at

  begun : Left (banner_words field symmetry) 0
  begun = none_passed (banner_words field symmetry) line

  module _ {a : ℕ} (to_a : Step (codes "%%matrixmarket") line 0 a) where
    first : Left (codes "matrix" ∷ codes "coordinate" ∷ field ∷ symmetry ∷ []) a
    first = named _ line (omega arith) begun (sym to_a)

    module _ {b : ℕ} (to_b : Step (codes "matrix") line a b) where
      second : Left (codes "coordinate" ∷ field ∷ symmetry ∷ []) b
      second = named _ line (omega arith) first (sym to_b)

      module _ {d : ℕ} (to_d : Step (codes "coordinate") line b d) where
        third : Left (field ∷ symmetry ∷ []) d
        third = named _ line (omega arith) second (sym to_d)

        fourth : {e : ℕ} → 0 < length field → Step field line d e → Left (symmetry ∷ []) e
        fourth some to_e = named _ line some third (sym to_e)

pub returns-in_err-first-clause-words : goal.returns-in_err-first-clause-words
returns-in_err-first-clause-words c =
    rw c.from_residual.ensures (misnamed _ _ (omega arith) (begun _ _ _) (sym c.in_err-first.ensures))

pub next_is-requires-2 : goal.next_is-requires-2
next_is-requires-2 c = (first c.args.field.now c.args.symmetry.now _ c.in_ok-first.ensures).within

pub returns-in_err-second-clause-words : goal.returns-in_err-second-clause-words
returns-in_err-second-clause-words c =
    rw c.from_residual-in_err-second.ensures (misnamed _ _ (omega arith) (first _ _ _ c.in_ok-first.ensures) (sym c.in_err-second.ensures))

pub next_is-requires-3 : goal.next_is-requires-3
next_is-requires-3 c = (second c.args.field.now c.args.symmetry.now _ c.in_ok-first.ensures c.in_ok-second.ensures).within

pub returns-in_err-third-clause-words : goal.returns-in_err-third-clause-words
returns-in_err-third-clause-words c =
    rw c.from_residual-in_err-third.ensures
    (misnamed _ _ (omega arith) (second _ _ _ c.in_ok-first.ensures c.in_ok-second.ensures) (sym c.in_err-third.ensures))

pub next_is-requires-4 : goal.next_is-requires-4
next_is-requires-4 c =
    (third c.args.field.now c.args.symmetry.now _ c.in_ok-first.ensures c.in_ok-second.ensures c.in_ok-third.ensures).within

pub returns-in_err-fourth-clause-words : goal.returns-in_err-fourth-clause-words
returns-in_err-fourth-clause-words c =
    rw c.from_residual-in_err-fourth.ensures
    (misnamed _ _ c.requires.some_field (third _ _ _ c.in_ok-first.ensures c.in_ok-second.ensures c.in_ok-third.ensures)
    (sym c.in_err-fourth.ensures))

pub next_is-requires-5 : goal.next_is-requires-5
next_is-requires-5 c =
    (fourth c.args.field.now c.args.symmetry.now _ c.in_ok-first.ensures c.in_ok-second.ensures c.in_ok-third.ensures
    c.requires.some_field c.in_ok-fourth.ensures).within

pub returns : goal.returns
returns c =
    let left = fourth c.args.field.now c.args.symmetry.now _ c.in_ok-first.ensures c.in_ok-second.ensures c.in_ok-third.ensures
    c.requires.some_field c.in_ok-fourth.ensures in
    let answer = last_compared _ _ c.next_is-5.result c.requires.some_symmetry left c.next_is-5.ensures in
    record { within = answer.0; words = answer.1 }
