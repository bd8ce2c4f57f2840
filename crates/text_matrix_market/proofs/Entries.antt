-- What a line says and does, by the tests that led there.
use Rattle.std.proofs.Common.{Option, Some, None, Result, Ok, Err}
use Rattle.std.specs.Option.{ok_or}
use Rattle.std.specs.Result.{IsErrAnd}
use mathlib.Core.Path.{◌≡◌, refl, ap}
use mathlib.Core.Bool.{Bool, true, false, cond, ◌&&◌, and-false, or-true, false≢true}
use mathlib.Core.List.{List, [], ◌∷◌, ◌++◌}
use Prim.Native.Nat.{ℕ, ◌≤◌, ◌<◌, ◌/◌}
use native.Mathlib.Omega.{arith}
use borrow.Author.Tests.{eq-eqb, ne_eqb, le-leb, lt-leb, lt-ltb, le-ltb, leb-true}
use Rattle.cost_limit.proofs.Range.{whole_quotient}
use lib.Dec.{leb}
use lib.ListN.{length}
use Rattle.refusal.specs.Refusal as number
use Rattle.refusal.specs.declared.Refusal.{Refusal}
use Rattle.refusal.specs.Number.{number as number_is, numbered}
use Rattle.refusal.specs.Refusal.{size_line, input_limit, entry_line, entry_count, upper_entry}
use Rattle.text_matrix_market.specs.declared.banner.Kind.{Kind}
use Rattle.text_matrix_market.specs.declared.banner.Kind.TheVariants.{General}
use Rattle.text_matrix_market.specs.declared.stages.Entry.{Entry}
use Rattle.text_matrix_market.specs.Text.{is_blank_line, begins_percent}
use Rattle.text_matrix_market.specs.Numbers.{numbers_of}
use Rattle.text_matrix_market.specs.Banner.{banner_kind}
use Rattle.text_matrix_market.specs.File.{max_line, is_within, weight_fits, is_upper, zero_based, line_entry, State, start, sizing, entering, refused}
use Rattle.text_matrix_market.specs.File.{content, too_long, read_line, read_lines}

pub both : (s t : Bool) → (s && t) ≡ true → (s ≡ true) × (t ≡ true)
both true t h = (refl, h)
both false t h = absurd (false≢true h)

-- ---- an `Option` that became a `Result` by a refusal for none
pub some_of_ok_or : {A E : Type 0} (o : Option A) (e : E) (x : A) → Ok x ≡ ok_or o e → o ≡ Some x
some_of_ok_or (Some y) e x h = cc
some_of_ok_or None e x h = let y : ⊥ = cc in absurd y

pub none_of_ok_or : {A E : Type 0} (o : Option A) (e f : E) → Err f ≡ ok_or o e → (o ≡ None) × (f ≡ e)
none_of_ok_or (Some y) e f h = let z : ⊥ = cc in absurd z
none_of_ok_or None e f h = (refl, cc)

-- the refusal that `?` hands on
pub refused_with : {A : Type 0} (r : Result A Refusal) (e : Refusal) → IsErrAnd r (λ (f : Refusal). f ≡ e) → numbered r ≡ Err (number_is e)
refused_with (Ok x) e h = absurd h
refused_with (Err f) e h = ap (λ (g : Refusal). Err (number_is g)) h

-- ---- an entry line
pub inside : (n index : ℕ) → is_within n index ≡ true → (1 ≤ index) × (index ≤ n)
inside n index e = let p = both (leb 1 index) (leb index n) e in (leb-true 1 index p.0, leb-true index n p.1)

-- an index within N needs one
pub some : (n index : ℕ) → is_within n index ≡ true → 0 < n
some n index h = omega (arith, inside n index h)

-- a weight's test by a division, but for the symmetric kind
pub general_fits : (n weight : ℕ) → 0 < n → leb weight (0xffff_ffff_ffff / n) ≡ weight_fits General n weight
general_fits n weight h = rw (whole_quotient n weight h) refl

module _ (kind : Kind) (n : ℕ) (line : List ℕ) where
  pub no_entry : numbers_of kind line ≡ None → Err entry_line ≡ line_entry kind n line
  unfolding line_entry
  no_entry e = rw e

  module _ {row column weight : ℕ} (e : numbers_of kind line ≡ Some (row, column, weight)) where
    pub row_out : is_within n row ≡ false → Err entry_line ≡ line_entry kind n line
    unfolding line_entry
    row_out h = rw (e, h)

    module _ (h : is_within n row ≡ true) where
      pub column_out : is_within n column ≡ false → Err entry_line ≡ line_entry kind n line
      unfolding line_entry
      column_out k = rw (e, h, k)

      module _ (k : is_within n column ≡ true) where
        pub weight_out : weight_fits kind n weight ≡ false → Err entry_line ≡ line_entry kind n line
        unfolding line_entry
        weight_out w = rw (e, h, k, w)

        module _ (w : weight_fits kind n weight ≡ true) where
          pub upper_entry_lem : is_upper kind row column ≡ true → Err upper_entry ≡ line_entry kind n line
          unfolding line_entry
          upper_entry_lem u = rw (e, h, k, w, u)

          pub an_entry : is_upper kind row column ≡ false → Ok (zero_based row column weight) ≡ line_entry kind n line
          unfolding line_entry
          an_entry u = rw (e, h, k, w, u)

-- ---- a line before the size line, or the size line
module _ (kind : Kind) (line : List ℕ) where
  pub blank_passed : is_blank_line line ≡ true → sizing kind ≡ content (sizing kind) line
  unfolding content
  blank_passed e = rw e

  pub comment_passed : begins_percent line ≡ true → sizing kind ≡ content (sizing kind) line
  unfolding content
  comment_passed e = rw (e, or-true)

  module _ (b : is_blank_line line ≡ false) (p : begins_percent line ≡ false) where
    pub no_size : numbers_of General line ≡ None → refused size_line ≡ content (sizing kind) line
    unfolding content
    no_size e = rw (b, p, e)

    module _ {m n count : ℕ} (e : numbers_of General line ≡ Some (m, n, count)) where
      pub not_square : (m ≡ n → ⊥) → refused size_line ≡ content (sizing kind) line
      unfolding content
      not_square h = rw (b, p, e, ne_eqb m n h)

      pub too_wide : m ≡ n → 64 < n → refused input_limit ≡ content (sizing kind) line
      unfolding content
      too_wide h k = rw (b, p, e, eq-eqb m n h, lt-leb n 64 k)

      pub too_full : m ≡ n → 512 < count → refused input_limit ≡ content (sizing kind) line
      unfolding content
      too_full h k = rw (b, p, e, eq-eqb m n h, lt-leb count 512 k, and-false)

      pub a_size : m ≡ n → n ≤ 64 → count ≤ 512 → entering kind n count [] ≡ content (sizing kind) line
      unfolding content
      a_size h k l = rw (b, p, e, eq-eqb m n h, le-leb n 64 k, le-leb count 512 l)

-- ---- a line below the size line
module _ (kind : Kind) (n count : ℕ) (entries : List Entry) (line : List ℕ) where
  pub blank_below : is_blank_line line ≡ true → entering kind n count entries ≡ content (entering kind n count entries) line
  unfolding content
  blank_below b = rw b

  module _ (b : is_blank_line line ≡ false) where
    pub one_too_many : count ≤ length entries → refused entry_count ≡ content (entering kind n count entries) line
    unfolding content
    one_too_many h = rw (b, le-ltb (length entries) count h)

    pub refused_entry : {fault : ℕ} → length entries < count → line_entry kind n line ≡ Err fault → refused fault ≡ content (entering kind n count entries) line
    unfolding content
    refused_entry h e = rw (b, lt-ltb (length entries) count h, e)

    pub entered : {t : Entry} → length entries < count → line_entry kind n line ≡ Ok t → entering kind n count (entries ++ (t ∷ [])) ≡ content
        (entering kind n count entries) line
    unfolding content
    entered h e = rw (b, lt-ltb (length entries) count h, e)

-- ---- the first line, and a line by its length
module _ (line : List ℕ) where
  pub banner_there : {kind : Kind} → banner_kind line ≡ Some kind → sizing kind ≡ content start line
  unfolding content
  banner_there e = rw e

  pub banner_lacks : banner_kind line ≡ None → refused number.banner ≡ content start line
  unfolding content
  banner_lacks e = rw e

  pub short : {r : State} (s : State) → length line ≤ max_line → r ≡ content s line → r ≡ read_line s line
  unfolding read_line
  short s h e = rw (le-leb (length line) max_line h) e

  pub long : {r : State} (s : State) → max_line < length line → r ≡ too_long s → r ≡ read_line s line
  unfolding read_line
  long s h e = rw (lt-leb (length line) max_line h) e

-- ---- a refusal stays, whatever the lines below say
refused_line : (number : ℕ) (line : List ℕ) → read_line (refused number) line ≡ refused number
unfolding read_line content
refused_line number line = by (leb (length line) max_line)
  where
    by : (t : Bool) → cond t (refused number) (refused number) ≡ refused number
    by true = refl
    by false = refl

pub refused_lines : (number : ℕ) (lines : List (List ℕ)) → read_lines (refused number) lines ≡ refused number
unfolding read_lines
refused_lines number [] = refl
refused_lines number (line ∷ lines) = rw (refused_line number line) (refused_lines number lines)
