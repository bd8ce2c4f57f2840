-- SPECIFICATION 11.2: The banner: `%%MatrixMarket matrix coordinate` and the two words of a kind, in any letter case,
-- from the line's first byte on. The kinds are `integer general`, `integer symmetric` and `pattern general`.
use Rattle.std.specs.Prelude.{Bool, true, false, cond, ◌&&◌, Option, Some, None, List, [], ◌∷◌}
use Rattle.std.specs.Prelude.{ℕ, zero, suc, ◌+◌, eqb, leb}
use Prim.Native.String.{String, len, char_at}
use Prim.Native.Char.{code}
use Rattle.text_matrix_market.specs.declared.banner.Kind.{Kind}
use Rattle.text_matrix_market.specs.declared.banner.Kind.TheVariants.{General, Symmetric, Pattern}
use Rattle.text_matrix_market.specs.Text.{words_of, begins_percent}

-- a capital letter as a small one, any other byte as it is
abbrev pub lower_case : ℕ → ℕ
lower_case b = cond (leb 65 b && leb b 90) (b + 32) b

-- a word is the name, in any letter case. The name is in small letters
unfoldable pub same_word : List ℕ → List ℕ → Bool
same_word [] [] = true
same_word [] (y ∷ name) = false
same_word (x ∷ word) [] = false
same_word (x ∷ word) (y ∷ name) = eqb (lower_case x) y && same_word word name

-- words are the names, in their order
unfoldable pub same_words : List (List ℕ) → List (List ℕ) → Bool
same_words [] [] = true
same_words [] (name ∷ names) = false
same_words (word ∷ words) [] = false
same_words (word ∷ words) (name ∷ names) = same_word word name && same_words words names

-- the codes of a text's characters: its bytes, where all are ASCII
abbrev pub codes_from : ℕ → String → ℕ → List ℕ
codes_from zero text at = []
codes_from (suc count) text at = code (char_at text at) ∷ codes_from count text (suc at)

abbrev pub codes : String → List ℕ
codes text = codes_from (len text) text 0

-- the banner's words in small letters: the field and the symmetry are its last two
abbrev pub banner_words : List ℕ → List ℕ → List (List ℕ)
banner_words field symmetry =
    codes "%%matrixmarket" ∷ codes "matrix" ∷ codes "coordinate" ∷ field ∷ symmetry ∷ []

-- its words, from the first byte on
unfoldable pub is_banner : List ℕ → List ℕ → List ℕ → Bool
is_banner field symmetry line = begins_percent line && same_words (words_of line) (banner_words field symmetry)

-- the kind, if the test holds; else the next result
abbrev pub kind_if : Bool → Kind → Option Kind → Option Kind
kind_if true kind next = Some kind
kind_if false kind next = next

-- the kind of file whose banner a line is
unfoldable pub banner_kind : List ℕ → Option Kind
banner_kind line =
    kind_if (is_banner (codes "integer") (codes "general") line) General
    (kind_if (is_banner (codes "integer") (codes "symmetric") line) Symmetric
    (kind_if (is_banner (codes "pattern") (codes "general") line) Pattern None))
