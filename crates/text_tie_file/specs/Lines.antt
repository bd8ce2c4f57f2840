-- What a line of a tie file states (SPECIFICATION 11.2).
use Rattle.std.specs.Prelude.{◌≡◌, ◌⊎◌, List, [], ◌∷◌, map, ℕ, suc, ◌*◌, ◌^◌, ◌≤◌, ◌<◌, length, get_or}
use Rattle.text_matrix_market.specs.declared.banner.Kind.{Kind}
use Rattle.text_matrix_market.specs.declared.banner.Kind.TheVariants.{General, Symmetric, Pattern}
use Rattle.text_matrix_market.specs.declared.stages.Entry.{Entry}
use Rattle.text_matrix_market.specs.Text.{words_of}
use Rattle.text_matrix_market.specs.Banner.{lower_case, codes, banner_words}
use Rattle.text_matrix_market.specs.File.{max_line}
use Rattle.text_tie_file.specs.Bytes.{IsNumber, IsSigned}

-- within the limit of a line
abbrev pub Narrow : List ℕ → Type 0
Narrow line = length line ≤ max_line

abbrev pub Wide : List ℕ → Type 0
Wide line = max_line < length line

-- ---- the banner
-- its words, in small letters
abbrev pub kind_words : Kind → List (List ℕ)
kind_words General = banner_words (codes "integer") (codes "general")
kind_words Symmetric = banner_words (codes "integer") (codes "symmetric")
kind_words Pattern = banner_words (codes "pattern") (codes "general")

-- a line is the banner of a kind: `%` is its first byte, and its words, capitals as small letters, are the kind's
pub record BannerOf (kind : Kind) (line : List ℕ) : Type 0 where
  pub first : get_or line 0 0 ≡ 37
  pub words : map (map lower_case) (words_of line) ≡ kind_words kind

-- ---- blank lines, and lines whose first byte is `%`
abbrev pub BlankLine : List ℕ → Type 0
BlankLine line = words_of line ≡ []

abbrev pub BlankOrComment : List ℕ → Type 0
BlankOrComment line = BlankLine line ⊎ (get_or line 0 0 ≡ 37)

-- ---- numbers of a line
-- its words are three numbers, the last of a sort of its own
pub record ThreeWords (IsThird : List ℕ → ℕ → Type 0) (line : List ℕ) (a b c : ℕ) : Type 0 where
  pub first : List ℕ
  pub second : List ℕ
  pub third : List ℕ
  pub words : words_of line ≡ first ∷ second ∷ third ∷ []
  pub is_first : IsNumber first a
  pub is_second : IsNumber second b
  pub is_third : IsThird third c

-- its words are two numbers
pub record TwoWords (line : List ℕ) (a b : ℕ) : Type 0 where
  pub first : List ℕ
  pub second : List ℕ
  pub words : words_of line ≡ first ∷ second ∷ []
  pub is_first : IsNumber first a
  pub is_second : IsNumber second b

-- ---- an entry line: row and column count from 1 there, from 0 in the entry
-- row, column and weight as a kind's line has them; a pattern's weight is 0
abbrev pub EntryWords : Kind → List ℕ → ℕ → ℕ → ℕ → Type 0
EntryWords General line row column weight = ThreeWords IsNumber line row column weight
EntryWords Symmetric line row column weight = ThreeWords IsSigned line row column weight
EntryWords Pattern line row column weight = TwoWords line row column × (weight ≡ 0)

-- a cost whose product with N is below 2^48; a value that is below 2^53 in size
abbrev pub InRange : Kind → ℕ → ℕ → Type 0
InRange General n weight = n * weight < 2 ^ 48
InRange Symmetric n weight = weight < 2 ^ 53
InRange Pattern n weight = Unit

-- a line has the shape of an entry line, within its ranges
pub record Shaped (kind : Kind) (n : ℕ) (line : List ℕ) (e : Entry) : Type 0 where
  pub words : EntryWords kind line (suc e.row) (suc e.column) e.weight
  pub row : e.row < n
  pub column : e.column < n
  pub weight : InRange kind n e.weight

-- on or below the diagonal if only that is stored, and above it
abbrev pub Stored : Kind → Entry → Type 0
Stored General e = Unit
Stored Symmetric e = e.column ≤ e.row
Stored Pattern e = Unit

abbrev pub Unstored : Kind → Entry → Type 0
Unstored General e = ⊥
Unstored Symmetric e = e.row < e.column
Unstored Pattern e = ⊥

-- a line states an entry
abbrev pub Says : Kind → ℕ → List ℕ → Entry → Type 0
Says kind n line e = Shaped kind n line e × Stored kind e
