-- Which input is refused with which number (SPECIFICATION 11.3). A line is refused for what it is after well-formed
-- lines; the theorems `refused_20` to `refused_26` say it number by number.
use Rattle.std.specs.Prelude.{◌≡◌, ◌⊎◌, List, [], ◌∷◌, ◌++◌, ℕ, ◌≤◌, ◌<◌, length}
use Rattle.refusal.specs.Refusal as number
use Rattle.refusal.specs.Refusal.{size_line, input_limit, entry_line, entry_count, repeated_pair, upper_entry}
use Rattle.text_matrix_market.specs.declared.banner.Kind.{Kind}
use Rattle.text_matrix_market.specs.declared.stages.Entry.{Entry}
use Rattle.text_matrix_market.specs.Text.{lines_of}
use Rattle.text_matrix_market.specs.File.{max_input, max_order, max_entries}
use Rattle.text_tie_file.specs.Bytes.{Every, IsNumber}
use Rattle.text_tie_file.specs.Lines.{Narrow, Wide, BannerOf, BlankLine, BlankOrComment, ThreeWords, Shaped}
use Rattle.text_tie_file.specs.Lines.{Unstored}
use Rattle.text_tie_file.specs.File.{written, SayAll, Laid, PairTwice}

-- ---- well-formed lines, and what follows them
-- a banner, then blank lines and comment lines
pub record Opens (lines : List (List ℕ)) (kind : Kind) (rest : List (List ℕ)) : Type 0 where
  pub banner : List ℕ
  pub above : List (List ℕ)
  pub all : lines ≡ banner ∷ (above ++ rest)
  pub narrow_banner : Narrow banner
  pub narrow : Every Narrow above
  pub is_banner : BannerOf kind banner
  pub are_above : Every BlankOrComment above

-- also a size line `N N L` within the limits, and lines of which those that are not blank state entries, at most L
pub record Enters (lines : List (List ℕ)) (kind : Kind) (n count : ℕ) (entries : List Entry) (rest : List (List ℕ))
    : Type 0 where
  pub size : List ℕ
  pub below : List (List ℕ)
  pub opens : Opens lines kind (size ∷ (below ++ rest))
  pub narrow_size : Narrow size
  pub narrow : Every Narrow below
  pub is_size : ThreeWords IsNumber size n n count
  pub order : n ≤ max_order
  pub limit : count ≤ max_entries
  pub says : SayAll kind n (written below) entries
  pub few : length entries ≤ count

-- ---- 20: there is no line, or the first is not a banner
abbrev pub NoBanner : List (List ℕ) → Type 0
NoBanner [] = Unit
NoBanner (line ∷ lines) = Narrow line × ((kind : Kind) → BannerOf kind line → ⊥)

-- ---- 21: after the opening there is no line, or one that is not a comment, not blank and not `N N L`
abbrev pub SizeFails : List (List ℕ) → Type 0
SizeFails [] = Unit
SizeFails (line ∷ lines) =
    Narrow line × (BlankOrComment line → ⊥) × ((n count : ℕ) → ThreeWords IsNumber line n n count → ⊥)

pub record NoSize (lines : List (List ℕ)) : Type 0 where
  pub kind : Kind
  pub rest : List (List ℕ)
  pub opens : Opens lines kind rest
  pub fails : SizeFails rest

-- ---- 22: an input or a line that is too long, or a size line past a limit
pub data WideLine (lines : List (List ℕ)) : Type 0 where
  first : (line : List ℕ) (rest : List (List ℕ)) → lines ≡ line ∷ rest → Wide line → WideLine lines
  opening : (kind : Kind) (line : List ℕ) (rest : List (List ℕ)) → Opens lines kind (line ∷ rest) → Wide line
      → WideLine lines
  entering : (kind : Kind) (n count : ℕ) (entries : List Entry) (line : List ℕ) (rest : List (List ℕ))
      → Enters lines kind n count entries (line ∷ rest) → Wide line → WideLine lines

pub record LargeSize (lines : List (List ℕ)) : Type 0 where
  pub kind : Kind
  pub size : List ℕ
  pub rest : List (List ℕ)
  pub opens : Opens lines kind (size ∷ rest)
  pub narrow : Narrow size
  pub n : ℕ
  pub count : ℕ
  pub is_size : ThreeWords IsNumber size n n count
  pub past : (max_order < n) ⊎ (max_entries < count)

-- ---- 23, 24, 26: the line after entries
-- it is not blank, and does not have the shape of an entry
pub record NoEntry (lines : List (List ℕ)) : Type 0 where
  pub kind : Kind
  pub n : ℕ
  pub count : ℕ
  pub entries : List Entry
  pub line : List ℕ
  pub rest : List (List ℕ)
  pub enters : Enters lines kind n count entries (line ∷ rest)
  pub awaited : length entries < count
  pub narrow : Narrow line
  pub non_blank : BlankLine line → ⊥
  pub fails : (e : Entry) → Shaped kind n line e → ⊥

-- the lines end before there are L entries, or one more that is not blank follows them
abbrev pub CountFails : ℕ → List Entry → List (List ℕ) → Type 0
CountFails count entries [] = length entries < count
CountFails count entries (line ∷ rest) = (length entries ≡ count) × Narrow line × (BlankLine line → ⊥)

pub record WrongCount (lines : List (List ℕ)) : Type 0 where
  pub kind : Kind
  pub n : ℕ
  pub count : ℕ
  pub entries : List Entry
  pub rest : List (List ℕ)
  pub enters : Enters lines kind n count entries rest
  pub fails : CountFails count entries rest

-- it has the shape of an entry above the diagonal in a file that stores none there
pub record AboveDiagonal (lines : List (List ℕ)) : Type 0 where
  pub kind : Kind
  pub n : ℕ
  pub count : ℕ
  pub entries : List Entry
  pub line : List ℕ
  pub rest : List (List ℕ)
  pub enters : Enters lines kind n count entries (line ∷ rest)
  pub awaited : length entries < count
  pub narrow : Narrow line
  pub entry : Entry
  pub shaped : Shaped kind n line entry
  pub unstored : Unstored kind entry

-- ---- 25: a file except for a pair that occurs twice
pub record Repeats (input : List ℕ) : Type 0 where
  pub kind : Kind
  pub n : ℕ
  pub entries : List Entry
  pub laid : Laid input kind n entries
  pub twice : PairTwice entries

-- ---- all of them
-- an input within its limit whose lines are such
abbrev pub Short : List ℕ → (List (List ℕ) → Type 0) → Type 0
Short input Fails = (length input ≤ max_input) × Fails (lines_of input)

abbrev pub PastLimit : List ℕ → Type 0
PastLimit input =
    (max_input < length input) ⊎ Short input (λ (lines : List (List ℕ)). WideLine lines ⊎ LargeSize lines)

pub data IsRefused (input : List ℕ) (k : ℕ) : Type 0 where
  by_20 : k ≡ number.banner → Short input NoBanner → IsRefused input k
  by_21 : k ≡ size_line → Short input NoSize → IsRefused input k
  by_22 : k ≡ input_limit → PastLimit input → IsRefused input k
  by_23 : k ≡ entry_line → Short input NoEntry → IsRefused input k
  by_24 : k ≡ entry_count → Short input WrongCount → IsRefused input k
  by_25 : k ≡ repeated_pair → Repeats input → IsRefused input k
  by_26 : k ≡ upper_entry → Short input AboveDiagonal → IsRefused input k
