-- Which inputs are tie files (SPECIFICATION 11.2). Theorem `file_exactly`: the reader takes exactly these.
use Rattle.std.specs.Prelude.{◌≡◌, cond, List, [], ◌∷◌, ◌++◌, ℕ, ◌≤◌, ◌<◌, length, get_or}
use Rattle.text_matrix_market.specs.declared.banner.Kind.{Kind}
use Rattle.text_matrix_market.specs.declared.stages.Entry.{Entry}
use Rattle.text_matrix_market.specs.Text.{lines_of, is_blank_line}
use Rattle.text_matrix_market.specs.File.{max_input, max_order, max_entries}
use Rattle.text_tie_file.specs.Bytes.{Every, IsNumber}
use Rattle.text_tie_file.specs.Lines.{Narrow, BannerOf, BlankOrComment, ThreeWords, Says}

-- the lines that are not blank
abbrev pub written : List (List ℕ) → List (List ℕ)
written [] = []
written (line ∷ lines) = cond (is_blank_line line) (written lines) (line ∷ written lines)

-- the entry at a place
abbrev pub entry_of : List Entry → ℕ → Entry
entry_of entries k = get_or entries k (record { row = 0; column = 0; weight = 0 })

-- as many lines as entries, and line k states entry k
pub record SayAll (kind : Kind) (n : ℕ) (lines : List (List ℕ)) (entries : List Entry) : Type 0 where
  pub many : length lines ≡ length entries
  pub each : (k : ℕ) → k < length entries → Says kind n (get_or lines k []) (entry_of entries k)

-- an input is laid out as a file: a banner, blank lines and comment lines, a size line `N N L` within the limits, and
-- lines below it of which those that are not blank state the L entries in order
pub record Laid (input : List ℕ) (kind : Kind) (n : ℕ) (entries : List Entry) : Type 0 where
  pub short : length input ≤ max_input
  pub narrow : Every Narrow (lines_of input)
  pub banner : List ℕ
  pub above : List (List ℕ)
  pub size : List ℕ
  pub below : List (List ℕ)
  pub lines : lines_of input ≡ banner ∷ (above ++ (size ∷ below))
  pub is_banner : BannerOf kind banner
  pub are_above : Every BlankOrComment above
  pub is_size : ThreeWords IsNumber size n n (length entries)
  pub order : n ≤ max_order
  pub count : length entries ≤ max_entries
  pub says : SayAll kind n (written below) entries

-- two entries have the same row and the same column
pub record PairTwice (entries : List Entry) : Type 0 where
  pub first : ℕ
  pub second : ℕ
  pub apart : first < second
  pub within : second < length entries
  pub row : (entry_of entries first).row ≡ (entry_of entries second).row
  pub column : (entry_of entries first).column ≡ (entry_of entries second).column

-- an input is a file
pub record IsFile (input : List ℕ) (kind : Kind) (n : ℕ) (entries : List Entry) : Type 0 where
  pub laid : Laid input kind n entries
  pub once : PairTwice entries → ⊥
