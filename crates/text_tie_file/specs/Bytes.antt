-- Lines, words and numbers by their bytes (SPECIFICATION 11.1).
use Rattle.std.specs.Prelude.{◌≡◌, ◌⊎◌, ◌≢◌, List, [], ◌∷◌, ◌++◌, ℕ, ◌+◌, ◌-◌, ◌*◌, ◌^◌, ◌≤◌, ◌<◌, length}

-- each member of a list
abbrev pub Every : {A : Type 0} → (A → Type 0) → List A → Type 0
Every P [] = Unit
Every P (x ∷ l) = P x × Every P l

-- ---- lines
-- any byte but a line feed
abbrev pub NoFeed : ℕ → Type 0
NoFeed b = b ≢ 10

-- the lines of an input. An empty input has none. Else the first line has no line feed in it: it is the whole input and
-- not empty, or a line feed ends it and the other lines are those of what follows
abbrev pub AreLines : List ℕ → List (List ℕ) → Type 0
AreLines input [] = input ≡ []
AreLines input (line ∷ lines) =
    Every NoFeed line
    × (((0 < length line) × (input ≡ line) × (lines ≡ []))
    ⊎ ((rest : List ℕ) × (input ≡ line ++ (10 ∷ rest)) × AreLines rest lines))

-- ---- words
-- a space, a tab or a carriage return
abbrev pub Blank : ℕ → Type 0
Blank b = (b ≡ 32) ⊎ ((b ≡ 9) ⊎ (b ≡ 13))

abbrev pub NoBlank : ℕ → Type 0
NoBlank b = Blank b → ⊥

-- nothing, or bytes that begin with a blank
abbrev pub Ends : List ℕ → Type 0
Ends [] = Unit
Ends (b ∷ rest) = Blank b

-- the words of a line. A line of blanks has none. Else, after any blanks, comes the first word, which has bytes and no
-- blank; it ends at a blank or with the line, and the other words are those of what follows
abbrev pub AreWords : List ℕ → List (List ℕ) → Type 0
AreWords line [] = Every Blank line
AreWords line (word ∷ words) =
    (lead : List ℕ) × (rest : List ℕ) × (line ≡ lead ++ (word ++ rest)) × Every Blank lead × (0 < length word)
    × Every NoBlank word × Ends rest × AreWords rest words

-- ---- numbers
-- `0` to `9`
abbrev pub Digit : ℕ → Type 0
Digit b = (48 ≤ b) × (b ≤ 57)

-- the sum of each digit times ten to the power of its place
abbrev pub place_sum : List ℕ → ℕ
place_sum [] = 0
place_sum (b ∷ digits) = (b - 48) * 10 ^ length digits + place_sum digits

-- a word is a number: one to eighteen digits
pub record IsNumber (word : List ℕ) (value : ℕ) : Type 0 where
  pub some : 1 ≤ length word
  pub few : length word ≤ 18
  pub digits : Every Digit word
  pub sum : value ≡ place_sum word

-- a word is a signed number of this size: a number, or a minus and a number
abbrev pub IsSigned : List ℕ → ℕ → Type 0
IsSigned word size = IsNumber word size ⊎ ((digits : List ℕ) × (word ≡ 45 ∷ digits) × IsNumber digits size)
