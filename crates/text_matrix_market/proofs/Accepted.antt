-- What an accepted input holds, for those who call: N and L are within their limits, each row and column below N, each weight within the range of its
-- kind, and no symmetric entry above the diagonal. By the tests that a line passes.
use Rattle.std.proofs.Common.{Option, Some, None, Result, Ok, Err}
use mathlib.Core.Path.{◌≡◌, refl, subst}
use mathlib.Core.Bool.{Bool, true, false, cond, ◌&&◌, ◌||◌}
use mathlib.Core.List.{List, [], ◌∷◌, ◌++◌, map}
use Prim.Native.Nat.{ℕ, zero, suc, ◌≤◌, ◌<◌, ◌-◌, ◌*◌, ◌^◌}
use native.Mathlib.Omega.{arith}
use borrow.Author.Tests.{leb-true, ltb-true, ltb-false, eqb-true}
use lib.Dec.{eqb, leb, ltb}
use lib.ListN.{length, get_or}
use Rattle.refusal.specs.Refusal.{size_line, input_limit, entry_line, entry_count, upper_entry}
use Rattle.text_matrix_market.specs.declared.banner.Kind.{Kind}
use Rattle.text_matrix_market.specs.declared.banner.Kind.TheVariants.{General, Symmetric, Pattern}
use Rattle.text_matrix_market.specs.declared.stages.Entry.{Entry}
use Rattle.text_matrix_market.specs.Text.{lines_of, is_blank_line, begins_percent}
use Rattle.text_matrix_market.specs.Numbers.{numbers_of}
use Rattle.text_matrix_market.specs.Banner.{banner_kind}
use Rattle.text_matrix_market.specs.File.{max_input, max_line, max_order, max_entries, weight_fits, is_upper, is_within, zero_based, entry_from, line_entry}
use Rattle.text_matrix_market.specs.File.{State, start, sizing, entering, refused, begun, sized, entered, content, too_long, read_line, read_lines, file}
use Rattle.text_matrix_market.specs.File.{refusal, reading_at_end, reading_of}
use Rattle.text_matrix_market.proofs.Entries.{both, inside}

-- ---- entries within their limits
abbrev pub WeightWithin : Kind → ℕ → ℕ → Type 0
WeightWithin General n weight = n * weight < 2 ^ 48
WeightWithin Symmetric n weight = weight < 2 ^ 53
WeightWithin Pattern n weight = n * weight < 2 ^ 48

-- on or below the diagonal, where only that is stored
abbrev pub Stored : Kind → ℕ → ℕ → Type 0
Stored General row column = Unit
Stored Symmetric row column = column ≤ row
Stored Pattern row column = Unit

pub record Sound (kind : Kind) (n : ℕ) (t : Entry) : Type 0 where
  pub row : t.row < n
  pub column : t.column < n
  pub weight : WeightWithin kind n t.weight
  pub stored : Stored kind t.row t.column

-- each entry
abbrev pub Each : Kind → ℕ → List Entry → Type 0
Each kind n [] = Unit
Each kind n (t ∷ entries) = Sound kind n t × Each kind n entries

each_more : (kind : Kind) (n : ℕ) (entries : List Entry) (t : Entry) → Each kind n entries → Sound kind n t → Each kind n (entries ++ (t ∷ []))
each_more kind n [] t e s = (s, tt)
each_more kind n (x ∷ entries) t e s = (e.0, each_more kind n entries t e.1 s)

-- by place, as the slices hold them
pub each_at : (kind : Kind) (n : ℕ) (P : ℕ → Type 0) (f : Entry → ℕ) → ((t : Entry) → Sound kind n t → P (f t)) → (entries : List Entry)
    → Each kind n entries → (k : ℕ) → k < length entries → P (get_or (map f entries) k 0)
each_at kind n P f h [] e k l = let z : ⊥ = omega arith in absurd z
each_at kind n P f h (t ∷ entries) e zero l = h t e.0
each_at kind n P f h (t ∷ entries) e (suc k) l = each_at kind n P f h entries e.1 k (omega arith)

tested : (b u : Bool) (x t : Entry) → cond b (cond u (Err upper_entry) (Ok x)) (Err entry_line) ≡ Ok t → (b ≡ true) × (u ≡ false) × (x ≡ t)
tested true false x t e = (refl, refl, cc)
tested true true x t e = let w : ⊥ = cc in absurd w
tested false u x t e = let w : ⊥ = cc in absurd w

weight_within : (kind : Kind) (n weight : ℕ) → weight_fits kind n weight ≡ true → WeightWithin kind n weight
weight_within General n weight e = ltb-true (n * weight) (2 ^ 48) e
weight_within Symmetric n weight e = ltb-true weight (2 ^ 53) e
weight_within Pattern n weight e = ltb-true (n * weight) (2 ^ 48) e

stored_there : (kind : Kind) (row column : ℕ) → is_upper kind row column ≡ false → Stored kind (row - 1) (column - 1)
stored_there General row column e = tt
stored_there Symmetric row column e = let h : column ≤ row = ltb-false row column e in omega arith
stored_there Pattern row column e = tt

from_sound : (kind : Kind) (n : ℕ) (x : Option (ℕ × ℕ × ℕ)) (t : Entry) → entry_from kind n x ≡ Ok t → Sound kind n t
from_sound kind n None t e = let w : ⊥ = cc in absurd w
from_sound kind n (Some (row, column, weight)) t e =
    let x : Entry = zero_based row column weight in
    let p = tested (is_within n row && (is_within n column && weight_fits kind n weight)) (is_upper kind row column) x t e in
    let q = both (is_within n row) (is_within n column && weight_fits kind n weight) p.0 in
    let r = both (is_within n column) (weight_fits kind n weight) q.1 in
    let i = inside n row q.0 in
    let j = inside n column r.0 in
    subst (Sound kind n) p.2
    (record {
      row = omega (arith, i.0, i.1);
      column = omega (arith, j.0, j.1);
      weight = weight_within kind n weight r.1;
      stored =
          stored_there kind row column p.1;
    })

-- ---- what holds of each state
abbrev pub Good : State → Type 0
Good start = Unit
Good (sizing kind) = Unit
Good (entering kind n count entries) = (n ≤ max_order) × (count ≤ max_entries) × Each kind n entries
Good (refused number) = Unit

either : (t : Bool) (a b : State) → Good a → Good b → Good (cond t a b)
either true a b g h = g
either false a b g h = h

good_size : (kind : Kind) (x : Option (ℕ × ℕ × ℕ)) → Good (sized kind x)
good_size kind None = tt
good_size kind (Some (m, n, count)) = each (eqb m n) (leb n max_order && leb count max_entries) refl
  where
    each : (t u : Bool) → (leb n max_order && leb count max_entries) ≡ u
        → Good (cond t (cond u (entering kind n count []) (refused input_limit)) (refused size_line))
    each true true e = let p = both (leb n max_order) (leb count max_entries) e in (leb-true n max_order p.0, leb-true count max_entries p.1, tt)
    each true false e = tt
    each false u e = tt

good_entry : (kind : Kind) (n count : ℕ) (entries : List Entry) (line : List ℕ) (e : Result Entry ℕ) → line_entry kind n line ≡ e
    → Good (entering kind n count entries) → Good (entered kind n count entries e)
unfolding line_entry
good_entry kind n count entries line (Err fault) e g = tt
good_entry kind n count entries line (Ok t) e g = (g.0, g.1, each_more kind n entries t g.2 (from_sound kind n (numbers_of kind line) t e))

good_banner : (b : Option Kind) → Good (begun b)
good_banner (Some kind) = tt
good_banner None = tt

good_content : (s : State) (line : List ℕ) → Good s → Good (content s line)
unfolding content
good_content start line g = good_banner (banner_kind line)
good_content (sizing kind) line g = either (is_blank_line line || begins_percent line) _ _ tt (good_size kind (numbers_of General line))
good_content (entering kind n count entries) line g =
    either (is_blank_line line) _ _ g (either (ltb (length entries) count) _ _ (good_entry kind n count entries line (line_entry kind n line) refl g) tt)
good_content (refused number) line g = tt

good_long : (s : State) → Good (too_long s)
good_long start = tt
good_long (sizing kind) = tt
good_long (entering kind n count entries) = tt
good_long (refused number) = tt

pub good_line : (s : State) (line : List ℕ) → Good s → Good (read_line s line)
unfolding read_line
good_line s line g = either (leb (length line) max_line) _ _ (good_content s line g) (good_long s)

good_lines : (s : State) (lines : List (List ℕ)) → Good s → Good (read_lines s lines)
unfolding read_lines
good_lines s [] g = g
good_lines s (line ∷ lines) g = good_lines (read_line s line) lines (good_line s line g)

-- ---- an accepted input
pub record Limits (kind : Kind) (n : ℕ) (entries : List Entry) : Type 0 where
  pub order : n ≤ max_order
  pub count : length entries ≤ max_entries
  pub each : Each kind n entries

good_end : (s : State) (kind : Kind) (n : ℕ) (entries : List Entry) → Good s → reading_at_end s ≡ file kind n entries → Limits kind n entries
unfolding reading_at_end
good_end start kind n entries g e = let w : ⊥ = cc in absurd w
good_end (sizing other) kind n entries g e = let w : ⊥ = cc in absurd w
good_end (entering other m count more) kind n entries g e = all (eqb (length more) count) refl e
  where
    all : (t : Bool) → eqb (length more) count ≡ t → cond t (file other m more) (refusal entry_count) ≡ file kind n entries → Limits kind n entries
    all true h x =
        let o : other ≡ kind = cc in
        let p : m ≡ n = cc in
        let q : more ≡ entries = cc in
        let l : length more ≡ count = eqb-true (length more) count h in
        rw (← o, ← p, ← q) (record { order = g.0; count = omega (arith, g.1); each = g.2 })
    all false h x = let w : ⊥ = cc in absurd w
good_end (refused number) kind n entries g e = let w : ⊥ = cc in absurd w

pub accepted : (input : List ℕ) (kind : Kind) (n : ℕ) (entries : List Entry) → reading_of input ≡ file kind n entries → Limits kind n entries
unfolding reading_of
accepted input kind n entries e = all (leb (length input) max_input) e
  where
    all : (t : Bool) → cond t (reading_at_end (read_lines start (lines_of input))) (refusal input_limit) ≡ file kind n entries → Limits kind n entries
    all true x = good_end (read_lines start (lines_of input)) kind n entries (good_lines start (lines_of input) tt) x
    all false x = let w : ⊥ = cc in absurd w
