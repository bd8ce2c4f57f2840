-- The tie file, exactly: which inputs are read as which file, and which are refused with which number. What is a file or to be refused is read so
-- (Refusals), and every input is one of these (Total); a reading is one, so both ways follow.
use mathlib.Core.Path.{◌≡◌, refl, subst}
use mathlib.Core.Logic.{◌⊎◌, inl, inr, ◌↔◌}
use mathlib.Core.List.{List}
use Prim.Native.Nat.{ℕ, zero, suc, ◌+◌}
use native.Mathlib.Omega.{arith}
use Rattle.text_matrix_market.specs.declared.banner.Kind.{Kind}
use Rattle.text_matrix_market.specs.declared.stages.Entry.{Entry}
use Rattle.text_matrix_market.specs.File.{file, refusal, file_of}
use Rattle.text_tie_file.specs.File.{IsFile}
use Rattle.text_tie_file.specs.Refused.{NoBanner, NoSize, NoEntry, WrongCount, AboveDiagonal, Repeats, Short, PastLimit, IsRefused, by_20, by_21}
use Rattle.text_tie_file.specs.Refused.{by_22, by_23, by_24, by_25, by_26}
use Rattle.text_tie_file.proofs.Bytes.{never}
use Rattle.text_tie_file.proofs.Refusals.{file_back, refused_back}
use Rattle.text_tie_file.proofs.Total.{Known, held, refused, known}

file_only : (input : List ℕ) (kind : Kind) (n : ℕ) (entries : List Entry) → Known input → file_of input ≡ file kind n entries → IsFile input kind n entries
file_only input kind n entries (held kind' n' entries' f) e =
    let x : file_of input ≡ file kind' n' entries' = file_back input kind' n' entries' f in
    let k : kind' ≡ kind = cc in
    let m : n' ≡ n = cc in
    let t : entries' ≡ entries = cc in
    rw (← k, ← m, ← t) f
file_only input kind n entries (refused k r) e = never (let x : file_of input ≡ refusal k = refused_back input k r in cc)

refused_only : (input : List ℕ) (k : ℕ) → Known input → file_of input ≡ refusal k → IsRefused input k
refused_only input k (held kind n entries f) e = never (let x : file_of input ≡ file kind n entries = file_back input kind n entries f in cc)
refused_only input k (refused j r) e =
    let x : file_of input ≡ refusal j = refused_back input j r in
    let h : j ≡ k = cc in
    subst (IsRefused input) h r

-- an input is read as a file exactly if it is that file
pub file_exactly : (input : List ℕ) (kind : Kind) (n : ℕ) (entries : List Entry) → (file_of input ≡ file kind n entries) ↔ IsFile input kind n entries
file_exactly input kind n entries = (file_only input kind n entries (known input), file_back input kind n entries)

-- it is refused with a number exactly if it is to be refused with it
pub refused_exactly : (input : List ℕ) (k : ℕ) → (file_of input ≡ refusal k) ↔ IsRefused input k
refused_exactly input k = (refused_only input k (known input), refused_back input k)

-- every input is a file or is to be refused
pub file_or_refused : (input : List ℕ) → ((kind : Kind) × (n : ℕ) × (entries : List Entry) × IsFile input kind n entries) ⊎ ((k : ℕ) × IsRefused input k)
file_or_refused input = by (known input)
  where
    by : Known input → ((kind : Kind) × (n : ℕ) × (entries : List Entry) × IsFile input kind n entries) ⊎ ((k : ℕ) × IsRefused input k)
    by (held kind n entries f) = inl (kind, n, entries, f)
    by (refused k r) = inr (k, r)

-- ---- number by number
abbrev Fault : ℕ → List ℕ → Type 0
Fault zero input = Short input NoBanner
Fault (suc zero) input = Short input NoSize
Fault (suc (suc zero)) input = PastLimit input
Fault (suc (suc (suc zero))) input = Short input NoEntry
Fault (suc (suc (suc (suc zero)))) input = Short input WrongCount
Fault (suc (suc (suc (suc (suc zero))))) input = Repeats input
Fault (suc (suc (suc (suc (suc (suc zero)))))) input = Short input AboveDiagonal
Fault (suc (suc (suc (suc (suc (suc (suc j))))))) input = ⊥

-- the fault j has the number 20 + j
fault_of_lem : (input : List ℕ) (k : ℕ) → IsRefused input k → (j : ℕ) × (k ≡ 20 + j) × Fault j input
fault_of_lem input k (by_20 e x) = (0, e, x)
fault_of_lem input k (by_21 e x) = (1, e, x)
fault_of_lem input k (by_22 e x) = (2, e, x)
fault_of_lem input k (by_23 e x) = (3, e, x)
fault_of_lem input k (by_24 e x) = (4, e, x)
fault_of_lem input k (by_25 e x) = (5, e, x)
fault_of_lem input k (by_26 e x) = (6, e, x)

fault_at : (input : List ℕ) (j : ℕ) → file_of input ≡ refusal (20 + j) → Fault j input
fault_at input j e =
    let f = fault_of_lem input (20 + j) ((refused_exactly input (20 + j)).0 e) in
    let h : f.0 ≡ j = omega (arith, f.1) in
    subst (λ (i : ℕ). Fault i input) h f.2

module _ (input : List ℕ) where
  pub refused_20 : (file_of input ≡ refusal 20) ↔ Short input NoBanner
  refused_20 = (fault_at input 0, λ x. refused_back input 20 (by_20 refl x))

  pub refused_21 : (file_of input ≡ refusal 21) ↔ Short input NoSize
  refused_21 = (fault_at input 1, λ x. refused_back input 21 (by_21 refl x))

  pub refused_22 : (file_of input ≡ refusal 22) ↔ PastLimit input
  refused_22 = (fault_at input 2, λ x. refused_back input 22 (by_22 refl x))

  pub refused_23 : (file_of input ≡ refusal 23) ↔ Short input NoEntry
  refused_23 = (fault_at input 3, λ x. refused_back input 23 (by_23 refl x))

  pub refused_24 : (file_of input ≡ refusal 24) ↔ Short input WrongCount
  refused_24 = (fault_at input 4, λ x. refused_back input 24 (by_24 refl x))

  pub refused_25 : (file_of input ≡ refusal 25) ↔ Repeats input
  refused_25 = (fault_at input 5, λ x. refused_back input 25 (by_25 refl x))

  pub refused_26 : (file_of input ≡ refusal 26) ↔ Short input AboveDiagonal
  refused_26 = (fault_at input 6, λ x. refused_back input 26 (by_26 refl x))
