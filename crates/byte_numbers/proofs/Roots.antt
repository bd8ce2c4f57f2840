-- What the call of the root leaves, by the cases of its answer, and that it reads back as the answer. A root that is answered is not NaN: it
-- is infinity, a zero or the nearest finite double.
use mathlib.Core.Path.{◌≡◌, refl, sym, ap, ◌∙◌, subst}
use mathlib.Core.List.{List}
use mathlib.Core.Bool.{Bool, true, false, cond}
use Prim.Native.Nat.{ℕ, zero, suc}
use borrow.Author.Tests.{eq-eqb, ne_eqb}
use lib.Dec.{T, eqb}
use lib.ListN.{length}
use lib.Seq.{sets}
use lib.Ieee.{Float, nan, inf, fin, binary64, fits, to_bits}
use Rattle.std.specs.Prelude.{Result, Ok, Err}
use Rattle.refusal.specs.Number.{fault_of}
use Rattle.square_root.specs.Root.{root_fault, Answer, sqrt_of}
use Rattle.square_root.proofs.Laws.{sqrt_correct, number_is}
use Rattle.refusal.specs.Refusal.{accepted, slice_length, no_root}
use Rattle.refusal.specs.Listed.{listed, OneOf, root_byte_numbers}
use Rattle.byte_numbers.specs.Bytes.{bytes_of}
use Rattle.byte_numbers.specs.Root.{root_number, root_bytes, root_read, RootPromised}
use Rattle.byte_numbers.proofs.ReadBack.{double_back}

-- ---- the two cases of the answer
same : (x y : Float) → ◌≡◌ {A = Result Float ℕ} (Ok x) (Ok y) → x ≡ y
same x y e = cc

-- a root is a double
pub root_double : (x y : Float) → T (fits binary64 x) → sqrt_of x ≡ Ok y → T (fits binary64 y)
unfolding sqrt_of
root_double nan y f e = cc
root_double (inf true) y f e = cc
root_double (inf false) y f e = subst (λ (z : Float). T (fits binary64 z)) (same (inf false) y e) f
root_double (fin s zero d) y f e = subst (λ (z : Float). T (fits binary64 z)) (same (fin s zero d) y e) f
root_double (fin true (suc m) d) y f e = cc
root_double (fin false (suc m) d) y f e =
    let a = sqrt_correct (fin false (suc m) d) f in
    subst (λ (z : Float). T (fits binary64 z)) (same a.0 y (sym a.1 ∙ e)) a.2.number.double

refused_number : (x : Float) (n : ℕ) → sqrt_of x ≡ Err n → no_root ≡ n
unfolding sqrt_of
refused_number nan n e = ap fault_of e
refused_number (inf true) n e = ap fault_of e
refused_number (inf false) n e = cc
refused_number (fin s zero d) n e = cc
refused_number (fin true (suc m) d) n e = ap fault_of e
refused_number (fin false (suc m) d) n e = cc

-- 0, 3 and 11 are the numbers answered
pub root_bytes_listed : (x : Float) (old : List ℕ) → OneOf root_byte_numbers (root_number x old)
unfolding root_number listed
root_bytes_listed x old = rw (number_is x) (go (eqb (length old) 8) x)
  where
    go : (b : Bool) (x : Float) → OneOf root_byte_numbers (cond b (root_fault x) slice_length)
    go false x = refl
    go true nan = refl
    go true (inf true) = refl
    go true (inf false) = refl
    go true (fin s zero e) = refl
    go true (fin true (suc m) e) = refl
    go true (fin false (suc m) e) = refl

-- ---- what the call answers and leaves, by its cases
module _ (x : Float) (old : List ℕ) where
  -- all that the call promises of the number answered and the bytes left
  abbrev pub Promised : ℕ → List ℕ → Type 0
  Promised number after = record {
    fault : number ≡ root_number x old;
    bytes : after ≡ root_bytes x old;
    ieee : RootPromised x old number after;
    number : OneOf root_byte_numbers number;
  }

  -- whatever reads back as the computed answer is promised
  read : (number : ℕ) (after : List ℕ) → T (fits binary64 x) → root_read number after ≡ sqrt_of x → RootPromised x old number after
  read number after f e h = subst (λ (r : Result Float ℕ). Answer x r) (sym e) (sqrt_correct x f)

  in_list : {number : ℕ} → number ≡ root_number x old → OneOf root_byte_numbers number
  in_list e = subst (OneOf root_byte_numbers) (sym e) (root_bytes_listed x old)

  pub other_length : (length old ≡ 8 → ⊥) → Promised slice_length old
  unfolding root_number root_bytes listed
  other_length h = rw (ne_eqb (length old) 8 h) (record { fault = refl; bytes = refl; ieee = λ e. absurd (h e); number = refl })

  pub answered : (y : Float) → T (fits binary64 x) → length old ≡ 8 → sqrt_of x ≡ Ok y
      → Promised accepted (sets old 0 (bytes_of 8 (to_bits binary64 y)))
  unfolding root_number root_bytes root_read
  answered y f h e =
      let after : List ℕ = sets old 0 (bytes_of 8 (to_bits binary64 y)) in
      let back : root_read accepted after ≡ sqrt_of x = ap Ok (double_back old y h (root_double x y f e)) ∙ sym e in
      let n : accepted ≡ root_number x old = rw (eq-eqb (length old) 8 h, e) refl in
      let b : after ≡ root_bytes x old = rw (eq-eqb (length old) 8 h, e) refl in
      record { fault = n; bytes = b; ieee = read accepted after f back; number = in_list n }

  pub no_root_lem : (n : ℕ) → T (fits binary64 x) → length old ≡ 8 → sqrt_of x ≡ Err n → Promised n old
  unfolding root_number root_bytes root_read
  no_root_lem n f h e =
      let is : no_root ≡ n = refused_number x n e in
      let back : root_read n old ≡ sqrt_of x = ap (λ (k : ℕ). root_read k old) (sym is) ∙ ap Err is ∙ sym e in
      let m : n ≡ root_number x old = rw (eq-eqb (length old) 8 h, e) refl in
      let b : old ≡ root_bytes x old = rw (eq-eqb (length old) 8 h, e) refl in
      record { fault = m; bytes = b; ieee = read n old f back; number = in_list m }
