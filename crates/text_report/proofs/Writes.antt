-- Texts written one after the other are one text written (`and_then`, with a byte first or last as cases of it). By induction on the first text.
use mathlib.Core.Path.{◌≡◌, refl, sym, ap, ◌∙◌, subst}
use mathlib.Core.List.{List, [], ◌∷◌, ◌++◌, append_assoc}
use Prim.Native.Nat.{ℕ, suc, ◌+◌, ◌-◌, ◌≤◌}
use native.Mathlib.Nat.{add-zero, zero-add}
use native.Mathlib.Omega.{arith}
use borrow.Rule.Slice.PartMut.{put_mid}
use Rattle.std.proofs.lemmas.List.Edits.{sets-eq}
use lib.ListN.{length, set, take, drop, length-append}
use lib.Seq.{sets, drop-drop}
use Rattle.text_report.specs.inner.Steps.{Wrote}

sets_append : (out : List ℕ) (at : ℕ) (s t : List ℕ) → sets out at (s ++ t) ≡ sets (sets out at s) (at + length s) t
sets_append out at [] t = ap (λ (k : ℕ). sets out k t) (sym (add-zero at))
sets_append out at (b ∷ s) t =
    sets_append (set out at b) (suc at) s t ∙ ap (λ (k : ℕ). sets (sets (set out at b) (suc at) s) k t) (omega arith)

pub and_then : {out mid left s t : List ℕ} {at place next : ℕ} → Wrote out at s mid place → Wrote mid place t left next → Wrote out at (s ++ t) left next
and_then {out} {mid} {left} {s} {t} {at} {place} {next} p q = record {
  bytes = q.bytes ∙ rw (p.bytes, p.place) (sym (sets_append out at s t));
  place = omega (arith, length-append s t, p.place, q.place);
}

pub byte : (out : List ℕ) (at b : ℕ) → Wrote out at (b ∷ []) (set out at b) (at + 1)
byte out at b = record { bytes = refl; place = refl }

pub byte_first : {out left t : List ℕ} {at next : ℕ} (b : ℕ) → Wrote (set out at b) (at + 1) t left next → Wrote out at (b ∷ t) left next
byte_first {out} {left} {t} {at} {next} b q = and_then (byte out at b) q

pub byte_last : {out mid s : List ℕ} {at place : ℕ} (b : ℕ) → Wrote out at s mid place → Wrote out at (s ++ (b ∷ [])) (set mid place b) (place + 1)
byte_last {out} {mid} {s} {at} {place} b p = and_then p (byte mid place b)

-- a text copied over a part
pub copied : (out text : List ℕ) (at : ℕ) → at + length text ≤ length out
    → Wrote out at text (put_mid at (at + length text - at) out text) (at + length text)
copied out text at h =
    let size : at + length text - at ≡ length text = omega arith in
    record { bytes = rw (size, drop-drop (length text) at out) (sym (sets-eq text out at h ∙ append_assoc (take at out) text (drop (at + length text) out))); place = refl }

-- the same text and place, said otherwise
pub restated : {out left s t : List ℕ} {at m n : ℕ} → s ≡ t → m ≡ n → Wrote out at s left m → Wrote out at t left n
restated {out} {left} {s} {t} {at} {m} {n} e f p = subst (λ (k : ℕ). Wrote out at t left k) f (subst (λ (text : List ℕ). Wrote out at text left m) e p)

-- a text at the front: the next place is its length
pub from_start : {out left text : List ℕ} {next : ℕ} → Wrote out 0 text left next → (left ≡ sets out 0 text) × (next ≡ length text)
from_start p = (p.bytes, p.place ∙ zero-add _)
