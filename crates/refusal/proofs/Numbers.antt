-- No refusal has the number 0, no two have the same, and the number of an answer is that of the answer by numbers. By the cases of each.
use Rattle.std.proofs.Common.{◌≡◌, ◌≢◌, ℕ, ◌<◌, cond, eqb, Result, Ok, Err, refl, sym, ap, ◌∙◌, arith}
use Rattle.refusal.specs.declared.Refusal.{Refusal}
use Rattle.refusal.specs.declared.Refusal.TheVariants.{TooManyColumns, TooManyEntries, SliceLength, ColumnPointers}
use Rattle.refusal.specs.declared.Refusal.TheVariants.{IndexRange, UpperTriangle, RowsNotRising, CostRange}
use Rattle.refusal.specs.declared.Refusal.TheVariants.{ValueNotFinite, MatchingRange, NoRoot, ExternalChoice, Banner}
use Rattle.refusal.specs.declared.Refusal.TheVariants.{SizeLine, InputLimit, EntryLine, EntryCount, RepeatedPair}
use Rattle.refusal.specs.declared.Refusal.TheVariants.{UpperEntry, IncompleteMatching, InfeasibleDuals, LoosePair}
use Rattle.refusal.specs.declared.Refusal.TheVariants.{NotLargest, SheetCut, SheetIndex, PatchTwice, ExponentRange}
use Rattle.refusal.specs.declared.Refusal.TheVariants.{PatchOrder, NeedlessField, ValueNotNormal}
use Rattle.refusal.specs.Number.{number, number_of, numbered, fault_of}

-- a refusal is not taken for an accepted call
pub number_above_zero : (e : Refusal) → 0 < number e
number_above_zero TooManyColumns = omega arith
number_above_zero TooManyEntries = omega arith
number_above_zero SliceLength = omega arith
number_above_zero ColumnPointers = omega arith
number_above_zero IndexRange = omega arith
number_above_zero UpperTriangle = omega arith
number_above_zero RowsNotRising = omega arith
number_above_zero CostRange = omega arith
number_above_zero ValueNotFinite = omega arith
number_above_zero MatchingRange = omega arith
number_above_zero NoRoot = omega arith
number_above_zero ExternalChoice = omega arith
number_above_zero Banner = omega arith
number_above_zero SizeLine = omega arith
number_above_zero InputLimit = omega arith
number_above_zero EntryLine = omega arith
number_above_zero EntryCount = omega arith
number_above_zero RepeatedPair = omega arith
number_above_zero UpperEntry = omega arith
number_above_zero IncompleteMatching = omega arith
number_above_zero InfeasibleDuals = omega arith
number_above_zero LoosePair = omega arith
number_above_zero NotLargest = omega arith
number_above_zero SheetCut = omega arith
number_above_zero SheetIndex = omega arith
number_above_zero PatchTwice = omega arith
number_above_zero ExponentRange = omega arith
number_above_zero PatchOrder = omega arith
number_above_zero NeedlessField = omega arith
number_above_zero ValueNotNormal = omega arith

pub number_ne_zero : (e : Refusal) → number e ≢ 0
number_ne_zero e z = omega (arith, number_above_zero e)

-- the refusal of a number; the last one if there is none
named : ℕ → Refusal
named n =
    cond (eqb n 1) TooManyColumns (
    cond (eqb n 2) TooManyEntries (
    cond (eqb n 3) SliceLength (
    cond (eqb n 4) ColumnPointers (
    cond (eqb n 5) IndexRange (
    cond (eqb n 6) UpperTriangle (
    cond (eqb n 7) RowsNotRising (
    cond (eqb n 8) CostRange (
    cond (eqb n 9) ValueNotFinite (
    cond (eqb n 10) MatchingRange (
    cond (eqb n 11) NoRoot (
    cond (eqb n 12) ExternalChoice (
    cond (eqb n 20) Banner (
    cond (eqb n 21) SizeLine (
    cond (eqb n 22) InputLimit (
    cond (eqb n 23) EntryLine (
    cond (eqb n 24) EntryCount (
    cond (eqb n 25) RepeatedPair (
    cond (eqb n 26) UpperEntry (
    cond (eqb n 30) IncompleteMatching (
    cond (eqb n 31) InfeasibleDuals (
    cond (eqb n 32) LoosePair (
    cond (eqb n 33) NotLargest (
    cond (eqb n 40) SheetCut (
    cond (eqb n 41) SheetIndex (
    cond (eqb n 42) PatchTwice (
    cond (eqb n 43) ExponentRange (
    cond (eqb n 44) PatchOrder (
    cond (eqb n 45) NeedlessField (
    ValueNotNormal)))))))))))))))))))))))))))))

named_number : (e : Refusal) → named (number e) ≡ e
unfolding named
named_number TooManyColumns = refl
named_number TooManyEntries = refl
named_number SliceLength = refl
named_number ColumnPointers = refl
named_number IndexRange = refl
named_number UpperTriangle = refl
named_number RowsNotRising = refl
named_number CostRange = refl
named_number ValueNotFinite = refl
named_number MatchingRange = refl
named_number NoRoot = refl
named_number ExternalChoice = refl
named_number Banner = refl
named_number SizeLine = refl
named_number InputLimit = refl
named_number EntryLine = refl
named_number EntryCount = refl
named_number RepeatedPair = refl
named_number UpperEntry = refl
named_number IncompleteMatching = refl
named_number InfeasibleDuals = refl
named_number LoosePair = refl
named_number NotLargest = refl
named_number SheetCut = refl
named_number SheetIndex = refl
named_number PatchTwice = refl
named_number ExponentRange = refl
named_number PatchOrder = refl
named_number NeedlessField = refl
named_number ValueNotNormal = refl

-- the number says which refusal it is
pub number_exact : (e f : Refusal) → number e ≡ number f → e ≡ f
number_exact e f same = sym (named_number e) ∙ ap named same ∙ named_number f

pub fault_numbered : {A : Type 0} → (answer : Result A Refusal) → fault_of (numbered answer) ≡ number_of answer
fault_numbered (Ok x) = refl
fault_numbered (Err e) = refl
