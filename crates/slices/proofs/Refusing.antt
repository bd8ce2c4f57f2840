-- What every call that is `refusing` has by it: a fault is answered, and what was lent is as it was. By the cases of the fault.
use mathlib.Core.Path.{◌≡◌, refl, sym, ap, ◌∙◌}
use mathlib.Core.Logic.{◌≢◌}
use Prim.Native.Nat.{ℕ, zero, suc, ◌<◌}
use native.Mathlib.Omega.{arith}
use Rattle.slices.specs.Outcome.{Outcome, outcome_is, refusing}

pub refused_unchanged : {A S : Type 0} → (refused : ℕ → A) → (fault : ℕ) → (done : Outcome A S) → (before : S) → 0 < fault
    → (refusing refused fault done before).after ≡ before
refused_unchanged refused zero done before positive = let z : ⊥ = omega (arith, positive) in absurd z
refused_unchanged refused (suc fault) done before positive = refl

pub refused_told : {A S : Type 0} → (refused : ℕ → A) → (fault : ℕ) → (done : Outcome A S) → (before : S) → 0 < fault
    → (refusing refused fault done before).answer ≡ refused fault
refused_told refused zero done before positive = let z : ⊥ = omega (arith, positive) in absurd z
refused_told refused (suc fault) done before positive = refl

-- ---- for the proof of a call
-- a fault that is found and answered, with everything as it was, is what the call leaves
pub refused_is : {A S : Type 0} → (refused : ℕ → A) → {found fault : ℕ} → (done : Outcome A S) → (before : S) → found ≡ fault → found ≢ 0
    → outcome_is (refused found) before ≡ refusing refused fault done before
refused_is refused {found} done before e some = go found some ∙ ap (λ (f : ℕ). refusing refused f done before) e
  where
    go : (f : ℕ) → f ≢ 0 → outcome_is (refused f) before ≡ refusing refused f done before
    go zero some = absurd (some refl)
    go (suc f) some = refl

-- with no fault it leaves what it is for
pub done_is : {A S : Type 0} → (refused : ℕ → A) → {fault : ℕ} → {left : Outcome A S} → (done : Outcome A S) → (before : S) → fault ≡ 0 → left ≡ done
    → left ≡ refusing refused fault done before
done_is refused done before e l = l ∙ ap (λ (f : ℕ). refusing refused f done before) (sym e)

-- ---- a call over another
-- what h makes of a call that is `refusing` is `refusing`, where h makes of each refusal its number with everything as it was
pub refusing_over : {A S B R : Type 0} → (h : Outcome A S → Outcome B R) → (refused : ℕ → A) → (told : ℕ → B) → (fault : ℕ) → (done : Outcome A S)
    → (before : S) → (old : R)
    → ((k : ℕ) → h (outcome_is (refused k) before) ≡ outcome_is (told k) old) → h (refusing refused fault done before) ≡ refusing told fault (h done) old
refusing_over h refused told zero done before old same = refl
refusing_over h refused told (suc fault) done before old same = same (suc fault)
