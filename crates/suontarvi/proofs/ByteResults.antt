-- The calls on bytes: that the number of what they answer is one of the call's list, by the theorems `..-listed` of byte_forms.
use mathlib.Core.Path.{◌≡◌, sym, ap, subst}
use mathlib.Core.List.{List}
use Prim.Native.Nat.{ℕ}
use Rattle.refusal.specs.Listed.{OneOf, graph_numbers, log_factor_numbers, unsymmetric_numbers}
use Rattle.slices.specs.Outcome.{Outcome}
use Rattle.byte_forms.specs.MatchBytes.{GraphBytes, MatchBytes, match_bytes_result, BytesMatch, BytesPromised, BytesCounted}
use Rattle.byte_forms.specs.FactorBytes.{FactorBytes, log_factors_bytes, unsymmetric_bytes}
use Rattle.byte_forms.proofs.Theorems.{match_bytes_listed, log_factors_bytes_listed, unsymmetric_bytes_listed}
use Rattle.suontarvi.specs.Match.{MatchBytesPromises}
use Rattle.suontarvi.specs.Factors.{FactorBytesPromises}

pub match_number_lem : (b : GraphBytes) (old : MatchBytes) {t : Outcome ℕ MatchBytes}
    → (t ≡ match_bytes_result b old) × (BytesMatch b t × (BytesPromised b t × BytesCounted b t))
    → MatchBytesPromises b old t
match_number_lem b old p =
    record {
      outcome = p.0;
      matching = p.1.0;
      optimal = p.1.1.0;
      counts = p.1.1.1;
      number = subst (OneOf graph_numbers) (sym (ap (λ (r : Outcome ℕ MatchBytes). r.answer) p.0)) (match_bytes_listed b old).is;
    }

pub factors_number : (n matched : ℕ) (perm u v cmax factors unmatched : List ℕ) {t : Outcome ℕ FactorBytes}
    → t ≡ log_factors_bytes n matched perm u v cmax factors unmatched
    → FactorBytesPromises log_factor_numbers (log_factors_bytes n matched perm u v cmax factors unmatched) t
factors_number n matched perm u v cmax factors unmatched e =
    let l = (log_factors_bytes_listed n matched perm u v cmax factors unmatched).is in
    record { outcome = e; number = subst (OneOf log_factor_numbers) (sym (ap (λ (r : Outcome ℕ FactorBytes). r.answer) e)) l }

pub sides_number : (n : ℕ) (u v cmax rows columns : List ℕ) {t : Outcome ℕ FactorBytes} → t ≡ unsymmetric_bytes n u v cmax rows columns
    → FactorBytesPromises unsymmetric_numbers (unsymmetric_bytes n u v cmax rows columns) t
sides_number n u v cmax rows columns e =
    let l = (unsymmetric_bytes_listed n u v cmax rows columns).is in
    record { outcome = e; number = subst (OneOf unsymmetric_numbers) (sym (ap (λ (r : Outcome ℕ FactorBytes). r.answer) e)) l }
