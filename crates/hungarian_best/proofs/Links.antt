-- What a pair stores: each of the three words is one in its own region, by the laws of Words.
use mathlib.Core.List.{List}
use mathlib.Core.Logic.{inl, inr}
use mathlib.Core.Path.{refl, ◌∙◌}
use Prim.Native.Nat.{ℕ, ◌+◌, ◌*◌, ◌<◌}
use native.Mathlib.Omega.{arith}
use lib.ListN.{set}
use Rattle.hungarian.specs.inner.Layout.{iperm_at, jperm_at, from_at}
use Rattle.hungarian_claim.proofs.Words.{store, apart}
use Rattle.hungarian_best.specs.inner.Steps.{Linked}

pub linked : (n : ℕ) (w : List ℕ) (i j k : ℕ) → i < n → j < n → Linked n w i j k (set (set (set w i j) (n + j) k) (3 * n + j) (k + 1))
linked n w i j k h l =
    let a : List ℕ = set w i j in
    let b : List ℕ = set a (n + j) k in
    record {
      rows = apart from_at n b (3 * n + j) j (omega arith) l iperm_at (k + 1) (inl (omega arith)) ∙ apart jperm_at n a (n + j) j (omega arith) l iperm_at k
          (inl (omega arith)) ∙ store iperm_at n w i i (omega arith) h j;
      columns = apart from_at n b (3 * n + j) j (omega arith) l jperm_at (k + 1) (inl (omega arith)) ∙ store jperm_at n a (n + j) j (omega arith) l k
          ∙ rw (apart iperm_at n w i i (omega arith) h jperm_at j (inr (omega arith))) refl;
      from = store from_at n b (3 * n + j) j (omega arith) l (k + 1)
          ∙ rw (
            apart jperm_at n a (n + j) j (omega arith) l from_at k (inr (omega arith)),
            apart iperm_at n w i i (omega arith) h from_at j
                (inr (omega arith)),
          ) refl;
    }
