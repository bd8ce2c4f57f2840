-- One more column is normalised: the buffer before it holds costs, the buffer from it on holds logs still. By the lengths of the columns before.
use mathlib.Core.Path.{◌≡◌, refl, sym, ap, ◌∙◌}
use mathlib.Core.List.{List, [], ◌∷◌, ◌++◌, append-nil, append_assoc}
use Prim.Native.Nat.{ℕ, zero, suc, ◌+◌, ◌-◌, ◌≤◌, ◌<◌}
use native.Mathlib.Numerals.{add-one}
use native.Mathlib.Omega.{arith}
use lib.Ieee.{Float, nan}
use lib.ListN.{length, get_or, take, drop, set, length-append, length-drop, drop_of_length-le}
use lib.Seq.{drop-cons, drop_at, drop-drop, set_at, take_at, length-take-le, append_snoc}
use Rattle.float64.specs.Constants.{minus_infinity}
use Rattle.sparse.specs.Columns.{Pointers}
use Rattle.sparse.proofs.Accepted.{pointer_below}
use Rattle.mc64_columns.specs.Columns.{largest, normalised}
use Rattle.mc64_columns.specs.Graphs.{joined}
use Rattle.mc64_columns.proofs.Graphs.{ones_length, normalised_length}
use Rattle.mc64_symmetric.specs.inner.Steps.{stretch, NormalisedTo}

module _ {n count : ℕ} {graph_ptr : List ℕ} (p : Pointers n graph_ptr count) (cost₀ cmax₀ : List Float) (room : count ≤ length cost₀)
    (long : length cmax₀ ≡ n) where
  pub normal_start : NormalisedTo 0 graph_ptr cost₀ cmax₀ cost₀ cmax₀
  unfolding joined
  normal_start = record { costs = rw p.first; tops = refl }

  stretch_length : (c : ℕ) → c < n → length (stretch graph_ptr cost₀ c) ≡ get_or graph_ptr (suc c) 0 - get_or graph_ptr c 0
  stretch_length c h =
      length-take-le (get_or graph_ptr (suc c) 0 - get_or graph_ptr c 0) (drop (get_or graph_ptr c 0) cost₀)
      (rw length-drop (omega (arith, pointer_below p (suc c) h)))

  costs_length : (c : ℕ) → c ≤ n → length (joined (λ i. normalised (stretch graph_ptr cost₀ i)) c) ≡ get_or graph_ptr c 0
  unfolding joined
  costs_length zero h = sym p.first
  costs_length (suc c) h =
      length-append (joined (λ i. normalised (stretch graph_ptr cost₀ i)) c) (normalised (stretch graph_ptr cost₀ c))
      ∙ omega (arith, costs_length c (omega arith), normalised_length (stretch graph_ptr cost₀ c), stretch_length c h, p.rises c h)

  module _ (c : ℕ) (h : c < n) {cost cmax : List Float} (s : NormalisedTo c graph_ptr cost₀ cmax₀ cost cmax) where
    rest-is : drop (get_or graph_ptr c 0) cost ≡ drop (get_or graph_ptr c 0) cost₀
    rest-is =
        ap (drop (get_or graph_ptr c 0)) s.costs
        ∙ drop_at (joined (λ i. normalised (stretch graph_ptr cost₀ i)) c) (drop (get_or graph_ptr c 0) cost₀) (get_or graph_ptr c 0) (costs_length c (omega arith))

    -- column c still holds its logs
    pub stretch_at : stretch graph_ptr cost c ≡ stretch graph_ptr cost₀ c
    stretch_at = ap (take (get_or graph_ptr (suc c) 0 - get_or graph_ptr c 0)) rest-is

    -- its largest log beside those before
    top_more : (top : Float) → top ≡ largest (stretch graph_ptr cost₀ c) → set cmax c top ≡ joined (λ i. largest (stretch graph_ptr cost₀ i) ∷ [])
        (suc c) ++ drop (suc c) cmax₀
    unfolding joined
    top_more top e =
        let tops = joined (λ i. largest (stretch graph_ptr cost₀ i) ∷ []) c in
        rw (s.tops, drop-cons cmax₀ c nan (omega arith), e)
        (set_at tops (get_or cmax₀ c nan) (drop (suc c) cmax₀) (largest (stretch graph_ptr cost₀ c)) c (ones_length (λ i. largest (stretch graph_ptr cost₀ i)) c)
        ∙ sym (append_snoc tops (largest (stretch graph_ptr cost₀ c)) (drop (suc c) cmax₀)))

    pub normal_empty : (top : Float) → get_or graph_ptr c 0 ≡ get_or graph_ptr (c + 1) 0 → top ≡ minus_infinity
        → NormalisedTo (c + 1) graph_ptr cost₀ cmax₀ cost (set cmax c top)
    unfolding joined normalised largest
    normal_empty top e t = rw (add-one c) (none (rw (add-one c) at e))
      where
        none : get_or graph_ptr c 0 ≡ get_or graph_ptr (suc c) 0 → NormalisedTo (suc c) graph_ptr cost₀ cmax₀ cost (set cmax c top)
        none e =
            let z : get_or graph_ptr (suc c) 0 - get_or graph_ptr c 0 ≡ 0 = omega arith in
            let l : stretch graph_ptr cost₀ c ≡ [] = rw z in
            record { costs = rw (l, append-nil, ← e) s.costs; tops = top_more top (t ∙ sym (ap largest l)) }

    pub normal_column : (column : List Float) (top : Float) → let a = get_or graph_ptr c 0 in let e = get_or graph_ptr (c + 1) 0 in
        column ≡ normalised (take (e - a) (drop a cost)) → top ≡ largest (take (e - a) (drop a cost))
        → NormalisedTo (c + 1) graph_ptr cost₀ cmax₀ (take a cost ++ (column ++ drop (e - a) (drop a cost))) (set cmax c top)
    unfolding joined
    normal_column column top = rw (add-one c) some
      where
        some : let a = get_or graph_ptr c 0 in let e = get_or graph_ptr (suc c) 0 in
            column ≡ normalised (take (e - a) (drop a cost)) → top ≡ largest (take (e - a) (drop a cost))
            → NormalisedTo (suc c) graph_ptr cost₀ cmax₀ (take a cost ++ (column ++ drop (e - a) (drop a cost))) (set cmax c top)
        some n t =
            let a = get_or graph_ptr c 0 in
            let e = get_or graph_ptr (suc c) 0 in
            let costs = joined (λ i. normalised (stretch graph_ptr cost₀ i)) c in
            let front : take a cost ≡ costs = ap (take a) s.costs ∙ take_at costs (drop a cost₀) a (costs_length c (omega arith)) in
            let end : a + (e - a) ≡ e = omega (arith, p.rises c h) in
            let back : drop (e - a) (drop a cost) ≡ drop e cost₀ = ap (drop (e - a)) rest-is ∙ drop-drop (e - a) a cost₀ ∙ ap (λ (i : ℕ). drop i cost₀) end in
            record {
              costs = rw (front, back, n, stretch_at) (sym (append_assoc costs (normalised (stretch graph_ptr cost₀ c)) (drop e cost₀)));
              tops = top_more top (t ∙ ap largest stretch_at);
            }

  pub normal_end : {cost cmax : List Float} → NormalisedTo n graph_ptr cost₀ cmax₀ cost cmax → cmax ≡ joined (λ i. largest (stretch graph_ptr cost₀ i) ∷ []) n
  normal_end s = s.tops ∙ ap (λ (l : List Float). joined (λ i. largest (stretch graph_ptr cost₀ i) ∷ []) n ++ l)
      (drop_of_length-le cmax₀ {i = n} (omega arith)) ∙ append-nil _
