-- Lists of rows: membership, one more row at the end, no row twice, and at most as many rows as there are numbers with a property.
use mathlib.Core.Path.{◌≡◌, refl, sym, ◌∙◌, subst}
use mathlib.Core.Logic.{◌⊎◌, inl, inr, ⊎_elim, ◌≢◌}
use mathlib.Core.Bool.{Bool, true, false, ◌||◌}
use mathlib.Core.List.{List, [], ◌∷◌, ◌++◌}
use Prim.Native.Nat.{ℕ, suc, ◌+◌, ◌≤◌, ◌<◌}
use native.Mathlib.Nat.{le_trans, le_refl, le_of_eq, mul-one, mul-zero}
use native.Mathlib.Decide.{ℕ_discrete}
use native.Mathlib.Omega.{arith}
use lib.Dec.{T, eqb, eqb→eq, eqb_refl}
use lib.ListN.{length, length-append}
use lib.Ieee.Fits.{eq→eqb}
use Rattle.matching.specs.Sum.{sum_to, updated}
use Rattle.matching.proofs.Updated.{updated_same, updated_other}
use Rattle.matching.proofs.Sums.{sum_updated, sum_const}
use Rattle.hungarian.specs.Search.{among}
use Rattle.hungarian.specs.inner.SearchTree.{Among, Distinct}

pub or_l : (p q : Bool) → T p → T (p || q)
or_l true q t = tt
or_l false q t = absurd t

pub or_r : (p q : Bool) → T q → T (p || q)
or_r true q t = tt
or_r false q t = t

pub or_cases : (p q : Bool) → T (p || q) → T p ⊎ T q
or_cases true q t = inl tt
or_cases false q t = inr t

pub among_stays : (i q : ℕ) (l : List ℕ) → Among i l → Among i (l ++ (q ∷ []))
unfolding among
among_stays i q [] t = absurd t
among_stays i q (x ∷ l) t = go (or_cases (eqb x i) (among i l) t) (among_stays i q l)
  where
    go : T (eqb x i) ⊎ T (among i l) → (Among i l → Among i (l ++ (q ∷ []))) → T (eqb x i || among i (l ++ (q ∷ [])))
    go (inl e) f = or_l (eqb x i) (among i (l ++ (q ∷ []))) e
    go (inr m) f = or_r (eqb x i) (among i (l ++ (q ∷ []))) (f m)

pub among_new : (q : ℕ) (l : List ℕ) → Among q (l ++ (q ∷ []))
unfolding among
among_new q [] = or_l (eqb q q) false (eqb_refl q)
among_new q (x ∷ l) = or_r (eqb x q) (among q (l ++ (q ∷ []))) (among_new q l)

pub among_cases : (i q : ℕ) (l : List ℕ) → Among i (l ++ (q ∷ [])) → Among i l ⊎ (i ≡ q)
unfolding among
among_cases i q [] t = go (or_cases (eqb q i) false t)
  where
    go : T (eqb q i) ⊎ ⊥ → ⊥ ⊎ (i ≡ q)
    go (inl e) = inr (sym (eqb→eq q i e))
    go (inr z) = absurd z
among_cases i q (x ∷ l) t = go (or_cases (eqb x i) (among i (l ++ (q ∷ []))) t) (among_cases i q l)
  where
    go : T (eqb x i) ⊎ T (among i (l ++ (q ∷ []))) → (Among i (l ++ (q ∷ [])) → Among i l ⊎ (i ≡ q)) → T (eqb x i || among i l) ⊎ (i ≡ q)
    go (inl e) f = inl (or_l (eqb x i) (among i l) e)
    go (inr m) f = ⊎_elim (λ (a : Among i l). inl (or_r (eqb x i) (among i l) a)) (λ (e : i ≡ q). inr e) (f m)

pub distinct_append : (q : ℕ) (l : List ℕ) → Distinct l → (Among q l → ⊥) → Distinct (l ++ (q ∷ []))
unfolding among
distinct_append q [] d h = (λ t. t, tt)
distinct_append q (x ∷ l) d h = (
  λ t. ⊎_elim (λ (a : Among x l). d.0 a) (λ (e : x ≡ q). h (or_l (eqb x q) (among q l) (eq→eqb e))) (among_cases x q l t),
  distinct_append q l d.1 (λ t. h (or_r (eqb x q) (among q l) t)),
)

pub length_more : (q : ℕ) (l : List ℕ) → length (l ++ (q ∷ [])) ≡ suc (length l)
length_more q l = length-append l (q ∷ []) ∙ (let e : length l + 1 ≡ suc (length l) = omega arith in e)

-- ---- at most as many as the weights that they have
-- the other rows of a list without repeats are not its first
other : (q i : ℕ) (l : List ℕ) → (Among q l → ⊥) → Among i l → i ≢ q
other q i l h a e = h (subst (λ (x : ℕ). Among x l) e a)

pub pigeons : (n : ℕ) (w : ℕ → ℕ) (l : List ℕ) → Distinct l → ((i : ℕ) → Among i l → (i < n) × (1 ≤ w i)) → length l ≤ sum_to n w
unfolding among
pigeons n w [] d h = omega arith
pigeons n w (q ∷ l) d h =
    let a : (q < n) × (1 ≤ w q) = h q (or_l (eqb q q) (among q l) (eqb_refl q)) in
    let rest : length l ≤ sum_to n (updated w q 0) =
    pigeons n (updated w q 0) l d.1 (λ i m. let b : (i < n) × (1 ≤ w i) = h i (or_r (eqb q i) (among i l) m) in
    (b.0, rw (updated_other w q 0 i (other q i l d.0 m)) b.1)) in
    omega (arith, sum_updated n w q 0 a.0, a.1)

-- rows below n are at most n
pub at_most_all : (n : ℕ) (l : List ℕ) → Distinct l → ((i : ℕ) → Among i l → i < n) → length l ≤ n
at_most_all n l d h = le_trans (pigeons n (λ i. 1) l d (λ i m. (h i m, le_refl 1))) (le_of_eq (sum_const n 1 ∙ mul-one n))

-- 1 at each row of a list
marks : List ℕ → ℕ → ℕ
marks [] = λ i. 0
marks (q ∷ l) = updated (marks l) q 1

marked : (i : ℕ) (l : List ℕ) → Among i l → 1 ≤ marks l i
unfolding among marks
marked i [] t = absurd t
marked i (q ∷ l) t = go (ℕ_discrete i q) (or_cases (eqb q i) (among i l) t) (marked i l)
  where
    go : Dec (i ≡ q) → T (eqb q i) ⊎ T (among i l) → (Among i l → 1 ≤ marks l i) → 1 ≤ updated (marks l) q 1 i
    go (yes e) z f = rw (e, updated_same (marks l) q 1) (le_refl 1)
    go (no o) (inl z) f = absurd (o (sym (eqb→eq q i z)))
    go (no o) (inr m) f = rw (updated_other (marks l) q 1 i o) (f m)

marks_most : (n : ℕ) (l : List ℕ) → ((i : ℕ) → Among i l → i < n) → sum_to n (marks l) ≤ length l
unfolding among marks
marks_most n [] h = le_of_eq (sum_const n 0 ∙ mul-zero n)
marks_most n (q ∷ l) h =
    let rest : sum_to n (marks l) ≤ length l = marks_most n l (λ i m. h i (or_r (eqb q i) (among i l) m)) in
    omega (arith, sum_updated n (marks l) q 1 (h q (or_l (eqb q q) (among q l) (eqb_refl q))))

-- rows of another list are at most as many as it has
pub at_most_those : (n : ℕ) (l m : List ℕ) → Distinct l → ((i : ℕ) → Among i l → Among i m) → ((i : ℕ) → Among i m → i < n) → length l ≤ length m
at_most_those n l m d f h = le_trans (pigeons n (marks m) l d (λ i a. (h i (f i a), marked i m (f i a)))) (marks_most n m h)

-- ---- the sum of a weight over a list of rows
unfoldable pub weigh : (ℕ → ℕ) → List ℕ → ℕ
weigh w [] = 0
weigh w (q ∷ l) = w q + weigh w l

pub weigh_more : (w : ℕ → ℕ) (q : ℕ) (l : List ℕ) → weigh w (l ++ (q ∷ [])) ≡ weigh w l + w q
unfolding weigh
weigh_more w q [] = omega arith
weigh_more w q (x ∷ l) = omega (arith, weigh_more w q l)

pub weigh_same : (v w : ℕ → ℕ) (l : List ℕ) → ((i : ℕ) → Among i l → v i ≡ w i) → weigh v l ≡ weigh w l
unfolding weigh among
weigh_same v w [] h = refl
weigh_same v w (q ∷ l) h = let a = h q (or_l (eqb q q) (among q l) (eqb_refl q)) in let b =
    weigh_same v w l (λ i m. h i (or_r (eqb q i) (among i l) m)) in omega arith

-- weights that the rows have by different numbers f below n add up to no more than all weights
pub weigh_apart : (n : ℕ) (w f : ℕ → ℕ) (l : List ℕ) → Distinct l → ((i : ℕ) → Among i l → f i < n)
    → ((i k : ℕ) → Among i l → Among k l → f i ≡ f k → i ≡ k) → weigh (λ i. w (f i)) l ≤ sum_to n w
unfolding weigh among
weigh_apart n w f [] d b o = omega arith
weigh_apart n w f (q ∷ l) d b o =
    let m : Among q (q ∷ l) = or_l (eqb q q) (among q l) (eqb_refl q) in
    let r : (i : ℕ) → Among i l → Among i (q ∷ l) = λ i a. or_r (eqb q i) (among i l) a in
    let rest : weigh (λ i. updated w (f q) 0 (f i)) l ≤ sum_to n (updated w (f q) 0) =
    weigh_apart n (updated w (f q) 0) f l d.1 (λ i a. b i (r i a)) (λ i k a c e. o i k (r i a) (r k c) e) in
    let same : weigh (λ i. updated w (f q) 0 (f i)) l ≡ weigh (λ i. w (f i)) l =
    weigh_same (λ i. updated w (f q) 0 (f i)) (λ i. w (f i)) l (λ i a. updated_other w (f q) 0 (f i) (λ e. other q i l d.0 a (o i q (r i a) m e))) in
    omega (arith, sum_updated n w (f q) 0 (b q m))
