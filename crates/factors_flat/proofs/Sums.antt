-- One more stored place: which index gets a sum by it, and how what is held changes. By cases on the two ends.
use mathlib.Core.Path.{◌≡◌, refl, sym, ap, ◌∙◌, subst}
use mathlib.Core.Bool.{Bool, true, false, cond, true≢false}
use mathlib.Core.List.{List, [], ◌∷◌, ◌++◌, append-nil, append_assoc}
use Prim.Native.Nat.{ℕ, ◌+◌, ◌<◌}
use native.Mathlib.Numerals.{add-one}
use native.Mathlib.Decide.{ℕ_discrete}
use native.Mathlib.Omega.{arith}
use borrow.Author.Tests.{eq-eqb, ne_eqb}
use lib.Dec.{eqb}
use lib.Ieee.{Float, nan, binary64, add, eq, lt}
use lib.ListN.{get_or, set, length-set}
use lib.Seq.{get_or-set_same, get_or-set_other}
use Rattle.float64.specs.Constants as Constants
use Rattle.sparse.specs.Matrix.{Matrix, matrix}
use Rattle.matching.specs.Match.{Match}
use Rattle.sparse.specs.Pattern.{row_of, InColumn}
use Rattle.mc64_columns.specs.Columns.{largest_from}
use Rattle.mc64_symmetric.specs.Graph.{places_to, other_end}
use Rattle.mc64_symmetric.specs.inner.Steps.{Triangle}
use Rattle.mc64_symmetric.proofs.Places.{col_is, row_below, dropped, in_row, in_column_lem, elsewhere}
use Rattle.factors_mc64.specs.Factors.{factor_at}
use Rattle.factors_mc64.specs.Calls.{Slices}
use Rattle.factors_flat.specs.Flat.{Input, input, columns, is_matched, alone, sum_at, sums_over}
use Rattle.factors_flat.specs.inner.Steps.{mark, held, Levelled, sums_to, Enters, raised_to, raised_at, entered}

-- ---- one sum more
largest_more : (top x : Float) (l : List Float) → largest_from top (l ++ (x ∷ [])) ≡ cond (lt (largest_from top l) x) x (largest_from top l)
unfolding largest_from
largest_more top x [] = refl
largest_more top x (y ∷ l) = largest_more (cond (lt top y) y top) x l

held_more : (f s : Float) (l : List Float) → held false f (l ++ (s ∷ [])) ≡ raised_to (mark false l) (held false f l) s
unfolding largest_from
held_more f s [] = refl
held_more f s (x ∷ l) = largest_more x s l

mark_more : (s : Float) (l : List Float) → mark false (l ++ (s ∷ [])) ≡ 2
mark_more s [] = refl
mark_more s (x ∷ l) = refl

pub sums_more : (g : Input) (i : ℕ) (l : List ℕ) (k : ℕ) → sums_over g i (l ++ (k ∷ [])) ≡ sums_over g i l ++ alone
    (is_matched (columns g) g.pairs (other_end g.stored i k)) (sum_at g i k)
unfolding sums_over
sums_more g i [] k = append-nil (alone (is_matched (columns g) g.pairs (other_end g.stored i k)) (sum_at g i k))
sums_more g i (h ∷ l) k =
    ap (λ (r : List Float). alone (is_matched (columns g) g.pairs (other_end g.stored i h)) (sum_at g i h) ++ r) (sums_more g i l k)
    ∙ sym (append_assoc (alone (is_matched (columns g) g.pairs (other_end g.stored i h)) (sum_at g i h)) (sums_over g i l)
    (alone (is_matched (columns g) g.pairs (other_end g.stored i k)) (sum_at g i k)))

-- ---- an index whose sums stay, or that has no use for them
held_same : (b : Bool) (f : Float) (l k : List Float) → (b ≡ false → k ≡ l) → held b f k ≡ held b f l
held_same true f l k e = refl
held_same false f l k e = ap (held false f) (e refl)

mark_same : (b : Bool) (l k : List Float) → (b ≡ false → k ≡ l) → mark b k ≡ mark b l
mark_same true l k e = refl
mark_same false l k e = ap (mark false) (e refl)

-- the mark tells whether an index is matched
pub mark_tells : (b : Bool) (l : List Float) → eqb (mark b l) 1 ≡ b
mark_tells true l = refl
mark_tells false [] = refl
mark_tells false (x ∷ l) = refl

module _ (n : ℕ) (c : Match Float) (sums more : ℕ → List Float) (s : Slices) (h : Levelled n c sums s) where
  -- all indices as they were
  pub levelled_same : ((i : ℕ) → i < n → is_matched n c i ≡ false → more i ≡ sums i) → Levelled n c more s
  levelled_same e =
      record {
        room = h.room;
        words = h.words;
        factors_at = λ i l. h.factors_at i l ∙ sym (held_same (is_matched n c i) (factor_at n c i) (sums i) (more i) (e i l));
        marks_at = λ i l. h.marks_at i l ∙ sym (mark_same (is_matched n c i) (sums i) (more i) (e i l));
      }

  -- the unmatched index `to` gets one more
  pub levelled_more : (to from : ℕ) (log : Float) → to < n → from < n → is_matched n c to ≡ false → is_matched n c from ≡ true
      → more to ≡ sums to ++ (add binary64 log (factor_at n c from) ∷ [])
      → ((i : ℕ) → i < n → (i ≡ to → ⊥) → is_matched n c i ≡ false → more i ≡ sums i) → Levelled n c more (raised_at to from log s)
  unfolding raised_at
  levelled_more to from log below there un ma own same =
      record {
        room = simp length-set h.room;
        words = simp length-set h.words;
        factors_at = λ i l. factor i l (ℕ_discrete i to);
        marks_at = λ i l. marked i l (ℕ_discrete i to);
      }
    where
      served : get_or s.factors from nan ≡ factor_at n c from
      served = h.factors_at from there ∙ ap (λ (b : Bool). held b (factor_at n c from) (sums from)) ma

      raise_is : raised_to (get_or s.work to 0) (get_or s.factors to nan) (add binary64 log (get_or s.factors from nan)) ≡ held false
          (factor_at n c to) (more to)
      raise_is =
          rw (h.marks_at to below, h.factors_at to below, served, un)
          (sym (held_more (factor_at n c to) (add binary64 log (factor_at n c from)) (sums to)) ∙ sym (ap (held false (factor_at n c to)) own))

      factor : (i : ℕ) → i < n → Dec (i ≡ to)
          → get_or (set s.factors to (raised_to (get_or s.work to 0) (get_or s.factors to nan) (add binary64 log (get_or s.factors from nan)))) i
          nan ≡ held (is_matched n c i) (factor_at n c i) (more i)
      factor i l (yes e) = rw (e, un) (get_or-set_same s.factors to _ nan (omega (arith, h.room)) ∙ raise_is)
      factor i l (no e) = get_or-set_other s.factors to i _ nan e ∙ h.factors_at i l
          ∙ sym (held_same (is_matched n c i) (factor_at n c i) (sums i) (more i) (same i l e))

      marked : (i : ℕ) → i < n → Dec (i ≡ to) → get_or (set s.work to 2) i 0 ≡ mark (is_matched n c i) (more i)
      marked i l (yes e) = rw (e, un, own)
          (get_or-set_same s.work to 2 0 (omega (arith, h.words)) ∙ sym (mark_more (add binary64 log (factor_at n c from)) (sums to)))
      marked i l (no e) = get_or-set_other s.work to i 2 0 e ∙ h.marks_at i l ∙ sym (mark_same (is_matched n c i) (sums i) (more i) (same i l e))

-- ---- one place more of column j of the triangle
module _ (c : Match Float) (m : Matrix) (logs : List Float) (t : Triangle m) where
  abbrev g : Input
  g = input c m logs

  pub entry_dropped : (k : ℕ) (s : Slices) → eq (get_or m.values k nan) Constants.zero ≡ true → Levelled m.pattern.n c (sums_to g k) s
      → Levelled m.pattern.n c (sums_to g (k + 1)) s
  entry_dropped k s z h =
      levelled_same m.pattern.n c (sums_to g k) (sums_to g (k + 1)) s h (λ i l u. ap (sums_over g i) (ap (places_to m i) (add-one k) ∙ dropped m i k z))

  module _ {j k : ℕ} (p : InColumn m.pattern j k) (z : eq (get_or m.values k nan) Constants.zero ≡ false) where
    own_row : other_end m j k ≡ row_of m.pattern k
    own_row = go (ℕ_discrete (row_of m.pattern k) j)
      where
        go : Dec (row_of m.pattern k ≡ j) → other_end m j k ≡ row_of m.pattern k
        go (yes e) = rw (eq-eqb (row_of m.pattern k) j e) (col_is m t p ∙ sym e)
        go (no e) = rw (ne_eqb (row_of m.pattern k) j e)

    mirror_row : other_end m (row_of m.pattern k) k ≡ j
    mirror_row = rw (eq-eqb (row_of m.pattern k) (row_of m.pattern k) refl) (col_is m t p)

    -- the sum that index i gets by the place whose other end is x
    abbrev by : ℕ → List Float
    by x = alone (is_matched m.pattern.n c x) (add binary64 (get_or logs k nan) (factor_at m.pattern.n c x))

    column_more : sums_to g (k + 1) j ≡ sums_to g k j ++ by (row_of m.pattern k)
    column_more =
        ap (sums_over g j) (ap (places_to m j) (add-one k) ∙ in_column_lem m j k z (col_is m t p)) ∙ sums_more g j (places_to m j k) k
        ∙ ap (λ (x : ℕ). sums_to g k j ++ by x) own_row

    row_more : sums_to g (k + 1) (row_of m.pattern k) ≡ sums_to g k (row_of m.pattern k) ++ by j
    row_more =
        ap (sums_over g (row_of m.pattern k)) (ap (places_to m (row_of m.pattern k)) (add-one k) ∙ in_row m (row_of m.pattern k) k z refl)
        ∙ sums_more g (row_of m.pattern k) (places_to m (row_of m.pattern k) k) k ∙ ap (λ (x : ℕ). sums_to g k (row_of m.pattern k) ++ by x) mirror_row

    others : (i : ℕ) → (i ≡ row_of m.pattern k → ⊥) → (i ≡ j → ⊥) → sums_to g (k + 1) i ≡ sums_to g k i
    others i a b = ap (sums_over g i) (ap (places_to m i) (add-one k) ∙ elsewhere m i k z (λ q. a (sym q)) (λ q. b (sym q ∙ col_is m t p)))

    no_more : (i x : ℕ) → is_matched m.pattern.n c x ≡ false → sums_to g k i ++ by x ≡ sums_to g k i
    no_more i x e = ap (λ (b : Bool). sums_to g k i ++ alone b (add binary64 (get_or logs k nan) (factor_at m.pattern.n c x))) e ∙ append-nil (sums_to g k i)

    one_more : (i x : ℕ) → is_matched m.pattern.n c x ≡ true → sums_to g k i ++ by x ≡ sums_to g k i ++
        (add binary64 (get_or logs k nan) (factor_at m.pattern.n c x) ∷ [])
    one_more i x e = ap (λ (b : Bool). sums_to g k i ++ alone b (add binary64 (get_or logs k nan) (factor_at m.pattern.n c x))) e

    -- an end that is matched, or whose other end is not, keeps its sums
    stays : (i : ℕ) → (i ≡ row_of m.pattern k → is_matched m.pattern.n c i ≡ false → is_matched m.pattern.n c j ≡ false)
        → (i ≡ j → is_matched m.pattern.n c i ≡ false → is_matched m.pattern.n c (row_of m.pattern k) ≡ false)
        → is_matched m.pattern.n c i ≡ false → sums_to g (k + 1) i ≡ sums_to g k i
    stays i a b u = go (ℕ_discrete i (row_of m.pattern k)) (ℕ_discrete i j)
      where
        go : Dec (i ≡ row_of m.pattern k) → Dec (i ≡ j) → sums_to g (k + 1) i ≡ sums_to g k i
        go (yes e) d = subst (λ (x : ℕ). sums_to g (k + 1) x ≡ sums_to g k x) (sym e) (row_more ∙ no_more (row_of m.pattern k) j (a e u))
        go (no e) (yes f) = subst (λ (x : ℕ). sums_to g (k + 1) x ≡ sums_to g k x) (sym f) (column_more ∙ no_more j (row_of m.pattern k) (b f u))
        go (no e) (no f) = others i e f

    pub entry_entered : (s : Slices) → Levelled m.pattern.n c (sums_to g k) s
        → Levelled m.pattern.n c (sums_to g (k + 1)) (entered (eqb (get_or s.work (row_of m.pattern k) 0) 1) (eqb (get_or s.work j 0) 1)
        (row_of m.pattern k) j
        (get_or logs k nan) s)
    entry_entered s h = rw (tells (row_of m.pattern k) row, tells j column)
        (go (is_matched m.pattern.n c (row_of m.pattern k)) refl (is_matched m.pattern.n c j) refl)
      where
        row : row_of m.pattern k < m.pattern.n
        row = row_below m t p

        column : j < m.pattern.n
        column = p.column

        tells : (i : ℕ) → i < m.pattern.n → eqb (get_or s.work i 0) 1 ≡ is_matched m.pattern.n c i
        tells i l = ap (λ (w : ℕ). eqb w 1) (h.marks_at i l) ∙ mark_tells (is_matched m.pattern.n c i) (sums_to g k i)

        clash : {A : Type 0} {b : Bool} → b ≡ true → b ≡ false → A
        clash e f = absurd (true≢false (sym e ∙ f))

        go : (x : Bool) → is_matched m.pattern.n c (row_of m.pattern k) ≡ x → (y : Bool) → is_matched m.pattern.n c j ≡ y
            → Levelled m.pattern.n c (sums_to g (k + 1)) (entered x y (row_of m.pattern k) j (get_or logs k nan) s)
        go true e true f =
            levelled_same m.pattern.n c (sums_to g k) (sums_to g (k + 1)) s h
            (λ i l. stays i (λ q u. clash (ap (is_matched m.pattern.n c) q ∙ e) u) (λ q u. clash (ap (is_matched m.pattern.n c) q ∙ f) u))
        go false e false f = levelled_same m.pattern.n c (sums_to g k) (sums_to g (k + 1)) s h (λ i l. stays i (λ q u. f) (λ q u. e))
        go true e false f =
            levelled_more m.pattern.n c (sums_to g k) (sums_to g (k + 1)) s h j (row_of m.pattern k) (get_or logs k nan) column row f e
            (column_more ∙ one_more j (row_of m.pattern k) e)
            (λ i l d. stays i (λ q u. f) (λ q u. absurd (d q)))
        go false e true f =
            levelled_more m.pattern.n c (sums_to g k) (sums_to g (k + 1)) s h (row_of m.pattern k) j (get_or logs k nan) row column e f
            (row_more ∙ one_more (row_of m.pattern k) j f)
            (λ i l d. stays i (λ q u. absurd (d q)) (λ q u. e))

-- ---- from place to place, for any match
module _ {m : Matrix} {logs : List Float} where
  pub enters_none : (k : ℕ) (s : Slices) → Enters m logs k k s s
  enters_none k s = record { levels = λ c h. h }

  pub enters_join : {a b d : ℕ} {s t r : Slices} → Enters m logs a b s t → Enters m logs b d t r → Enters m logs a d s r
  enters_join p q = record { levels = λ c h. q.levels c (p.levels c h) }

  pub enters_dropped : Triangle m → {a k : ℕ} {s t : Slices} → eq (get_or m.values k nan) Constants.zero ≡ true → Enters m logs a k s t
      → Enters m logs a (k + 1) s t
  enters_dropped tri {a} {k} {s} {t} z p = record { levels = λ c h. entry_dropped c m logs tri k t z (p.levels c h) }

  pub enters_more : Triangle m → {a j k : ℕ} {s t after : Slices} → InColumn m.pattern j k → eq (get_or m.values k nan) Constants.zero ≡ false
      → after ≡ entered (eqb (get_or t.work (row_of m.pattern k) 0) 1) (eqb (get_or t.work j 0) 1) (row_of m.pattern k) j (get_or logs k nan) t
      → Enters m logs a k s t → Enters m logs a (k + 1) s after
  enters_more tri {a} {j} {k} {s} {t} {after} i z e p =
      record {
        levels = λ c h. subst (λ (r : Slices). Levelled m.pattern.n c (sums_to (input c m logs) (k + 1)) r) (sym e)
            (entry_entered c m logs tri i z t (p.levels c h));
      }

-- with the length of a slice in the place of n
pub enters_next : {n l : ℕ} {col_ptr rows : List ℕ} {values logs : List Float} {a b d : ℕ} {s t r : Slices} → l ≡ n
    → Enters (matrix n col_ptr rows values) logs a b s t → Enters (matrix l col_ptr rows values) logs b d t r
    → Enters (matrix n col_ptr rows values) logs a d s r
enters_next {n} {l} {col_ptr} {rows} {values} {logs} {a} {b} {d} {s} {t} {r} e p q =
    enters_join p (subst (λ (i : ℕ). Enters (matrix i col_ptr rows values) logs b d t r) e q)
