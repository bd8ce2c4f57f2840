-- Every input is a file or is to be refused: line by line, after the well-formed ones. By induction on the lines that are left.
use Rattle.std.proofs.Common.{Option, Some, None}
use mathlib.Core.Path.{◌≡◌, refl, sym, ap, ◌∙◌, subst}
use mathlib.Core.Bool.{Bool, true, false}
use mathlib.Core.Logic.{◌⊎◌, inl, inr, ⊎_elim}
use mathlib.Core.List.{List, [], ◌∷◌, ◌++◌, append-nil}
use Prim.Native.Nat.{ℕ, ◌≤◌, ◌<◌}
use native.Mathlib.Omega.{arith}
use borrow.Author.Tests.{leb-true, leb-false, eqb-true, eqb-false}
use lib.Dec.{eqb, leb}
use lib.ListN.{length}
use Rattle.text_matrix_market.specs.declared.banner.Kind.{Kind}
use Rattle.text_matrix_market.specs.declared.banner.Kind.TheVariants.{General}
use Rattle.text_matrix_market.specs.declared.stages.Entry.{Entry}
use Rattle.text_matrix_market.specs.Text.{lines_of, is_blank_line, begins_percent}
use Rattle.text_matrix_market.specs.Numbers.{numbers_of}
use Rattle.text_matrix_market.specs.File.{max_input, max_line, max_order, max_entries, repeated}
use Rattle.text_tie_file.specs.Bytes.{Every, IsNumber}
use Rattle.text_tie_file.specs.Lines.{Narrow, BlankLine, BlankOrComment, ThreeWords}
use Rattle.text_tie_file.specs.File.{Laid, IsFile}
use Rattle.text_tie_file.specs.Refused.{Opens, Enters, NoBanner, WideLine, IsRefused, by_20, by_21, by_22, by_23, by_24, by_25, by_26}
use Rattle.text_tie_file.proofs.Bytes.{never}
use Rattle.text_matrix_market.proofs.Fields.{same_three}
use Rattle.text_tie_file.proofs.Lines.{blank_exactly, percent_exactly, banner_told, numbers_exactly, Told, says, above, nothing, entry_told}
use Rattle.text_tie_file.proofs.Pairs.{twice_exactly}
use Rattle.text_tie_file.proofs.Fronts.{every_join, opens_more, enters_none, enters_blank, enters_entry}

pub data Known (input : List ℕ) : Type 0 where
  held : (kind : Kind) (n : ℕ) (es : List Entry) → IsFile input kind n es → Known input
  refused : (k : ℕ) → IsRefused input k → Known input

-- ---- what can be told of two sides
sides : (a b : ℕ) → (a ≤ b) ⊎ (b < a)
sides a b = by (leb a b) refl
  where
    by : (t : Bool) → leb a b ≡ t → (a ≤ b) ⊎ (b < a)
    by true e = inl (leb-true a b e)
    by false e = inr (leb-false a b e)

same : (a b : ℕ) → (a ≡ b) ⊎ (a ≡ b → ⊥)
same a b = by (eqb a b) refl
  where
    by : (t : Bool) → eqb a b ≡ t → (a ≡ b) ⊎ (a ≡ b → ⊥)
    by true e = inl (eqb-true a b e)
    by false e = inr (eqb-false a b e)

blank_or_not : (line : List ℕ) → BlankLine line ⊎ (BlankLine line → ⊥)
blank_or_not line = by (is_blank_line line) refl
  where
    by : (t : Bool) → is_blank_line line ≡ t → BlankLine line ⊎ (BlankLine line → ⊥)
    by true e = inl ((blank_exactly line).0 e)
    by false e = inr (λ b. never (let x : is_blank_line line ≡ true = (blank_exactly line).1 b in cc))

comment_or_not : (line : List ℕ) → BlankOrComment line ⊎ (BlankOrComment line → ⊥)
comment_or_not line = ⊎_elim (λ b. inl (inl b)) (λ n. by (begins_percent line) refl n) (blank_or_not line)
  where
    by : (t : Bool) → begins_percent line ≡ t → (BlankLine line → ⊥) → BlankOrComment line ⊎ (BlankOrComment line → ⊥)
    by true e n = inl (inr ((percent_exactly line).0 e))
    by false e n = inr (λ c. ⊎_elim n (λ p. never (let x : begins_percent line ≡ true = (percent_exactly line).1 p in cc)) c)

-- a line is `N N L`, or it is not
sized_or_not : (line : List ℕ) → ((n : ℕ) × (count : ℕ) × ThreeWords IsNumber line n n count) ⊎ ((n count : ℕ) → ThreeWords IsNumber line n n count → ⊥)
sized_or_not line = by (numbers_of General line) refl
  where
    by : (x : Option (ℕ × ℕ × ℕ)) → numbers_of General line ≡ x → ((n : ℕ) × (count : ℕ) × ThreeWords IsNumber line n n count)
        ⊎ ((n count : ℕ) → ThreeWords IsNumber line n n count → ⊥)
    by None e = inr (λ n count t. never (let x : numbers_of General line ≡ Some (n, n, count) = (numbers_exactly General line n n count).1 t in cc))
    by (Some (m, n, count)) e = ⊎_elim
        (λ (h : m ≡ n). inl (n, count, (numbers_exactly General line n n count).0 (e ∙ ap (λ (x : ℕ). Some (x, n, count)) h)))
        (λ (h : m ≡ n → ⊥). inr (λ k l t. h (let s = same_three (sym e ∙ (numbers_exactly General line k k l).1 t) in s.0 ∙ sym s.1)))
        (same m n)

module _ (input : List ℕ) (short : length input ≤ max_input) where
  -- ---- the end of the input behind as many entries as were announced
  laid_at : (kind : Kind) (n : ℕ) (es : List Entry) → Enters (lines_of input) kind n (length es) es [] → Laid input kind n es
  laid_at kind n es x =
      let o = x.opens in
      let e : lines_of input ≡ o.banner ∷ (o.above ++ (x.size ∷ x.below)) =
      o.all ∙ ap (λ (l : List (List ℕ)). o.banner ∷ (o.above ++ (x.size ∷ l))) (append-nil x.below) in
      record {
        short = short;
        narrow = subst (Every Narrow) (sym e) (o.narrow_banner, every_join Narrow o.above (x.size ∷ x.below) o.narrow (x.narrow_size, x.narrow));
        banner = o.banner;
        above = o.above;
        size = x.size;
        below = x.below;
        lines = e;
        is_banner = o.is_banner;
        are_above = o.are_above;
        is_size = x.is_size;
        order = x.order;
        count = x.limit;
        says = x.says;
      }

  file_known : (kind : Kind) (n : ℕ) (es : List Entry) → Laid input kind n es → Known input
  file_known kind n es l = by (repeated es) refl
    where
      by : (t : Bool) → repeated es ≡ t → Known input
      by true e = refused 25 (by_25 refl (record { kind = kind; n = n; entries = es; laid = l; twice = (twice_exactly es).0 e }))
      by false e = held kind n es (record { laid = l; once = λ p. never (let x : repeated es ≡ true = (twice_exactly es).1 p in cc) })

  module _ (kind : Kind) where
    -- ---- below the size line
    module _ (n count : ℕ) where
      abbrev In : List Entry → List (List ℕ) → Type 0
      In es rest = Enters (lines_of input) kind n count es rest

      end_known : (es : List Entry) → In es [] → Known input
      end_known es x = ⊎_elim
          (λ (h : length es ≡ count). file_known kind n es (laid_at kind n es (subst (λ (c : ℕ). Enters (lines_of input) kind n c es []) (sym h) x)))
          (λ (h : length es ≡ count → ⊥). refused 24
          (by_24 refl (short, record { kind = kind; n = n; count = count; entries = es; rest = []; enters = x; fails = less h x.few })))
          (same (length es) count)
        where
          less : (length es ≡ count → ⊥) → length es ≤ count → length es < count
          less h k = ⊎_elim (λ (l : count ≤ length es). absurd (h (omega arith))) (λ l. l) (sides count (length es))

      -- a line that is awaited and not blank
      entry_known : (es : List Entry) (line : List ℕ) (rest : List (List ℕ)) → In es (line ∷ rest) → Narrow line → (BlankLine line → ⊥) → length es < count
          → ((es : List Entry) → In es rest → Known input) → Told kind n line → Known input
      entry_known es line rest x w b h more (says e s) = more (es ++ (e ∷ [])) (enters_entry (lines_of input) kind n count es line rest x w e s h)
      entry_known es line rest x w b h more (above e s u) =
          refused 26 (by_26 refl (
            short,
            record {
              kind = kind;
              n = n;
              count = count;
              entries = es;
              line = line;
              rest = rest;
              enters = x;
              awaited =
                  h;
              narrow = w;
              entry = e;
              shaped = s;
              unstored = u;
            },
          ))
      entry_known es line rest x w b h more (nothing m f) =
          refused 23 (by_23 refl (
            short,
            record {
              kind = kind;
              n = n;
              count = count;
              entries = es;
              line = line;
              rest = rest;
              enters = x;
              awaited =
                  h;
              narrow = w;
              non_blank = b;
              fails = f;
            },
          ))

      line_known : (es : List Entry) (line : List ℕ) (rest : List (List ℕ)) → In es (line ∷ rest) → ((es : List Entry) → In es rest → Known input) → Known input
      line_known es line rest x more =
          ⊎_elim narrow (λ w. refused 22 (by_22 refl (inr (short, inl (WideLine.entering kind n count es line rest x w))))) (sides (length line) max_line)
        where
          counted : Narrow line → (BlankLine line → ⊥) → Known input
          counted w b = ⊎_elim
              (λ (h : count ≤ length es). refused 24
              (by_24 refl (
                short,
                record {
                  kind = kind;
                  n = n;
                  count = count;
                  entries = es;
                  rest = line ∷ rest;
                  enters = x;
                  fails =
                      (omega (arith, x.few), w, b);
                },
              )))
              (λ h. entry_known es line rest x w b h more (entry_told kind n line))
              (sides count (length es))

          narrow : Narrow line → Known input
          narrow w = ⊎_elim (λ b. more es (enters_blank (lines_of input) kind n count es line rest x w b)) (counted w) (blank_or_not line)

      below_known : (rest : List (List ℕ)) (es : List Entry) → In es rest → Known input
      below_known [] es x = end_known es x
      below_known (line ∷ rest) es x = line_known es line rest x (λ ts i. below_known rest ts i)

    -- ---- above it
    size_known : (line : List ℕ) (rest : List (List ℕ)) → Opens (lines_of input) kind (line ∷ rest) → Narrow line → (n count : ℕ)
        → ThreeWords IsNumber line n n count → Known input
    size_known line rest o w n count t = ⊎_elim
        (λ h. ⊎_elim (λ k. below_known n count rest [] (enters_none (lines_of input) kind n count line rest o w t h k)) (λ k. large (inr k))
        (sides count max_entries))
        (λ h. large (inl h))
        (sides n max_order)
      where
        large : (max_order < n) ⊎ (max_entries < count) → Known input
        large h = refused 22 (by_22 refl
            (inr (short, inr (record { kind = kind; size = line; rest = rest; opens = o; narrow = w; n = n; count = count; is_size = t; past = h }))))

    above_known : (rest : List (List ℕ)) → Opens (lines_of input) kind rest → Known input
    above_known [] o = refused 21 (by_21 refl (short, record { kind = kind; rest = []; opens = o; fails = tt }))
    above_known (line ∷ rest) o = first (λ p. above_known rest p)
      where
        content : Narrow line → (BlankOrComment line → ⊥) → Known input
        content w c = ⊎_elim
            (λ t. size_known line rest o w t.0 t.1 t.2)
            (λ f. refused 21 (by_21 refl (short, record { kind = kind; rest = line ∷ rest; opens = o; fails = (w, c, f) })))
            (sized_or_not line)

        first : (Opens (lines_of input) kind rest → Known input) → Known input
        first more = ⊎_elim
            (λ w. ⊎_elim (λ c. more (opens_more (lines_of input) kind line rest o w c)) (content w) (comment_or_not line))
            (λ w. refused 22 (by_22 refl (inr (short, inl (WideLine.opening kind line rest o w)))))
            (sides (length line) max_line)

  -- ---- the first line
  first_known : (lines : List (List ℕ)) → lines_of input ≡ lines → Known input
  first_known [] e = refused 20 (by_20 refl (short, subst NoBanner (sym e) tt))
  first_known (line ∷ lines) e = ⊎_elim
      (λ (w : Narrow line). ⊎_elim
      (λ b. above_known b.0 lines (record { banner = line; above = []; all = e; narrow_banner = w; narrow = tt; is_banner = b.1; are_above = tt }))
      (λ b. refused 20 (by_20 refl (short, subst NoBanner (sym e) (w, b.1))))
      (banner_told line))
      (λ w. refused 22 (by_22 refl (inr (short, inl (WideLine.first line lines e w)))))
      (sides (length line) max_line)

pub known : (input : List ℕ) → Known input
known input = ⊎_elim (λ h. first_known input h (lines_of input) refl) (λ h. refused 22 (by_22 refl (inl h))) (sides (length input) max_input)
