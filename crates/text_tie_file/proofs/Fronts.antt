-- Well-formed lines: one more keeps them so, and the reader passes them with the kind and the entries that they state. By induction on the lines.
use mathlib.Core.Path.{◌≡◌, refl, sym, ap, ◌∙◌, subst}
use mathlib.Core.Bool.{Bool, true, false, cond}
use mathlib.Core.Logic.{⊎_elim}
use mathlib.Core.List.{List, [], ◌∷◌, ◌++◌, append-nil, append_assoc}
use Prim.Native.Nat.{ℕ, zero, suc, ◌+◌, ◌≤◌, ◌<◌}
use native.Mathlib.Omega.{arith}
use lib.Dec.{leb}
use lib.ListN.{length, get_or, length-append}
use Rattle.text_matrix_market.specs.declared.banner.Kind.{Kind}
use Rattle.text_matrix_market.specs.declared.banner.Kind.TheVariants.{General, Symmetric, Pattern}
use Rattle.text_matrix_market.specs.declared.stages.Entry.{Entry}
use Rattle.text_matrix_market.specs.Text.{is_blank, prepend, cut, non_empty, words_of, is_blank_line, begins_percent}
use Rattle.text_matrix_market.specs.File.{max_line, max_order, max_entries, State, start, sizing, entering, refused, content, read_line, read_lines}
use Rattle.text_matrix_market.proofs.Entries as entries
use Rattle.text_tie_file.specs.Bytes.{Every, IsNumber, IsSigned}
use Rattle.text_tie_file.specs.Lines.{Narrow, BlankLine, BlankOrComment, ThreeWords, Shaped, Says}
use Rattle.text_tie_file.specs.File.{written, entry_of, SayAll}
use Rattle.text_tie_file.specs.Refused.{Opens, Enters}
use Rattle.text_tie_file.proofs.Lines.{blank_exactly, percent_exactly, denied, banner_exactly, numbers_exactly, says_read}

-- ---- lists
pub every_join : {A : Type 0} (P : A → Type 0) (s t : List A) → Every P s → Every P t → Every P (s ++ t)
every_join P [] t p q = q
every_join P (x ∷ s) t p q = (p.0, every_join P s t p.1 q)

pub every_split : {A : Type 0} (P : A → Type 0) (s t : List A) → Every P (s ++ t) → Every P s × Every P t
every_split P [] t p = (tt, p)
every_split P (x ∷ s) t p = let q = every_split P s t p.1 in ((p.0, q.0), q.1)

written_more : (below : List (List ℕ)) (line : List ℕ) → is_blank_line line ≡ false → written (below ++ (line ∷ [])) ≡ written below ++ (line ∷ [])
written_more [] line e = rw e
written_more (x ∷ below) line e = first (is_blank_line x) (written_more below line e)
  where
    first : (t : Bool) → written (below ++ (line ∷ [])) ≡ written below ++ (line ∷ []) → cond t (written (below ++ (line ∷ [])))
        (x ∷ written (below ++ (line ∷ []))) ≡ cond t (written below) (x ∷ written below) ++ (line ∷ [])
    first true h = h
    first false h = ap (λ (l : List (List ℕ)). x ∷ l) h

written_same : (below : List (List ℕ)) (line : List ℕ) → is_blank_line line ≡ true → written (below ++ (line ∷ [])) ≡ written below
written_same [] line e = rw e
written_same (x ∷ below) line e = first (is_blank_line x) (written_same below line e)
  where
    first : (t : Bool) → written (below ++ (line ∷ [])) ≡ written below → cond t (written (below ++ (line ∷ []))) (x ∷ written (below ++ (line ∷ [])))
        ≡ cond t (written below) (x ∷ written below)
    first true h = h
    first false h = ap (λ (l : List (List ℕ)). x ∷ l) h

-- ---- lines that say entries
module _ (kind : Kind) (n : ℕ) where
  pub say_none : SayAll kind n [] []
  say_none = record { many = refl; each = λ k h. let z : ⊥ = omega arith in absurd z }

  last_line : (lines : List (List ℕ)) (es : List Entry) (line : List ℕ) (e : Entry) → length lines ≡ length es → Says kind n line e
      → ((k : ℕ) → k < length es → Says kind n (get_or lines k []) (entry_of es k))
      → (k : ℕ) → k < length (es ++ (e ∷ [])) → Says kind n (get_or (lines ++ (line ∷ [])) k []) (entry_of (es ++ (e ∷ [])) k)
  last_line [] [] line e m s each zero h = s
  last_line [] [] line e m s each (suc k) h = let z : ⊥ = omega arith in absurd z
  last_line [] (x ∷ es) line e m s each k h = let z : ⊥ = omega arith in absurd z
  last_line (l ∷ lines) [] line e m s each k h = let z : ⊥ = omega arith in absurd z
  last_line (l ∷ lines) (x ∷ es) line e m s each zero h = each 0 (omega arith)
  last_line (l ∷ lines) (x ∷ es) line e m s each (suc k) h =
      last_line lines es line e (omega arith) s (λ i b. each (suc i) (omega arith)) k (omega arith)

  pub say_more : (lines : List (List ℕ)) (es : List Entry) (line : List ℕ) (e : Entry) → SayAll kind n lines es → Says kind n line e
      → SayAll kind n (lines ++ (line ∷ [])) (es ++ (e ∷ []))
  say_more lines es line e a s = record {
    many = let m = a.many in simp length-append (omega arith);
    each = last_line lines es line e a.many s a.each;
  }

  -- the first line says the first entry
  pub say_first : (line : List ℕ) (lines : List (List ℕ)) (es : List Entry) → SayAll kind n (line ∷ lines) es
      → (e : Entry) × (more : List Entry) × (es ≡ e ∷ more) × Says kind n line e × SayAll kind n lines more
  say_first line lines [] a = let z : ⊥ = omega (arith, a.many) in absurd z
  say_first line lines (e ∷ more) a =
      (e, more, refl, a.each 0 (omega arith), record { many = omega (arith, a.many); each = λ k h. a.each (suc k) (omega arith) })

  say_end : (es : List Entry) → SayAll kind n [] es → es ≡ []
  say_end [] a = refl
  say_end (e ∷ es) a = let z : ⊥ = omega (arith, a.many) in absurd z

-- ---- one line
line_step : (s t : State) (line : List ℕ) (rest : List (List ℕ)) → t ≡ read_line s line → read_lines s (line ∷ rest) ≡ read_lines t rest
unfolding read_lines
line_step s t line rest e = rw e

either_same : (t : Bool) (s : State) → cond t s s ≡ s
either_same true s = refl
either_same false s = refl

still : (k : ℕ) (line : List ℕ) → refused k ≡ read_line (refused k) line
unfolding read_line content
still k line = sym (either_same (leb (length line) max_line) (refused k))

-- a refusal stands, whatever follows
stuck : (k : ℕ) (rest : List (List ℕ)) → read_lines (refused k) rest ≡ refused k
stuck k [] = unfold read_lines in refl
stuck k (line ∷ rest) = line_step (refused k) (refused k) line rest (still k line) ∙ stuck k rest

-- a line that is refused
pub refused_at : (s : State) (k : ℕ) (line : List ℕ) (rest : List (List ℕ)) → refused k ≡ read_line s line → read_lines s (line ∷ rest) ≡ refused k
refused_at s k line rest e = line_step s (refused k) line rest e ∙ stuck k rest

-- ---- words that there are
pub three_written : (P : List ℕ → ℕ → Type 0) (line : List ℕ) (a b c : ℕ) → ThreeWords P line a b c → is_blank_line line ≡ false
unfolding is_blank_line
three_written P line a b c t = rw t.words

pub shaped_written : (kind : Kind) (n : ℕ) (line : List ℕ) (e : Entry) → Shaped kind n line e → is_blank_line line ≡ false
unfolding is_blank_line
shaped_written General n line e s = three_written IsNumber line _ _ _ s.words
shaped_written Symmetric n line e s = three_written IsSigned line _ _ _ s.words
shaped_written Pattern n line e s = rw s.words.0.words

-- the first word has the first byte, where that is no blank
first_byte : (b : ℕ) (l : List ℕ) → is_blank b ≡ false → (w : List ℕ) × (ws : List (List ℕ)) × (words_of (b ∷ l) ≡ (b ∷ w) ∷ ws)
unfolding words_of cut non_empty
first_byte b l e = by (cut is_blank l) refl
  where
    by : (parts : List (List ℕ)) → cut is_blank l ≡ parts → (w : List ℕ) × (ws : List (List ℕ))
        × (non_empty (prepend (is_blank b) b (cut is_blank l)) ≡ (b ∷ w) ∷ ws)
    by [] h = ([], [], rw (e, h))
    by (part ∷ parts) h = (part, non_empty parts, rw (e, h))

percent_no_number : (line : List ℕ) (a b c : ℕ) → ThreeWords IsNumber line a b c → get_or line 0 0 ≡ 37 → ⊥
percent_no_number [] a b c t h = let z : ⊥ = omega arith in absurd z
percent_no_number (x ∷ line) a b c t h =
    let p = first_byte x line (rw h) in
    let e : t.first ≡ x ∷ p.0 = let u = t.words in let y = p.2 in cc in
    let n : IsNumber (x ∷ p.0) a = subst (λ (w : List ℕ). IsNumber w a) e t.is_first in
    omega (arith, n.digits.0.0)

-- so a size line is no comment
pub size_no_comment : (line : List ℕ) (a b c : ℕ) → ThreeWords IsNumber line a b c → begins_percent line ≡ false
size_no_comment line a b c t = denied (percent_exactly line) (percent_no_number line a b c t)

-- ---- the opening
above_run : (kind : Kind) (above rest : List (List ℕ)) → Every Narrow above → Every BlankOrComment above → read_lines (sizing kind)
    (above ++ rest) ≡ read_lines (sizing kind) rest
above_run kind [] rest n p = refl
above_run kind (line ∷ above) rest n p =
    let passed : sizing kind ≡ content (sizing kind) line =
    ⊎_elim (λ b. entries.blank_passed kind line ((blank_exactly line).1 b)) (λ c. entries.comment_passed kind line ((percent_exactly line).1 c)) p.0 in
    line_step (sizing kind) (sizing kind) line (above ++ rest) (entries.short line (sizing kind) n.0 passed) ∙ above_run kind above rest n.1 p.1

module _ (lines : List (List ℕ)) (kind : Kind) where
  pub opens_run : (rest : List (List ℕ)) → Opens lines kind rest → read_lines start lines ≡ read_lines (sizing kind) rest
  opens_run rest o =
      ap (read_lines start) o.all
      ∙ line_step start (sizing kind) o.banner (o.above ++ rest)
      (entries.short o.banner start o.narrow_banner (entries.banner_there o.banner ((banner_exactly kind o.banner).1 o.is_banner)))
      ∙ above_run kind o.above rest o.narrow o.are_above

  pub opens_more : (line : List ℕ) (rest : List (List ℕ)) → Opens lines kind (line ∷ rest) → Narrow line → BlankOrComment line → Opens lines kind rest
  opens_more line rest o n p = record {
    banner = o.banner;
    above = o.above ++ (line ∷ []);
    all = o.all ∙ ap (λ (l : List (List ℕ)). o.banner ∷ l) (sym (append_assoc o.above (line ∷ []) rest));
    narrow_banner = o.narrow_banner;
    narrow = every_join Narrow o.above (line ∷ []) o.narrow (n, tt);
    is_banner = o.is_banner;
    are_above = every_join BlankOrComment o.above (line ∷ []) o.are_above (p, tt);
  }

  -- ---- the size line and the entries
  module _ (n count : ℕ) where
    pub size_run : (size : List ℕ) → Narrow size → ThreeWords IsNumber size n n count → n ≤ max_order → count ≤ max_entries
        → entering kind n count [] ≡ read_line (sizing kind) size
    size_run size w t h k =
        entries.short size (sizing kind) w
        (entries.a_size kind size (three_written IsNumber size n n count t) (size_no_comment size n n count t)
        ((numbers_exactly General size n n count).1 t) refl h k)

    below_run : (below rest : List (List ℕ)) (done es : List Entry) → Every Narrow below → SayAll kind n (written below) es → length done + length es ≤ count
        → read_lines (entering kind n count done) (below ++ rest) ≡ read_lines (entering kind n count (done ++ es)) rest
    below_run [] rest done es w a h = rw (say_end kind n es a, append-nil done)
    below_run (line ∷ below) rest done es w a h = by (is_blank_line line) refl a (below_run below rest)
      where
        by : (t : Bool) → is_blank_line line ≡ t → SayAll kind n (cond t (written below) (line ∷ written below)) es
            → ((done es : List Entry) → Every Narrow below → SayAll kind n (written below) es → length done + length es ≤ count
            → read_lines (entering kind n count done) (below ++ rest) ≡ read_lines (entering kind n count (done ++ es)) rest)
            → read_lines (entering kind n count done) (line ∷ (below ++ rest)) ≡ read_lines (entering kind n count (done ++ es)) rest
        by true b x more =
            line_step (entering kind n count done) (entering kind n count done) line (below ++ rest)
            (entries.short line (entering kind n count done) w.0 (entries.blank_below kind n count done line b))
            ∙ more done es w.1 x h
        by false b x more =
            let f = say_first kind n line (written below) es x in
            let e = f.0 in
            let i : length es ≡ suc (length f.1) = ap length f.2 in
            let r = says_read kind n line e f.3.0 f.3.1 in
            line_step (entering kind n count done) (entering kind n count (done ++ (e ∷ []))) line (below ++ rest)
            (entries.short line (entering kind n count done) w.0 (entries.entered kind n count done line b (omega arith) r))
            ∙ more (done ++ (e ∷ [])) f.1 w.1 f.4 (simp length-append (omega arith))
            ∙ ap (λ (l : List Entry). read_lines (entering kind n count l) rest)
            (append_assoc done (e ∷ []) f.1 ∙ ap (λ (l : List Entry). done ++ l) (sym f.2))

    pub enters_run : (es : List Entry) (rest : List (List ℕ)) → Enters lines kind n count es rest → read_lines start lines ≡ read_lines
        (entering kind n count es) rest
    enters_run es rest x =
        opens_run (x.size ∷ (x.below ++ rest)) x.opens
        ∙ line_step (sizing kind) (entering kind n count []) x.size (x.below ++ rest) (size_run x.size x.narrow_size x.is_size x.order x.limit)
        ∙ below_run x.below rest [] es x.narrow x.says (omega (arith, x.few))

    pub enters_none : (size : List ℕ) (rest : List (List ℕ)) → Opens lines kind (size ∷ rest) → Narrow size → ThreeWords IsNumber size n n count
        → n ≤ max_order → count ≤ max_entries → Enters lines kind n count [] rest
    enters_none size rest o w t h k =
        record { size = size; below = []; opens = o; narrow_size = w; narrow = tt; is_size = t; order = h; limit = k; says = say_none kind n; few = omega arith }

    module _ (es : List Entry) (line : List ℕ) (rest : List (List ℕ)) (x : Enters lines kind n count es (line ∷ rest)) (w : Narrow line) where
      further : Opens lines kind (x.size ∷ (x.below ++ (line ∷ []) ++ rest))
      further = subst (λ (l : List (List ℕ)). Opens lines kind (x.size ∷ l)) (sym (append_assoc x.below (line ∷ []) rest)) x.opens

      pub enters_blank : BlankLine line → Enters lines kind n count es rest
      enters_blank b = record {
        size = x.size;
        below = x.below ++ (line ∷ []);
        opens = further;
        narrow_size = x.narrow_size;
        narrow = every_join Narrow x.below (line ∷ []) x.narrow (w, tt);
        is_size = x.is_size;
        order = x.order;
        limit = x.limit;
        says = subst (λ (l : List (List ℕ)). SayAll kind n l es) (sym (written_same x.below line ((blank_exactly line).1 b))) x.says;
        few = x.few;
      }

      pub enters_entry : (e : Entry) → Says kind n line e → length es < count → Enters lines kind n count (es ++ (e ∷ [])) rest
      enters_entry e s h = record {
        size = x.size;
        below = x.below ++ (line ∷ []);
        opens = further;
        narrow_size = x.narrow_size;
        narrow = every_join Narrow x.below (line ∷ []) x.narrow (w, tt);
        is_size = x.is_size;
        order = x.order;
        limit = x.limit;
        says = subst (λ (l : List (List ℕ)). SayAll kind n l (es ++ (e ∷ [])))
            (sym (written_more x.below line (shaped_written kind n line e s.0))) (say_more kind n (written x.below) es line e x.says s);
        few = simp length-append (omega arith);
      }
