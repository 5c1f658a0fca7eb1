-- One line more behind good lines.
use Rattle.std.proofs.Common.{◌≡◌, ℕ, ◌+◌, ◌<◌, Bool, true, false, cond, eqb, List, [], ◌∷◌, ◌++◌, map, length, drop, Some, Option, sym, refl, ap, ◌∙◌, subst, append_assoc, append-nil, arith, length-append, ne_eqb}
use Rattle.base.specs.Checks.{NoneOf}
use Rattle.engine.specs.Book.{Book, blank}
use Rattle.lines.specs.declared.form.Form.{Form}
use Rattle.lines.specs.declared.form.Line.{Line}
use Rattle.lines.specs.declared.read.Found.{Found}
use Rattle.lines.specs.Forms.{May, section}
use Rattle.lines.specs.Lines.{body, text, written, lines_of, last_form}
use Rattle.report.specs.declared.reader.Reader.{Reader}
use Rattle.report.specs.Meaning.{at, two, kind_by, kind_of, first_logic, logic_of, calls, booked, booked_by, book_of, users_of}
use Rattle.report.specs.Checks.{user_count, line_checks, Passes, Good}
use Rattle.report.specs.Report.{LinePrints, Prints}
use Rattle.report.specs.Stands.{Gets, Stands, Advanced}

-- a line has bytes
pub some_text : (x : Line) (r : List ℕ) → 0 < length (text x ++ r)
some_text x r = omega (arith, length-append (text x) r, length-append (body x) (10 ∷ []))

pub written_append : (xs ys : List Line) → written (xs ++ ys) ≡ written xs ++ written ys
written_append [] ys = refl
written_append (x ∷ xs) ys = ap (λ (l : List ℕ). text x ++ l) (written_append xs ys) ∙ sym (append_assoc (text x) (written xs) (written ys))

pub lines_of_append : (s : ℕ) (xs ys : List Line) → lines_of s (xs ++ ys) ≡ lines_of s xs ++ lines_of s ys
lines_of_append s [] ys = refl
lines_of_append s (x ∷ xs) ys = cases (lines_of_append s xs ys) (eqb (section x.form) s)
  where
    cases : lines_of s (xs ++ ys) ≡ lines_of s xs ++ lines_of s ys → (t : Bool) → cond t (x ∷ lines_of s (xs ++ ys)) (lines_of s (xs ++ ys)) ≡ cond t (x ∷ lines_of s xs) (lines_of s xs) ++ lines_of s ys
    cases e true = ap (λ (l : List Line). x ∷ l) e
    cases e false = e

-- a line of another section is passed over
pub lines_of_other : (s : ℕ) (x : Line) → (section x.form ≡ s → ⊥) → lines_of s (x ∷ []) ≡ []
lines_of_other s x other = ap (λ (t : Bool). cond t (x ∷ []) []) (ne_eqb (section x.form) s other)

pub lines_of_same : (s : ℕ) (xs : List Line) (x : Line) → (section x.form ≡ s → ⊥) → lines_of s (xs ++ (x ∷ [])) ≡ lines_of s xs
lines_of_same s xs x other = lines_of_append s xs (x ∷ []) ∙ ap (λ (l : List Line). lines_of s xs ++ l) (lines_of_other s x other) ∙ append-nil (lines_of s xs)

pub last_form_append : (xs : List Line) (x : Line) → last_form (xs ++ (x ∷ [])) ≡ Some x.form
last_form_append [] x = refl
last_form_append (y ∷ []) x = refl
last_form_append (y ∷ z ∷ zs) x = last_form_append (z ∷ zs) x

-- kind and logic stay, and the book and the users go on
pub kind_of_same : (xs : List Line) (x : Line) → 0 < length xs → (section x.form ≡ 1 → ⊥) → kind_of (xs ++ (x ∷ [])) ≡ kind_of xs
kind_of_same [] x some other = absurd (omega arith)
kind_of_same (y ∷ ys) x some other = ap (λ (l : List Line). kind_by y.form (at y 0) (map two l)) (lines_of_same 1 ys x other)

pub logic_of_same : (xs : List Line) (x : Line) → (section x.form ≡ 2 → ⊥) → logic_of (xs ++ (x ∷ [])) ≡ logic_of xs
logic_of_same xs x other = ap first_logic (lines_of_same 2 xs x other)

pub book_of_more : (p w : ℕ) (xs : List Line) (x : Line) → book_of p w (xs ++ (x ∷ [])) ≡ booked (calls p w x) (book_of p w xs)
book_of_more p w xs x = from xs blank
  where
    from : (ys : List Line) (b : Book) → booked_by p w (ys ++ (x ∷ [])) b ≡ booked (calls p w x) (booked_by p w ys b)
    from [] b = refl
    from (y ∷ ys) b = from ys (booked (calls p w y) b)

pub users_of_same : (xs : List Line) (x : Line) → (section x.form ≡ 4 → ⊥) → users_of (xs ++ (x ∷ [])) ≡ users_of xs
users_of_same xs x other = ap (map (λ y. at y 0)) (lines_of_same 4 xs x other)

module _ (p w : ℕ) where
  good_more : (before xs : List Line) (x : Line) (behind : List ℕ) → Good p w before xs (text x ++ behind) → Passes p w (before ++ xs) x behind → Good p w before (xs ++ (x ∷ [])) behind
  good_more before [] x behind good passes =
      (subst (λ (ls : List Line). Passes p w ls x behind) (append-nil before) passes, tt)
  good_more before (y ∷ ys) x behind (first, rest) passes =
      let ahead : written ys ++ (text x ++ behind) ≡ written (ys ++ (x ∷ [])) ++ behind =
      sym (append_assoc (written ys) (text x) behind) ∙ ap (λ (l : List ℕ). (written ys ++ l) ++ behind) (sym (append-nil (text x))) ∙ ap (λ (l : List ℕ). l ++ behind) (sym (written_append ys (x ∷ []))) in (
        subst (Passes p w before y) ahead first,
        good_more (before ++ (y ∷ [])) ys x behind rest (subst (λ (ls : List Line). Passes p w ls x behind) (sym (append_assoc before (y ∷ []) ys)) passes),
      )

  pub prints_more : (before xs : List Line) (x : Line) (t s : List ℕ) → Prints p w before xs t → LinePrints p w x.form ((before ++ xs) ++ (x ∷ [])) x s → Prints p w before (xs ++ (x ∷ [])) (t ++ s)
  prints_more before [] x t s none prints =
      (s, [], subst (λ (ls : List Line). LinePrints p w x.form (ls ++ (x ∷ [])) x s) (append-nil before) prints, refl, ap (λ (l : List ℕ). l ++ s) none ∙ sym (append-nil s))
  prints_more before (y ∷ ys) x t s (a, r, first, rest, e) prints = (
    a,
    r ++ s,
    first,
    prints_more (before ++ (y ∷ [])) ys x r s rest (subst (λ (ls : List Line). LinePrints p w x.form (ls ++ (x ∷ [])) x s) (sym (append_assoc before (y ∷ []) ys)) prints),
    ap (λ (l : List ℕ). l ++ s) e ∙ append_assoc a r s,
  )

-- a line that is found behind good lines, and passes its checks
module _ {p w : ℕ} {file : List ℕ} {reader : Reader} {before : List Line} (stands : Stands p w file reader before) {x : Found} (gets : Gets reader x) (none : NoneOf (line_checks p w before x.line (drop x.length reader.rest.now))) where
  passes_next : Passes p w before x.line (drop x.length reader.rest.now)
  passes_next =
      record {
        whole = gets.next.whole;
        may = subst (λ (n : ℕ). May (last_form before) n x.line.form) stands.users (subst (λ (f : Option Form). May f reader.users x.line.form) stands.last gets.next.may);
        none = none;
      }

  pub stands_more : {reader' : Reader} → Advanced reader x reader' → Stands p w file reader' (before ++ (x.line ∷ []))
  stands_more {reader'} moved =
      let y = x.line in
      let behind : List ℕ = drop x.length reader.rest.now in
      let split : reader.rest.now ≡ text y ++ behind = gets.next.split in
      let good : Good p w [] (before ++ (y ∷ [])) behind = good_more p w [] before y behind (subst (Good p w [] before) split stands.good) passes_next in
      let bytes : file ≡ written (before ++ (y ∷ [])) ++ behind =
      stands.bytes ∙ ap (λ (l : List ℕ). written before ++ l) split ∙ sym (append_assoc (written before) (text y) behind) ∙ ap (λ (l : List ℕ). (written before ++ l) ++ behind) (sym (append-nil (text y))) ∙ ap (λ (l : List ℕ). l ++ behind) (sym (written_append before (y ∷ []))) in
      record {
        bytes = subst (λ (l : List ℕ). file ≡ written (before ++ (y ∷ [])) ++ l) (sym moved.rest) bytes;
        good = subst (Good p w [] (before ++ (y ∷ []))) (sym moved.rest) good;
        lines = moved.lines ∙ ap (λ (n : ℕ). n + 1) stands.lines ∙ sym (length-append before (y ∷ []));
        last = moved.last ∙ sym (last_form_append before y);
        users = moved.users ∙ ap (λ (n : ℕ). n + user_count (y ∷ [])) stands.users ∙ sym (length-append (lines_of 4 before) (lines_of 4 (y ∷ []))) ∙ ap length (sym (lines_of_append 4 before (y ∷ [])));
      }
