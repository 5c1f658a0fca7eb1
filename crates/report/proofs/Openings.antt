-- The lines up to the logic.
use Rattle.std.proofs.Common.{◌≡◌, ℕ, ◌+◌, cond, eqb, List, [], ◌∷◌, ◌++◌, drop, sym, refl, ap, ◌∙◌, subst, inl, inr, arith}
use Rattle.labels.specs.Order.{LabelOrder, Same}
use Rattle.engine.specs.declared.call.Call.{Call}
use Rattle.lines.specs.declared.form.Form.{Form}
use Rattle.lines.specs.declared.form.Line.{Line}
use Rattle.lines.specs.declared.read.Found.{Found}
use Rattle.lines.specs.Forms.{section}
use Rattle.lines.specs.Lines.{lines_of}
use Rattle.report.specs.declared.any.AnyKind.{AnyKind}
use Rattle.report.specs.declared.any.AnyLogic.{AnyLogic}
use Rattle.report.specs.declared.any.AnyLogic.TheVariants.{El, Links}
use Rattle.report.specs.declared.fault.Cause.{Cause}
use Rattle.report.specs.declared.reader.Reader.{Reader}
use Rattle.report.specs.Any.{any_kind}
use Rattle.report.specs.Meaning.{calls_by, booked, book_of}
use Rattle.report.specs.Checks.{Refuses, early}
use Rattle.report.specs.Report.{LinePrints}
use Rattle.report.specs.Stands.{Gets, Stops, Stands, Opened, Quiet, KindRead, LogicChosen}
use Rattle.report.proofs.Standing.{lines_of_append, last_form_append, kind_of_same, users_of_same, book_of_more, prints_more}
use Rattle.report.proofs.Files.{refused_here, refused_text}

-- before any line
pub quiet_none : {p w : ℕ} → Quiet p w []
quiet_none = record { book = refl; users = refl; prints = refl }

-- a line that makes no call, names no user and prints nothing
pub quiet_more : {p w : ℕ} {ls : List Line} → Quiet p w ls → (x : Line) {f : Form} → x.form ≡ f → calls_by p w f x ≡ [] → (section f ≡ 4 → ⊥) → LinePrints p w f (ls ++ (x ∷ [])) x [] → Quiet p w (ls ++ (x ∷ []))
quiet_more {p} {w} {ls} quiet x is none other prints =
    record {
      book = book_of_more p w ls x ∙ ap (λ (h : Form). booked (calls_by p w h x) (book_of p w ls)) is ∙ ap (λ (cs : List Call). booked cs (book_of p w ls)) none ∙ quiet.book;
      users = users_of_same ls x (λ e. other (sym (ap section is) ∙ e)) ∙ quiet.users;
      prints = prints_more p w [] ls x [] [] quiet.prints (subst (λ (h : Form). LinePrints p w h (ls ++ (x ∷ [])) x []) (sym is) prints);
    }

-- before the logic, a file may not end
pub stops_early : {p w : ℕ} {file : List ℕ} {reader : Reader} {ls : List Line} → Stands p w file reader ls → lines_of 2 ls ≡ [] → {c : Cause} → Stops reader c → Refuses p w file (reader.lines + 1) c
stops_early {p} {w} {file} {reader} stands none (inl (past, is)) = subst (Refuses p w file (reader.lines + 1)) (sym is) (refused_here stands (early past none))
stops_early {p} {w} {file} {reader} stands none (inr (some, (f, fails, is))) = subst (Refuses p w file (reader.lines + 1)) (sym is) (refused_text stands some fails)

-- the line of the logic is the only one of its section
logic_named : (ls : List Line) (x : Line) → lines_of 2 ls ≡ [] → section x.form ≡ 2 → lines_of 2 (ls ++ (x ∷ [])) ≡ x ∷ []
logic_named ls x none two =
    lines_of_append 2 ls (x ∷ []) ∙ ap (λ (ms : List Line). ms ++ lines_of 2 (x ∷ [])) none ∙ ap (λ (n : ℕ). cond (eqb n 2) (x ∷ []) []) two

-- it is a quiet line
logic_quiet : {p w : ℕ} {ls : List Line} → Quiet p w ls → (x : Line) (l : AnyLogic) → LogicChosen x l → Quiet p w (ls ++ (x ∷ []))
logic_quiet quiet x (El l) (form, _, _) = quiet_more quiet x form refl (λ e. omega arith) refl
logic_quiet quiet x (Links l) (form, _) = quiet_more quiet x form refl (λ e. omega arith) refl

pub logic_opened : {p w : ℕ} {file : List ℕ} {reader : Reader} {ls : List Line} {k : AnyKind} → KindRead p w file reader ls k → {x : Found} → Gets reader x → (l : AnyLogic) → LogicChosen x.line l → Opened p w (ls ++ (x.line ∷ [])) k l
logic_opened {p} {w} {reader = reader} {ls} {k} read {x} gets l chosen =
    let two : section x.line.form ≡ 2 = read.next x.line (drop x.length reader.rest.now) gets.next in
    record {
      late = (x.line.form, last_form_append ls x.line, omega arith);
      kind = subst (λ (h : LabelOrder). Same (any_kind k) h) (sym (kind_of_same ls x.line read.some (λ e. omega arith))) read.kind;
      logic = (x.line, [], logic_named ls x.line read.none two, chosen);
      quiet = logic_quiet read.quiet x.line l chosen;
    }
