-- A file, line by line.
use Rattle.std.proofs.Common.{◌≡◌, ℕ, ◌+◌, ◌<◌, ◌≤◌, List, [], ◌∷◌, ◌++◌, length, drop, Err, Option, Result, IsErrAnd, sym, refl, ap, ◌∙◌, subst, inl, inr, append-nil, arith}
use Rattle.std.proofs.lemmas.Result.{err_from_is_err_and}
use Rattle.base.specs.Checks.{FirstOf, NoneOf}
use Rattle.prints.specs.declared.Printer.{Printer}
use Rattle.prints.specs.Output.{Adds}
use Rattle.prints.proofs.Adding.{adds_both}
use Rattle.lines.specs.declared.fault.TextFault.{TextFault}
use Rattle.lines.specs.declared.form.Form.{Form}
use Rattle.lines.specs.declared.form.Line.{Line}
use Rattle.lines.specs.declared.read.Found.{Found}
use Rattle.lines.specs.Forms.{section, May}
use Rattle.lines.specs.Lines.{written, last_form}
use Rattle.lines.specs.Reading.{Next, TextFails}
use Rattle.report.specs.declared.desk.Desk.{Desk}
use Rattle.report.specs.declared.fault.Cause.{Cause}
use Rattle.report.specs.declared.fault.Cause.TheVariants.{Text}
use Rattle.report.specs.declared.reader.Reader.{Reader}
use Rattle.report.specs.Checks.{user_count, line_checks, Good, Fails, text, check, Refuses}
use Rattle.report.specs.Report.{PrintOf}
use Rattle.report.specs.Stands.{Gets, Stops, Stands, Advanced, Late, Keeping, LinePrinted, Along}
use Rattle.report.proofs.Standing.{stands_more, prints_more, last_form_append}
use Rattle.report.proofs.Stepping.{named_some}

-- a refusal that `?` passes on
pub passed_on : {A : Type 0} {c : Cause} {r : Result A Cause} → IsErrAnd r (λ e. e ≡ c) → r ≡ Err c
passed_on {r = r} h = let q = err_from_is_err_and r h in q.1 ∙ ap (λ (e : Cause). Err e) q.2

some_byte : (bs : List ℕ) → (bs ≡ [] → ⊥) → 0 < length bs
some_byte [] some = absurd (some refl)
some_byte (b ∷ bs) some = omega arith

module _ {p w : ℕ} {file : List ℕ} {reader : Reader} {ls : List Line} (stands : Stands p w file reader ls) where
  -- what may come next, by the lines
  by_lines : (P : Option Form → ℕ → Type 0) → P reader.last reader.users → P (last_form ls) (user_count ls)
  by_lines P h = subst (λ (n : ℕ). P (last_form ls) n) stands.users (subst (λ (f : Option Form). P f reader.users) stands.last h)

  -- the file is refused behind these lines
  pub refused_here : {c : Cause} → Fails p w ls reader.rest.now c → Refuses p w file (reader.lines + 1) c
  refused_here fails =
      record { before = ls; rest = reader.rest.now; bytes = stands.bytes; good = stands.good; fails = fails; counted = ap (λ (n : ℕ). n + 1) stands.lines }

  pub refused_text : {f : TextFault} → (reader.rest.now ≡ [] → ⊥) → TextFails reader.last reader.users reader.rest.now f → Refuses p w file (reader.lines + 1) (Text f)
  refused_text {f} some fails = refused_here (text (some_byte reader.rest.now some) (by_lines (λ last users. TextFails last users reader.rest.now f) fails))

  pub refused_check : {x : Found} → Gets reader x → {c : Cause} → FirstOf (line_checks p w ls x.line (drop x.length reader.rest.now)) c → Refuses p w file (reader.lines + 1) c
  refused_check {x} gets first =
      refused_here (check x.line (drop x.length reader.rest.now) (by_lines (λ last users. Next last users reader.rest.now x.line (drop x.length reader.rest.now)) gets.next) first)

  -- a line behind the logic is of a later section, and users are few
  pub late_line : Late ls → {x : Found} → Gets reader x → (3 ≤ section x.line.form) × (section x.line.form ≡ 4 → user_count ls < 16)
  late_line (f, is, late) {x} gets =
      let (after, few) = subst (λ (h : Option Form). May h (user_count ls) x.line.form) is (by_lines (λ last users. May last users x.line.form) gets.next.may) in
      (elim after [ inl (early, _) ↦ absurd (omega arith) | inr (_, three, _) ↦ three ], few)

module _ {p w : ℕ} {file : List ℕ} {begun : Printer} {reader : Reader} {ls : List Line} {desk : Desk} {print : Printer} (along : Along p w file begun reader ls desk print) where
  -- one line more
  pub along_more : {x : Found} → Gets reader x → NoneOf (line_checks p w ls x.line (drop x.length reader.rest.now)) → {desk' : Desk} → Keeping p w (ls ++ (x.line ∷ [])) desk'
      → {print' : Printer} → LinePrinted p w ls x.line print print' → {reader' : Reader} → Advanced reader x reader' → Along p w file begun reader' (ls ++ (x.line ∷ [])) desk' print'
  along_more {x} gets none keeping (s, prints, adds) moved =
      let (three, _) = late_line along.stands along.late gets in
      record {
        stands = stands_more along.stands gets none moved;
        late = (x.line.form, last_form_append ls x.line, omega arith);
        keeping = keeping;
        told = along.told ++ s;
        prints = prints_more p w [] ls x.line along.told s along.prints prints;
        printed = adds_both along.printed adds;
      }

  -- no byte is left
  pub along_ends : reader.rest.now ≡ [] → (t : List ℕ) × PrintOf p w file t × Adds t begun print
  along_ends empty = (
    along.told,
    record {
      lines = ls;
      accepted = record {
        bytes = along.stands.bytes ∙ ap (λ (bs : List ℕ). written ls ++ bs) empty ∙ append-nil (written ls);
        good = subst (Good p w [] ls) empty along.stands.good;
        complete = named_some desk.sheet.logic ls along.keeping.logic;
      };
      prints = along.prints;
    },
    along.printed,
  )

  -- the next line is refused
  pub along_stops : {c : Cause} → (reader.rest.now ≡ [] → ⊥) → Stops reader c → Refuses p w file (reader.lines + 1) c
  along_stops some (inl (past, _)) = absurd (some past)
  along_stops some (inr (_, (f, fails, is))) = subst (Refuses p w file (reader.lines + 1)) (sym is) (refused_text along.stands some fails)
