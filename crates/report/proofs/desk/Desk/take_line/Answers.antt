use Rattle.std.proofs.Common.{◌≡◌, ℕ, List, [], ◌∷◌, ◌++◌, sym, refl, ap, subst}
use Rattle.prints.specs.declared.Printer.{Printer}
use Rattle.prints.proofs.Adding.{adds_none}
use Rattle.lines.specs.declared.form.Form.{Form}
use Rattle.lines.specs.declared.form.Line.{Line}
use Rattle.lines.specs.Forms.{section}
use Rattle.report.specs.Report.{LinePrints}
use Rattle.report.specs.Stands.{LinePrinted}
use Rattle.report.proofs.Stepping.{settles_and}
use Rattle.report.proofs.desk.Desk.take_line.Goals as goal

-- a line that prints nothing
silent : (p w : ℕ) (before : List Line) (x : Line) {f : Form} → x.form ≡ f → LinePrints p w f (before ++ (x ∷ [])) x [] → {print : Printer} → LinePrinted p w before x print print
silent p w before x is none = ([], subst (λ (h : Form). LinePrints p w h (before ++ (x ∷ [])) x []) (sym is) none, adds_none)

pub returns-in-Axiom : goal.returns-in-Axiom
returns-in-Axiom c = λ before behind late few keeping.
    settles_and _ c.enter_axiom.result _ _ (c.enter_axiom.ensures _ _ before behind c.in-Axiom.is keeping) (silent _ _ before c.args.line.now c.in-Axiom.is refl)

pub returns-in-User : goal.returns-in-User
returns-in-User c = λ before behind late few keeping.
    settles_and _ c.add_user.result _ _ (c.add_user.ensures _ _ before behind c.in-User.is (few (ap section c.in-User.is)) keeping) (silent _ _ before c.args.line.now c.in-User.is refl)
