use Rattle.std.proofs.Common.{Result, sym, ◌∙◌, subst, Option, ℕ}
use Rattle.std.proofs.lemmas.Result.{err_from_is_err_and}
use Rattle.engine.specs.declared.call.Answer.TheVariants.{Bound}
use Rattle.engine.specs.declared.call.Call.TheVariants.{Boundary}
use Rattle.engine.specs.declared.call.SheetFault.{SheetFault}
use Rattle.engine.specs.Keeps.{answer}
use Rattle.engine.specs.Obeys.{Obeys}
use Rattle.engine.proofs.Reading.{boundary_found}
use Rattle.engine.proofs.sheet.Sheet.boundary.Goals as goal

pub returns-in_err-boundary : goal.returns-in_err-boundary
returns-in_err-boundary g c =
    let s = c.args.self.now in
    let P : Result (Option ℕ) SheetFault → Type 0 = λ r. Obeys g.K.LabelKind.meaning g.L.Logic.meaning (Boundary c.args.goal) (answer Bound r) s s in
    let p = err_from_is_err_and c.from_residual-in_err-boundary.result c.from_residual-in_err-boundary.ensures.1 in
    rw (p.1, p.2) (subst P (sym c.ok_or.ensures.value ∙ c.in_err-boundary.was) (boundary_found _ _ s c.args.goal c.in_ok-take_goal.ensures c.lookup.result c.lookup.ensures))

pub returns : goal.returns
returns g c =
    let s = c.args.self.now in
    let P : Result (Option ℕ) SheetFault → Type 0 = λ r. Obeys g.K.LabelKind.meaning g.L.Logic.meaning (Boundary c.args.goal) (answer Bound r) s s in
    subst P (sym c.ok_or.ensures.value ∙ c.in_ok-boundary.was) (boundary_found _ _ s c.args.goal c.in_ok-take_goal.ensures c.lookup.result c.lookup.ensures)
