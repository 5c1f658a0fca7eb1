use Rattle.std.proofs.Common.{false, sym, ◌∙◌}
use Rattle.std.proofs.lemmas.Result.{err_from_is_err_and}
use Rattle.engine.proofs.Reading.{see_user, see_unknown, see_found}
use Rattle.engine.proofs.sheet.Sheet.see.Goals as goal

pub returns-in_err-check_user : goal.returns-in_err-check_user
returns-in_err-check_user g c =
    let p = err_from_is_err_and c.from_residual-in_err-check_user.result c.from_residual-in_err-check_user.ensures.1 in
    rw (p.1, p.2) (see_user _ _ c.args.self.now c.args.goal c.in_ok-take_goal.ensures c.args.user c.in_err-check_user.field-0.0 c.in_err-check_user.ensures)

pub returns-in_err-boundary : goal.returns-in_err-boundary
returns-in_err-boundary g c =
    let p = err_from_is_err_and c.from_residual-in_err-boundary.result c.from_residual-in_err-boundary.ensures.1 in
    rw (p.1, p.2)
    (see_unknown _ _ c.args.self.now c.args.goal c.in_ok-take_goal.ensures c.args.user c.in_ok-check_user.ensures.known c.in_ok-check_user.ensures
    c.lookup.result c.lookup.ensures c.in_err-boundary.field-0.0 (sym c.in_err-boundary.was ∙ c.ok_or.ensures.value))

pub returns-in-None : goal.returns-in-None
returns-in-None g c =
    let s = c.args.self.now in
    see_found _ _ s c.args.goal c.in_ok-take_goal.ensures c.args.user c.in_ok-check_user.ensures.known c.in_ok-check_user.ensures
    (g.met.K.LabelKind.lawful s.kind) (g.met.L.Logic.monotone s.logic) c.lookup.result c.lookup.ensures c.in_ok-boundary.boundary (sym c.in_ok-boundary.was ∙ c.ok_or.ensures.value)
    false (rw c.in-None.is (λ h. h, λ h. h))

pub returns-in-Some : goal.returns-in-Some
returns-in-Some g c =
    let s = c.args.self.now in
    see_found _ _ s c.args.goal c.in_ok-take_goal.ensures c.args.user c.in_ok-check_user.ensures.known c.in_ok-check_user.ensures
    (g.met.K.LabelKind.lawful s.kind) (g.met.L.Logic.monotone s.logic) c.lookup.result c.lookup.ensures c.in_ok-boundary.boundary (sym c.in_ok-boundary.was ∙ c.ok_or.ensures.value)
    c.at_or_below.result (rw c.in-Some.is c.at_or_below.ensures)
