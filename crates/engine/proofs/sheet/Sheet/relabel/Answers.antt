use Rattle.std.proofs.Common.{refl}
use Rattle.std.proofs.lemmas.Result.{err_from_is_err_and}
use Rattle.engine.proofs.Changing.{relabel_refused, relabel_label, relabel_done}
use Rattle.engine.proofs.sheet.Sheet.relabel.Goals as goal

pub returns-in_err-place : goal.returns-in_err-place
returns-in_err-place g c = let p = err_from_is_err_and c.from_residual.result c.from_residual.ensures.1 in rw (p.1, p.2) (relabel_refused _ _ c.args.self.now c.args.number c.args.label _ c.in_err-place.ensures)

pub returns-in_err-check_label : goal.returns-in_err-check_label
returns-in_err-check_label g c =
    let p = err_from_is_err_and c.from_residual-in_err-check_label.result c.from_residual-in_err-check_label.ensures.1 in
    rw (p.1, p.2, c.in_err-check_label.ensures.1)
    (relabel_label _ _ c.args.self.now c.args.number c.in_ok-place.place c.in_ok-place.ensures.0 c.in_ok-place.ensures.1 c.args.label c.in_err-check_label.ensures.0)

pub returns : goal.returns
returns g c =
    relabel_done _ _ c.args.self.now c.args.number c.in_ok-place.place c.in_ok-place.ensures.0 c.in_ok-place.ensures.1 _ refl refl c.clear.ensures c.args.label c.in_ok-check_label.ensures c.relabel.ensures
