use Rattle.std.proofs.Common.{refl}
use Rattle.std.proofs.lemmas.Result.{err_from_is_err_and}
use Rattle.engine.proofs.Changing.{withdraw_refused, withdraw_done}
use Rattle.engine.proofs.sheet.Sheet.withdraw.Goals as goal

pub returns-in_err-place : goal.returns-in_err-place
returns-in_err-place g c = let p = err_from_is_err_and c.from_residual.result c.from_residual.ensures.1 in rw (p.1, p.2) (withdraw_refused _ _ c.args.self.now c.args.number _ c.in_err-place.ensures)

pub returns : goal.returns
returns g c =
    withdraw_done _ _ c.args.self.now c.args.number c.in_ok-place.place c.in_ok-place.ensures.0 c.in_ok-place.ensures.1 _ refl refl c.clear.ensures c.withdraw.ensures
