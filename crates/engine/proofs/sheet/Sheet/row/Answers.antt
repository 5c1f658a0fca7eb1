use Rattle.std.proofs.Common.{Ok, Err, sym, ◌∙◌}
use Rattle.std.proofs.lemmas.Result.{err_from_is_err_and}
use Rattle.engine.proofs.Reading.{row_found}
use Rattle.engine.proofs.sheet.Sheet.row.Goals as goal

pub returns-in_err-row : goal.returns-in_err-row
returns-in_err-row g c =
    let p = err_from_is_err_and c.from_residual.result c.from_residual.ensures.1 in
    rw (p.1, p.2) (row_found _ _ c.args.self.now c.args.place c.get.result c.get.ensures (Err c.in_err-row.field-0.0) (sym c.in_err-row.was ∙ c.ok_or.ensures.value))

pub returns : goal.returns
returns g c = row_found _ _ c.args.self.now c.args.place c.get.result c.get.ensures (Ok c.in_ok-row.row) (sym c.in_ok-row.was ∙ c.ok_or.ensures.value)
