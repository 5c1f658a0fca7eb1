use Rattle.std.proofs.Common.{T, sym, subst}
use Rattle.base.specs.Words.{Iff}
use Rattle.report.specs.Any.{any_logic}
use Rattle.report.specs.declared.any.AnyLogic.{AnyLogic}
use Rattle.report.proofs.any.AnyLogicLogic.takes_record.Goals as goal

pub returns-in-El : goal.returns-in-El
returns-in-El c = subst (λ (l : AnyLogic). Iff (T c.takes_record.result) ((any_logic l).TakesRecord c.args.«record»)) (sym c.in-El.is) c.takes_record.ensures

pub returns-in-Links : goal.returns-in-Links
returns-in-Links c = subst (λ (l : AnyLogic). Iff (T c.takes_record-in-Links.result) ((any_logic l).TakesRecord c.args.«record»)) (sym c.in-Links.is) c.takes_record-in-Links.ensures
