use Rattle.std.proofs.Common.{arith}
use Rattle.report.proofs.Files.{passed_on}
use Rattle.report.proofs.Entering.{enter_beyond, enter_refused, enter_accepted}
use Rattle.report.proofs.desk.Desk.enter_axiom.Goals as goal

pub returns-in_default : goal.returns-in_default
returns-in_default c = λ p w before behind is keeping.
    let count = c.entered.ensures _ keeping.book in
    enter_beyond keeping c.args.line.now behind is (omega arith) c.in_default.ensures

pub returns-in_err-enter : goal.returns-in_err-enter
returns-in_err-enter c = λ p w before behind is keeping.
    rw (passed_on c.from_residual.ensures.1) (enter_refused keeping c.args.line.now behind is (rw c.in-Some.ensures at c.in_err-enter.ensures))

pub returns : goal.returns
returns c = λ p w before behind is keeping.
    enter_accepted keeping c.args.line.now behind is (rw c.in-Some.ensures at c.in_ok-enter.ensures)
