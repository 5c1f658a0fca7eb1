use Rattle.report.proofs.Standing.{stands_more}
use Rattle.report.proofs.Files.{passed_on, refused_check}
use Rattle.report.proofs.Openings.{stops_early, logic_opened}
use Rattle.report.proofs.file.read_logic.Goals as goal

pub returns-in_err-found : goal.returns-in_err-found
returns-in_err-found c = λ file before read. rw (passed_on c.from_residual.ensures.1) (stops_early read.stands read.none c.in_err-found.ensures)

pub returns-in_err-logic : goal.returns-in_err-logic
returns-in_err-logic c = λ file before read.
    let gets = c.in_ok-found.ensures in
    rw (passed_on c.from_residual-in_err-logic.ensures.1) (refused_check read.stands gets (c.in_err-logic.ensures _ _ before _ (read.next _ _ gets.next)))

pub returns : goal.returns
returns c = λ file before read.
    let gets = c.in_ok-found.ensures in
    let (chosen, none) = c.in_ok-logic.ensures _ _ before _ (read.next _ _ gets.next) in
    c.read_sheet.ensures file _ (stands_more read.stands gets none c.advance.ensures) (logic_opened read gets c.in_ok-logic.logic chosen)
