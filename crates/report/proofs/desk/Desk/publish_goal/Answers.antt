use Rattle.report.proofs.Files.{passed_on}
use Rattle.report.proofs.Goals.{publish_refused, publish_done, goal_done}
use Rattle.report.proofs.Sighting.{boundary_refused, boundary_answered}
use Rattle.report.proofs.desk.Desk.publish_goal.Goals as goal

pub returns-in_err-count : goal.returns-in_err-count
returns-in_err-count c = λ before behind is keeping. rw (passed_on c.from_residual.ensures.1) (publish_refused keeping c.args.line.now behind is c.in_err-count.ensures.law)

-- a goal that was published has its boundary
pub returns-in_err-boundary : goal.returns-in_err-boundary
returns-in_err-boundary c = λ before behind is keeping.
    let told = c.in_ok-count.ensures in
    let done = publish_done keeping c.args.line.now behind is told.law in
    absurd (boundary_refused done.keeping _ done.shows c.in_err-boundary.ensures)

pub returns : goal.returns
returns c = λ before behind is keeping.
    let told = c.in_ok-count.ensures in
    let done = publish_done keeping c.args.line.now behind is told.law in
    goal_done _ _ before c.args.line.now behind is done.none done.keeping done.lawful _ (boundary_answered done.keeping _ done.shows c.in_ok-boundary.ensures) _ (done.supports _ _ (told.leaves _ keeping.book)) c.boundary_line.ensures c.support_lines.ensures
    c.print_sights.result _ (c.print_sights.ensures _ _ _ done.keeping done.shows)
