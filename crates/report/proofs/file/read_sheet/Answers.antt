use Rattle.std.proofs.Common.{[], ◌∷◌, ◌++◌}
use Rattle.prints.proofs.Adding.{adds_none}
use Rattle.report.proofs.Files.{passed_on, refused_check, late_line, along_stops, along_more, along_ends}
use Rattle.report.proofs.file.read_sheet.Goals as goal

pub loop-desk-init : goal.loop-desk-init
loop-desk-init c = λ file before stands opened.
    (before, record { stands = stands; late = opened.late; keeping = c.open-desk.ensures _ _ before opened; told = []; prints = opened.quiet.prints; printed = adds_none })

pub loop-desk-preserved : goal.loop-desk-preserved
loop-desk-preserved c = λ file before stands opened.
    let gets = c.in_ok-found.ensures in
    let (ls, along) = c.loop-desk.invariant file before stands opened in
    let (three, few) = late_line along.stands along.late gets in
    let (none, (kept, printed)) = (rw (c.loop-desk.auto.places, c.loop-desk.auto.area) at c.in_ok-take_line.ensures) ls _ three few along.keeping in
    (ls ++ (c.in_ok-found.found.line ∷ []), along_more along gets none kept printed c.advance.ensures)

pub returns-in_err-found : goal.returns-in_err-found
returns-in_err-found c = λ file before stands opened.
    let (ls, along) = c.loop-desk.invariant file before stands opened in
    rw (passed_on c.from_residual.ensures.1) (along_stops along c.loop-desk-test.ensures.1 c.in_err-found.ensures)

pub returns-in_err-take_line : goal.returns-in_err-take_line
returns-in_err-take_line c = λ file before stands opened.
    let gets = c.in_ok-found.ensures in
    let (ls, along) = c.loop-desk.invariant file before stands opened in
    let (three, few) = late_line along.stands along.late gets in
    rw (passed_on c.from_residual-in_err-take_line.ensures.1) (refused_check along.stands gets ((rw (c.loop-desk.auto.places, c.loop-desk.auto.area) at c.in_err-take_line.ensures) ls _ three few along.keeping))

pub returns : goal.returns
returns c = λ file before stands opened.
    let (ls, along) = c.loop-desk.invariant file before stands opened in
    along_ends along (c.loop-desk-test.ensures.0 tt)
