use Rattle.report.proofs.file.read_file.Goals as goal

pub returns : goal.returns
returns c = λ file stands. let (ls, read) = c.in_ok-kind.ensures _ _ file stands in c.read_logic.ensures file ls read
