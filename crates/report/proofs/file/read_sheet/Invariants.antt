use Rattle.std.proofs.Common.{ℕ, List, length}
use Rattle.lines.specs.declared.form.Line.{Line}
use Rattle.report.specs.Stands.{Stands, Opened, Along}
use Rattle.report.proofs.file.read_sheet.Given as goal

-- the lines so far are kept and printed
abbrev pub invariant-loop-desk : goal.invariant-loop-desk
invariant-loop-desk l =
    (file : List ℕ) (before : List Line) → Stands (length l.initial.places) (length l.initial.area) file l.initial.reader before → Opened (length l.initial.places) (length l.initial.area) before l.fn.kind l.fn.logic
    → (ls : List Line) × Along (length l.initial.places) (length l.initial.area) file l.initial.print l.reader ls l.desk l.print

abbrev pub decreases-loop-desk : goal.decreases-loop-desk
decreases-loop-desk l = length l.reader.rest.now
