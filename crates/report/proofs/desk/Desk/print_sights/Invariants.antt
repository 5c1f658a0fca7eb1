use Rattle.std.proofs.Common.{ℕ, Bool, List, take}
use Rattle.prints.specs.Print.{sight_lines}
use Rattle.prints.specs.Output.{Adds}
use Rattle.lines.specs.declared.form.Line.{Line}
use Rattle.report.specs.Meaning.{kind_of, logic_of, book_of}
use Rattle.report.specs.Report.{Seen}
use Rattle.report.specs.Stands.{Keeping, Shows}
use Rattle.report.proofs.desk.Desk.print_sights.Given as goal

-- the answers to the users so far are printed
abbrev pub invariant-loop-user : goal.invariant-loop-user
invariant-loop-user l =
    (p w : ℕ) (before : List Line) → Keeping p w before l.self → Shows p w before l.goal
    → (seen : List (ℕ × Bool)) × Seen (kind_of before) (logic_of before) (book_of p w before) l.goal (take l.user-index l.user-items) seen
    × Adds (sight_lines l.goal seen) l.initial.print l.print
