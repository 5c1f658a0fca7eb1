use Rattle.prints.specs.Print.{numbers, upto}
use Rattle.prints.specs.Output.{Adds}
use Rattle.prints.proofs.Printer.axioms.Given as goal

-- the axioms so far are added
abbrev pub invariant-loop-place : goal.invariant-loop-place
invariant-loop-place l = Adds (numbers (upto l.set l.place)) l.initial.self l.self
