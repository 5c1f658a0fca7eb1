use Rattle.std.proofs.Common.{take}
use Rattle.prints.specs.Print.{support_lines}
use Rattle.prints.specs.Output.{Adds}
use Rattle.prints.proofs.Printer.support_lines.Given as goal

-- the lines so far are added
abbrev pub invariant-loop-support : goal.invariant-loop-support
invariant-loop-support l = Adds (support_lines l.goal (take l.support-index l.supports)) l.initial.self l.self
