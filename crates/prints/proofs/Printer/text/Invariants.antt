use Rattle.std.proofs.Common.{take}
use Rattle.prints.specs.Output.{Adds}
use Rattle.prints.proofs.Printer.text.Given as goal

-- the bytes so far are added
abbrev pub invariant-loop-b : goal.invariant-loop-b
invariant-loop-b l = Adds (take l.b-index l.bytes) l.initial.self l.self
