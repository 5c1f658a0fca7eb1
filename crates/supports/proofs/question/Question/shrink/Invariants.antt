use Rattle.std.proofs.Common.{◌≡◌}
use Rattle.supports.specs.Asked.{asked}
use Rattle.supports.specs.Search.{Shrunk}
use Rattle.supports.proofs.question.Question.shrink.Given as goal

abbrev pub invariant-loop-place : goal.invariant-loop-place
invariant-loop-place g l = (l.area ≡ l.initial.area) × Shrunk (asked g.L.Logic.meaning l.self) l.set l.left l.place
