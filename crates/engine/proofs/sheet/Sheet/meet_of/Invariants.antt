use Rattle.engine.specs.Book.{Book}
use Rattle.engine.specs.Obeys.{Holds}
use Rattle.engine.proofs.Boundaries.{MeetUpTo}
use Rattle.engine.proofs.sheet.Sheet.meet_of.Given as goal

abbrev pub invariant-loop-i : goal.invariant-loop-i
invariant-loop-i g l =
    (b : Book) → Holds g.K.LabelKind.meaning g.L.Logic.meaning l.self b → MeetUpTo (g.K.LabelKind.meaning l.self.kind) b l.set l.i l.meet
