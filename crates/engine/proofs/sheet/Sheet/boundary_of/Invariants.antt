use Rattle.std.proofs.Common.{take}
use Rattle.engine.specs.Book.{Book}
use Rattle.engine.specs.Obeys.{Holds}
use Rattle.engine.proofs.Boundaries.{JoinUpTo}
use Rattle.engine.proofs.sheet.Sheet.boundary_of.Given as goal

abbrev pub invariant-loop-support : goal.invariant-loop-support
invariant-loop-support g l =
    (b : Book) → Holds g.K.LabelKind.meaning g.L.Logic.meaning l.self b
    → JoinUpTo (g.K.LabelKind.meaning l.self.kind) b (take l.support-index l.supports) l.bound
