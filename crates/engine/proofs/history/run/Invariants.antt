use Rattle.std.proofs.Common.{◌≡◌, map, length, take, drop}
use Rattle.engine.specs.Book.{Book, blank}
use Rattle.engine.specs.Law.{buffers, given as given_of}
use Rattle.engine.specs.Obeys.{Holds}
use Rattle.engine.proofs.Histories.{RunTo}
use Rattle.engine.proofs.history.run.Given as goal

-- the calls so far are a history, whose book the sheet keeps; the answers to come are as they were
abbrev pub invariant-loop-i : goal.invariant-loop-i
invariant-loop-i g l =
    ((m : Book)
    × RunTo (g.K.LabelKind.meaning l.initial.sheet.kind) (g.L.Logic.meaning l.initial.sheet.logic) blank (buffers l.initial.places l.initial.area)
    (map (given_of (length l.initial.places) (length l.initial.area)) (take l.i (take l.count l.calls))) (take l.i l.answers) (buffers l.places l.area) m
    × Holds g.K.LabelKind.meaning g.L.Logic.meaning l.sheet m)
    × (l.sheet.kind ≡ l.initial.sheet.kind)
    × (l.sheet.logic ≡ l.initial.sheet.logic)
    × (drop l.i l.answers ≡ drop l.i l.initial.answers)
