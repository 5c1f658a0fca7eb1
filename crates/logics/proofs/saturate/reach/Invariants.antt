use Rattle.logics.specs.Plan.{Begun, KeptSound}
use Rattle.logics.specs.WorkArea.{blanks}
use Rattle.logics.proofs.saturate.reach.Given as goal

abbrev pub invariant-loop-area : goal.invariant-loop-area
invariant-loop-area g l =
    let p = g.S.Saturates.plan l.logic in
    Begun p l.fn.goal l.area × KeptSound p l.given l.fn.goal l.initial.area l.area

abbrev pub decreases-loop-area : goal.decreases-loop-area
decreases-loop-area g l = blanks l.area
