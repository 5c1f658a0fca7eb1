use Rattle.std.proofs.Common.{ℕ, ◌<◌}
use Rattle.logics.specs.Drawing.{AllDrawn}
use Rattle.logics.specs.Plan.{Tried}
use Rattle.logics.proofs.el.ElSaturates.round.Given as goal

abbrev pub invariant-loop-x : goal.invariant-loop-x
invariant-loop-x l =
    let n = l.self.concepts in
    let rs = l.given in
    Tried n rs (λ cells. (y : ℕ) → y < l.x → AllDrawn n rs y cells) l.initial.area l.area l.changed
