use Rattle.logics.specs.Drawing.{DrawnAt}
use Rattle.logics.specs.Entailment.{Each}
use Rattle.logics.specs.Plan.{Tried}
use Rattle.logics.proofs.el.El.sweep.Given as goal

abbrev pub invariant-loop-axiom : goal.invariant-loop-axiom
invariant-loop-axiom l =
    let n = l.self.concepts in
    let rs = l.axioms.all in
    Tried n rs (λ cells. Each (λ r. DrawnAt n rs l.x r cells) l.yielded) l.initial.area l.area l.changed
