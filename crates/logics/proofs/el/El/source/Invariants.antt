use Rattle.logics.specs.Entailment.{Each}
use Rattle.logics.specs.Plan.{Tried}
use Rattle.logics.proofs.Canonical.{Pulled}
use Rattle.logics.proofs.el.El.source.Given as goal

abbrev pub invariant-loop-partner : goal.invariant-loop-partner
invariant-loop-partner l =
    let n = l.self.concepts in
    Tried n l.axioms.all (λ cells. Each (λ p. Pulled n l.x l.source p cells) l.yielded) l.initial.area l.area l.changed
