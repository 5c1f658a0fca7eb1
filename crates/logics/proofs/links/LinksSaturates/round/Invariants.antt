use Rattle.logics.specs.Entailment.{Each, Goal}
use Rattle.logics.specs.Plan.{May, links_plan}
use Rattle.logics.specs.WorkArea.{Settled, Ticking}
use Rattle.logics.proofs.links.LinksSaturates.round.Given as goal

abbrev pub invariant-loop-link : goal.invariant-loop-link
invariant-loop-link l =
    let n = l.self.points in
    (g : Goal) → Ticking n (May (links_plan n) l.given g) (λ cells. Each (λ r. Settled r.a r.a r.b cells) l.yielded) l.initial.area l.area l.changed
