use Rattle.std.proofs.Common.{sym, ◌∙◌}
use Rattle.supports.specs.Asked.{asked}
use Rattle.supports.proofs.Yielding.{askable_part}
use Rattle.supports.proofs.question.Question.yields.Goals as goal

pub returns : goal.returns
returns g c =
    let q = asked g.L.Logic.meaning c.args.self.now in
    let told = c.follows.ensures.answered (askable_part q _ _ c.requires.inside c.requires.ready.askable) in
    record { answer = told.0; area = told.1 ∙ sym c.requires.ready.clean }
