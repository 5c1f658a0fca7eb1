use Rattle.std.proofs.Common.{refl, rules}
use Rattle.supports.specs.Asked.{asked}
use Rattle.supports.proofs.Hitting.{done_cut}
use Rattle.supports.proofs.Looking.{not_sole}
use Rattle.supports.proofs.question.Question.foresee.Goals as goal

pub returns-then-look-out-clause-next : goal.returns-then-look-out-clause-next
returns-then-look-out-clause-next g c =
    let looked = c.look_over-look.ensures in
    let (e, in_out, unneeded) = not_sole _ c.args.out (search rules) looked.inside c.if-look-out.true in (
      refl,
      done_cut (asked g.L.Logic.meaning c.args.self.now) _ c.args.out c.args.may e in_out (λ s k p. looked.spare s k e p in_out unneeded) c.requires.earlier,
    )
