use Rattle.std.proofs.Common.{rules}
use Rattle.std.proofs.lemmas.Iterator.{cases_from_all}
use Rattle.std.proofs.lemmas.Iterator.Consumers.{YieldsList-from_first}
use borrow.Author.Tests.{tests}
use Rattle.logics.proofs.Walks.{each_tested}
use Rattle.logics.proofs.saturate.takes_all.Goals as goal

pub returns : goal.returns
returns g c =
    let takes = (g.S.Saturates.plan c.args.logic.now).logic.TakesRecord in
    each_tested takes _ _ (cases_from_all _ _ _ takes (λ x. takes x → ⊥) c.all.ensures.ran (YieldsList-from_first (λ x. x) (λ rest. rest) c.args.given.now cc) (λ x q k. search (rules, tests)) (λ x q k. search (rules, tests)))
