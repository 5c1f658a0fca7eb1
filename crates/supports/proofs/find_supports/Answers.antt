use Rattle.std.proofs.Common.{[], refl, rules}
use Rattle.supports.specs.Asked.{Asked}
use Rattle.supports.proofs.Finding.{none_found}
use Rattle.supports.proofs.find_supports.Goals as goal

pub returns-then-not-follows-clause-found : goal.returns-then-not-follows-clause-found
returns-then-not-follows-clause-found g c =
    let l = g.L.Logic.meaning c.args.logic.now in
    let q : Asked = record { logic = l; records = c.args.records.now; all = c.args.all; goal = c.args.goal } in
    λ ask.
    let (never, area) = c.if-not-follows.ensures.answered ask in
    (([], none_found q (g.met.L.Logic.monotone c.args.logic.now) never.1, refl, search rules), area)
