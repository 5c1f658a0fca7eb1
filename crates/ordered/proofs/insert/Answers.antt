use Rattle.std.proofs.Common.{arith}
use Rattle.ordered.proofs.Places.{opened_is}
use Rattle.ordered.proofs.insert.Goals as goal

pub returns-clause-put : goal.returns-clause-put
returns-clause-put g c =
    rw c.copy_within.ensures.after (opened_is c.args.list.now c.args.count c.args.place c.args.x (omega arith) (omega arith))
