use Rattle.base.proofs.Tests.{iff_trans}
use Rattle.tables.specs.Laws.{prime_iff}
use Rattle.tables.proofs.table.TableLabelKind.admits.Goals as goal

pub returns : goal.returns
returns c =
    let self = c.args.self.now in
    iff_trans (rw c.from.ensures at c.contains.ensures) (prime_iff _ _ _ _ _ _ self.finished self.order.inside c.args.user)
