use Rattle.tables.proofs.Joins.{join_found}
use Rattle.tables.proofs.order.Order.join_of.Goals as goal

pub returns : goal.returns
returns c =
    let self = c.args.self.now in
    rw c.ok_or.ensures.value (join_found _ _ self.inside self.ordered _ _ c.requires.a c.requires.b _ c.label_of.ensures)
