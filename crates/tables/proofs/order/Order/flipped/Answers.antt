use Rattle.std.proofs.Common.{rules}
use Rattle.tables.proofs.Flips.{down_inside, down_ordered}
use Rattle.tables.proofs.Links.{flipped_rows}
use Rattle.tables.proofs.order.Order.flipped.Goals as goal

pub invariant_of-result : goal.invariant_of-result
invariant_of-result c =
    let self = c.args.self.now in
    let flipped = flipped_rows _ _ _ _ _ self.sized.1 self.inside (λ b row f' called. (search rules, search rules)) c.from_fn-rows.ensures.items in
    record { sized = self.sized; inside = down_inside _ _ _ self.inside self.ordered flipped; ordered = down_ordered _ _ _ self.inside self.ordered flipped }

pub returns-clause-flipped : goal.returns-clause-flipped
returns-clause-flipped c =
    let self = c.args.self.now in
    flipped_rows _ _ _ _ _ self.sized.1 self.inside (λ b row f' called. (search rules, search rules)) c.from_fn-rows.ensures.items
