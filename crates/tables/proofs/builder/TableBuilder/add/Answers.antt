use Rattle.std.proofs.Common.{◌<◌, [], refl, inr, rules}
use Rattle.tables.proofs.Matrix.{linked_inside, linked_ordered, linked_keeps, looped, not_looped}
use Rattle.tables.proofs.builder.TableBuilder.add.Goals as goal

pub returns-then-closes_loop-clause-pairs : goal.returns-then-closes_loop-clause-pairs
returns-then-closes_loop-clause-pairs c = λ pairs keeps.
    let order = c.args.self.now.order in
    let low : c.args.low < order.labels = search rules in
    let high : c.args.high < order.labels = search rules in
    let back = c.if-closes_loop.ensures.0 tt in
    (inr ((low, high), looped _ _ [] pairs _ _ low high keeps back.0 back.1, refl), keeps)

pub returns-clause-pairs : goal.returns-clause-pairs
returns-clause-pairs c = λ pairs keeps.
    let order = c.args.self.now.order in
    let low : c.args.low < order.labels = search rules in
    let high : c.args.high < order.labels = search rules in
    let link = c.link.ensures.linked in
    let after = linked_keeps _ _ _ pairs _ _ low high keeps link in
    (((low, high), not_looped _ _ _ (linked_inside _ _ _ _ _ order.inside order.ordered link) (linked_ordered _ _ _ _ _ order.inside order.ordered link c.if-closes_loop.ensures.1) after), after)
