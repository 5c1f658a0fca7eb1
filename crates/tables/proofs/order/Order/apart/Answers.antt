use Rattle.std.proofs.Common.{rules}
use Rattle.tables.proofs.Matrix.{apart_inside, apart_ordered, apart_keeps}
use Rattle.tables.proofs.Links.{alone_rows}
use Rattle.tables.proofs.order.Order.apart.Goals as goal

pub invariant_of-result : goal.invariant_of-result
invariant_of-result c =
    let rows = alone_rows _ _ c.args.labels _ c.requires.1 (λ a row f' called. (search rules, search rules)) c.from_fn-rows.ensures.items in
    record { sized = c.requires; inside = apart_inside _ _ rows; ordered = apart_ordered _ _ rows }

pub returns-clause-keeps : goal.returns-clause-keeps
returns-clause-keeps c =
    apart_keeps _ _ (alone_rows _ _ _ _ c.requires.1 (λ a row f' called. (search rules, search rules)) c.from_fn-rows.ensures.items)
