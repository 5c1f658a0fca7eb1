use Rattle.std.proofs.Common.{◌++◌, drop}
use Rattle.tables.proofs.Links.{LinkedTo}
use Rattle.tables.proofs.order.Order.link.Given as goal

-- the rows so far are linked, and the others are as they were
abbrev pub invariant-loop-row : goal.invariant-loop-row
invariant-loop-row l = LinkedTo l.self.rows l.low l.high (l.row-items ++ drop l.self.labels l.self.rows) l.row-index
