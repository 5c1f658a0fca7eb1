use Rattle.std.proofs.Common.{ℕ, ◌<◌, get_or}
use Rattle.labels.specs.Order.{Joins}
use Rattle.tables.specs.Rows.{matrix}
use Rattle.tables.proofs.order.Order.join_row.Given as goal

abbrev pub invariant-loop-b : goal.invariant-loop-b
invariant-loop-b l = (b : ℕ) → b < l.b → Joins (matrix l.self.labels l.self.rows) l.a b (get_or l.join-items b 0)
