use Rattle.std.proofs.Common.{◌≡◌, ℕ, ◌<◌, [], length, get_or}
use Rattle.tables.specs.Rows.{matrix, JoinRow}
use Rattle.tables.proofs.order.Order.joins.Given as goal

abbrev pub invariant-loop-a : goal.invariant-loop-a
invariant-loop-a l = record {
  long : length l.row-items ≡ l.self.labels;
  joined : (a : ℕ) → a < l.a → JoinRow (matrix l.self.labels l.self.rows) a (get_or l.row-items a []);
}
