use Rattle.std.proofs.Common.{◌≡◌, take}
use Rattle.tables.specs.Table.{TakenUpTo}
use Rattle.tables.specs.Rows.{Keeps}
use Rattle.tables.proofs.table.Table.new.Given as goal

abbrev pub invariant-loop-low : goal.invariant-loop-low
invariant-loop-low l = record {
  labels : l.builder.order.labels ≡ l.labels;
  taken : TakenUpTo l.labels l.pairs l.low-index;
  keeps : Keeps l.labels l.builder.order.rows (take l.low-index l.pairs);
}
