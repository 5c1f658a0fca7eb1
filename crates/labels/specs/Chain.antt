-- The kind `chain n`: n labels, in the order of numbers.
use Rattle.std.specs.Prelude.{ℕ, ◌≤◌}
use Rattle.labels.specs.Order.{LabelOrder}

abbrev pub chain : ℕ → LabelOrder
chain n = record { size = n; Below = ◌≤◌ }

-- the sizes that a chain may have
abbrev pub ChainSize : ℕ → Type 0
ChainSize n = (1 ≤ n) × (n ≤ 65536)
