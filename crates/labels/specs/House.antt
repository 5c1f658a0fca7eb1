-- The kind `house`: labels of three parts, 4 × sales + 2 × service + export, ordered part by part.
use Rattle.std.specs.Prelude.{ℕ, ◌/◌, ◌%◌, ◌≤◌}
use Rattle.labels.specs.Order.{LabelOrder}

abbrev pub sales : ℕ → ℕ
sales a = a / 4

abbrev pub service : ℕ → ℕ
service a = a / 2 % 2

abbrev pub export : ℕ → ℕ
export a = a % 2

-- each part of a is at most that of b
pub record PartByPart (a b : ℕ) : Type 0 where
  pub in_sales : sales a ≤ sales b
  pub in_service : service a ≤ service b
  pub in_export : export a ≤ export b

-- sales is 0 to 2, service and export are 0 or 1
abbrev pub house : LabelOrder
house = record { size = 12; Below = PartByPart }
