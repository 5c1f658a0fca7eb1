-- The kind `sets r`: r regions and a label for each set of them, ordered by inclusion.
use Rattle.std.specs.Prelude.{ℕ, ◌^◌, ◌≤◌}
use Rattle.base.specs.Bits.{Subset}
use Rattle.labels.specs.Order.{LabelOrder}

-- bit k of a label stands for region k
abbrev pub sets : ℕ → LabelOrder
sets r = record { size = 2 ^ r; Below = Subset }

-- how many regions there may be
abbrev pub SetsSize : ℕ → Type 0
SetsSize r = r ≤ 32
