-- The order of sets: the one that holds the smallest place in which they differ comes first.
use Rattle.std.specs.Prelude.{ℕ, ◌<◌}
use Rattle.base.specs.Bits.{Has}
use Rattle.base.specs.Words.{Iff}

-- s comes before t: it holds the smallest place in which the two differ
pub record Before (s t : ℕ) : Type 0 where
  pub place : ℕ
  pub holds : Has s place
  pub lacks : Has t place → ⊥
  pub alike : (i : ℕ) → i < place → Iff (Has s i) (Has t i)
