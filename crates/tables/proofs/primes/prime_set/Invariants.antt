use Rattle.std.proofs.Common.{ℕ, ◌<◌}
use Rattle.base.specs.Bits.{Has}
use Rattle.base.specs.Words.{Iff}
use Rattle.tables.specs.Rows.{SplitBits, entry}
use Rattle.tables.proofs.primes.prime_set.Given as goal

abbrev pub invariant-loop-a : goal.invariant-loop-a
invariant-loop-a l =
    (u : ℕ) → Iff (Has l.primes u) ((u < l.down.labels) × ((a : ℕ) → a < l.a → (b : ℕ) → b < l.down.labels → SplitBits l.down.rows u a b (entry l.joins a b)))
