use Rattle.std.proofs.Common.{ℕ, ◌<◌}
use Rattle.base.specs.Bits.{Has}
use Rattle.base.specs.Words.{Iff}
use Rattle.tables.specs.Rows.{SplitBits, entry}
use Rattle.tables.proofs.primes.prime_row.Given as goal

abbrev pub invariant-loop-b : goal.invariant-loop-b
invariant-loop-b l = (u : ℕ) → Iff (Has l.primes u) ((u < 32) × ((b : ℕ) → b < l.b → SplitBits l.down.rows u l.a b (entry l.joins l.a b)))
