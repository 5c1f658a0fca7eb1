-- A chain keeps the laws of a label kind, and each of its labels is join prime.
use Rattle.std.proofs.Common.{inl, inr, arith}
use Rattle.std.specs.Prelude.{ℕ, ◌-◌, ◌<◌, ◌≤◌, min, max}
use Rattle.std.proofs.Math.Decide.{dec_le}
use Rattle.labels.specs.Order.{Lawful, JoinPrime, Under}
use Rattle.labels.specs.Chain.{chain, ChainSize}

module _ (n : ℕ) where
  under : {a b : ℕ} → a ≤ b → b < n → Under (chain n) a b
  under le lt = record { low = omega arith; high = lt; order = le }

  pub chain_lawful : ChainSize n → Lawful (chain n)
  chain_lawful ok = record {
    some = omega arith;
    small = omega arith;
    reflexive = λ a l. omega arith;
    antisymmetric = λ a b p q. omega arith;
    transitive = λ a b c p q. omega arith;
    meets = λ a b p q. (min a b, omega arith);
    joins = λ a b p q. (max a b, omega arith);
    top = (n - 1, omega arith);
  }

  pub chain_prime : (u : ℕ) → u < n → JoinPrime (chain n) u
  chain_prime u l = record {
    known = l;
    splits = λ a b j least below.
        elim (dec_le a b) [
          | yes h ↦ let up = least.least b (under h least.right.low) (under (omega arith) least.right.low) in inr (omega arith)
          | no h ↦ let up = least.least a (under (omega arith) least.left.low) (under (omega arith) least.left.low) in inl (omega arith)
        ];
  }
