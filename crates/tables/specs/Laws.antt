-- A finished table keeps the laws of a label kind, and admits the join primes.
use Rattle.std.specs.Prelude.{ℕ, List, slice_index}
use Rattle.std.proofs.Common.{inl, inr, ⊎_elim, arith}
use Rattle.base.specs.Bits.{Has}
use Rattle.base.specs.Words.{Iff}
use Rattle.base.proofs.Sets.{has_or_not}
use Rattle.labels.specs.Order.{Lawful, JoinPrime}
use Rattle.tables.specs.Table.{TableSize}
use Rattle.tables.specs.Rows.{matrix, Inside, Finished, entry, under}

module _ (n : ℕ) (rows : List ℕ) (meets joins : List (List ℕ)) (top primes : ℕ) (done : Finished (matrix n rows) meets joins top primes) where
  pub table_lawful : TableSize n → Lawful (matrix n rows)
  table_lawful size = record {
    some = size.0;
    small = omega arith;
    reflexive = done.ordered.reflexive;
    antisymmetric = done.ordered.antisymmetric;
    transitive = done.ordered.transitive;
    meets = λ a b la lb. (entry meets a b, done.meet a b la lb);
    joins = λ a b la lb. (entry joins a b, done.join a b la lb);
    top = (top, done.highest.1);
  }

  pub prime_iff : Inside n rows → (u : ℕ) → Iff (Has primes u) (JoinPrime (matrix n rows) u)
  prime_iff inside u = (to, from)
    where
      to : Has primes u → JoinPrime (matrix n rows) u
      to h =
          let (l, split) = (done.prime u).0 h in
          record {
            known = l;
            splits = λ a b j least below.
                let la = least.left.low in
                let lb = least.right.low in
                let join = done.join a b la lb in
                let under_join = done.ordered.transitive u j (entry joins a b) below (least.least (entry joins a b) join.left join.right) in
                elim (has_or_not (slice_index rows u) a)
                [ inl h' ↦ inl (under n rows inside u a h') | inr apart ↦ inr (split a b la lb under_join (λ x. apart x.order)) ];
          }

      from : JoinPrime (matrix n rows) u → Has primes u
      from prime =
          (done.prime u).1
          (prime.known, λ a b la lb below apart. ⊎_elim (λ x. absurd (apart x)) (λ x. x) (prime.splits a b (entry joins a b) (done.join a b la lb) below))
