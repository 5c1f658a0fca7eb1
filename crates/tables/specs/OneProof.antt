-- Facts about an order in rows of bits have one proof at most, so a ghost field may hold them, and what is merely known of it serves anywhere.
use Rattle.std.specs.Prelude.{◌≡◌, ℕ, ◌<◌, List}
use Rattle.std.proofs.Math.Logic.{∥∥₁_elim}
use mathlib.Core.HLevel.{Π_prop, ×_prop}
use denote.Struct.Props.{props}
use Rattle.base.specs.Bits.{Has}
use Rattle.labels.specs.Order.{Label, Under, Greatest, Least, Top}
use Rattle.tables.specs.Rows.{matrix, Marked, PartialOrder, JoinTable, MeetTable, PrimeSet, Splits, Finished, entry}

module _ (n : ℕ) (rows : List ℕ) where
  under_one : (a b : ℕ) → IsProp (Under (matrix n rows) a b)
  under_one a b p q =
      let low : IsProp (a < n) = hlevel props in
      let high : IsProp (b < n) = hlevel props in
      let order : IsProp (Marked rows a b) = hlevel props in
      λ i. record { low = low p.low q.low i; high = high p.high q.high i; order = order p.order q.order i }

  pub order_one : IsProp (PartialOrder (matrix n rows))
  order_one p q =
      let reflexive : IsProp ((a : ℕ) → a < n → Under (matrix n rows) a a) = hlevel (props, under_one) in
      let antisymmetric : IsProp ((a b : ℕ) → Under (matrix n rows) a b → Under (matrix n rows) b a → a ≡ b) = hlevel props in
      let transitive : IsProp ((a b c : ℕ) → Under (matrix n rows) a b → Under (matrix n rows) b c → Under (matrix n rows) a c) =
      hlevel (props, under_one) in
      λ i. record {
        reflexive = reflexive p.reflexive q.reflexive i;
        antisymmetric = antisymmetric p.antisymmetric q.antisymmetric i;
        transitive = transitive p.transitive q.transitive i;
      }

  -- rows that are merely known to hold an order hold one
  pub ordered : ∥ PartialOrder (matrix n rows) ∥₁ → PartialOrder (matrix n rows)
  ordered t = ∥∥₁_elim t order_one (λ x. x)

  least_one : (a b j : ℕ) → IsProp (Least (matrix n rows) a b j)
  least_one a b j p q =
      let least : IsProp ((c : ℕ) → Under (matrix n rows) a c → Under (matrix n rows) b c → Under (matrix n rows) j c) = hlevel (props, under_one) in
      λ i. record {
        left = under_one a j p.left q.left i;
        right = under_one b j p.right q.right i;
        least = least p.least q.least i;
      }

  greatest_one : (a b m : ℕ) → IsProp (Greatest (matrix n rows) a b m)
  greatest_one a b m p q =
      let greatest : IsProp ((c : ℕ) → Under (matrix n rows) c a → Under (matrix n rows) c b → Under (matrix n rows) c m) = hlevel (props, under_one) in
      λ i. record {
        left = under_one m a p.left q.left i;
        right = under_one m b p.right q.right i;
        greatest = greatest p.greatest q.greatest i;
      }

  pub finished_one : (meets joins : List (List ℕ)) (top primes : ℕ) → IsProp (Finished (matrix n rows) meets joins top primes)
  finished_one meets joins top primes p q =
      let meet : IsProp (MeetTable (matrix n rows) meets) = hlevel (props, greatest_one) in
      let join : IsProp (JoinTable (matrix n rows) joins) = hlevel (props, least_one) in
      let highest : IsProp (Label (matrix n rows) top × Top (matrix n rows) top) = hlevel (props, under_one) in
      let small : (u : ℕ) → IsProp (u < n) = λ u. hlevel props in
      let has : (u : ℕ) → IsProp (Has primes u) = λ u. hlevel props in
      let split : (u : ℕ) → IsProp ((a b : ℕ) → a < n → b < n → Splits (matrix n rows) u a b (entry joins a b)) = λ u. hlevel (props, under_one) in
      let prime : IsProp (PrimeSet (matrix n rows) joins primes) =
      Π_prop (λ u. ×_prop (Π_prop (λ _. ×_prop (small u) (split u))) (Π_prop (λ _. has u))) in
      λ i. record {
        ordered = order_one p.ordered q.ordered i;
        meet = meet p.meet q.meet i;
        join = join p.join q.join i;
        highest = highest p.highest q.highest i;
        prime = prime p.prime q.prime i;
      }

  -- and what is merely known to be finished is finished
  pub complete : (meets joins : List (List ℕ)) (top primes : ℕ) → ∥ Finished (matrix n rows) meets joins top primes ∥₁ → Finished (matrix n rows) meets joins top primes
  complete meets joins top primes t = ∥∥₁_elim t (finished_one meets joins top primes) (λ x. x)
