use Rattle.std.proofs.Common.{◌≡◌, ℕ, ◌<◌, arith}
use Rattle.base.proofs.Sets.{has_ones}
use Rattle.tables.specs.Rows.{SplitBits, entry}
use Rattle.tables.proofs.Splits.{all_more}
use Rattle.tables.proofs.primes.prime_set.Goals as goal

pub loop-a-init : goal.loop-a-init
loop-a-init c = λ u.
    rw c.all-primes.ensures (let ones = has_ones c.args.down.now.labels u in (λ h. (ones.0 h, λ a l. absurd (omega arith)), λ p. ones.1 p.0))

pub loop-a-preserved : goal.loop-a-preserved
loop-a-preserved c = λ u.
    let down = c.args.down.now in
    let Q : ℕ → Type 0 = λ a. (b : ℕ) → b < down.labels → SplitBits down.rows u a b (entry c.args.joins.now a b) in
    all_more (u < down.labels) Q c.loop-a.primes _ u c.loop-a.a (c.loop-a.invariant u)
    (λ l. let row = c.prime_row-primes.ensures u in (λ h. (row.0 h).1, λ q. row.1 (omega arith, q)))

pub returns : goal.returns
returns c = λ u.
    let last : c.loop-a.a ≡ c.args.down.now.labels = omega arith in
    let all = rw last at (c.loop-a.invariant u) in
    (λ h. let (l, splits) = all.0 h in (l, λ a b la. splits a la b), λ p. all.1 (p.0, λ a la b. p.1 a b la))
