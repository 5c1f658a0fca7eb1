use Rattle.std.proofs.Common.{◌≡◌, ℕ, ◌^◌, ◌<◌, get_or, arith, rules}
use Rattle.base.proofs.Sets.{has_ones}
use Rattle.tables.specs.Rows.{SplitBits, entry}
use Rattle.tables.proofs.Splits.{split_mask, all_more}
use Rattle.tables.proofs.primes.prime_row.Goals as goal

pub loop-b-init : goal.loop-b-init
loop-b-init c = λ u. let ones = has_ones 32 u in (λ h. (ones.0 h, λ b l. absurd (omega arith)), λ p. ones.1 p.0)

pub loop-b-preserved : goal.loop-b-preserved
loop-b-preserved c = λ u.
    let down = c.args.down.now.rows in
    let a = c.args.a in
    let b = c.loop-b.b in
    let j = entry c.args.joins.now a b in
    let Q : ℕ → Type 0 = λ b. SplitBits down u a b (entry c.args.joins.now a b) in
    let small : get_or down j 0 < 2 ^ 32 = search rules in
    all_more (u < 32) Q c.loop-b.primes _ u b (c.loop-b.invariant u) (split_mask (get_or down j 0) (get_or down a 0) (get_or down b 0) u small)

pub returns : goal.returns
returns c = let last : c.loop-b.b ≡ c.args.down.now.labels = omega arith in rw last at c.loop-b.invariant
