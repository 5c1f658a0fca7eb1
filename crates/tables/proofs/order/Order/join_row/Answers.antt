use Rattle.std.proofs.Common.{◌≡◌, ◌<◌, ◌≢◌, ◌-◌, ℕ, length, replicate, drop, ◌∙◌, sym, arith, get_or-set_same, get_or-set_other, below_more}
use Rattle.std.proofs.Common.{take, length-take-le, rules}
use Rattle.tables.proofs.Joins.{row_whole}
use Rattle.tables.proofs.order.Order.join_row.Goals as goal

pub loop-b-preserved : goal.loop-b-preserved
loop-b-preserved c =
    let b = c.loop-b.b in
    let within : b < length c.loop-b.join-items = omega arith in
    below_more _ _ (λ k l. let other : k ≢ b = omega arith in rw get_or-set_other (c.loop-b.invariant k l)) (rw get_or-set_same c.in_ok-join.ensures)

pub returns : goal.returns
returns c =
    let n = c.args.self.now.labels in
    let front : length (take n (replicate 32 0)) ≡ n = length-take-le n (replicate 32 0) (omega (arith, c.args.self.now.sized.1)) in
    let long : length c.loop-b.join-items ≡ n = c.loop-b.auto.join-items ∙ front in
    row_whole _ _ _ c.loop-b.join-items long (λ b l. c.loop-b.invariant b (omega (arith, long, c.loop-b-test.false)))
