use Rattle.std.proofs.Common.{◌≡◌, ◌<◌, ◌≢◌, length, ◌∙◌, arith, length-set, get_or-set_same, get_or-set_other, below_more}
use Rattle.std.proofs.Common.{take, length-take-le, rules}
use Rattle.tables.proofs.Joins.{table_whole}
use Rattle.tables.proofs.order.Order.joins.Goals as goal

pub loop-a-init : goal.loop-a-init
loop-a-init c = record { long = search rules; joined = λ a l. absurd (omega arith) }

pub loop-a-preserved : goal.loop-a-preserved
loop-a-preserved c =
    let a = c.loop-a.a in
    let within : a < length c.loop-a.row-items = omega arith in
    record {
      long = length-set c.loop-a.row-items a _ ∙ c.loop-a.invariant.long;
      joined = below_more _ _ (λ k l. let other : k ≢ a = omega arith in rw get_or-set_other (c.loop-a.invariant.joined k l)) (rw get_or-set_same c.in_ok-row.ensures);
    }

pub returns : goal.returns
returns c = table_whole _ _ c.loop-a.row-items c.loop-a.invariant.long (λ a l. c.loop-a.invariant.joined a (omega arith))
