use Rattle.std.proofs.lemmas.Result.{err_from_is_err_and}
use Rattle.tables.proofs.Finishing.{keeps_same, lacks_join, lacks_meet, no_meet, made, some_top, finished_above}
use Rattle.tables.proofs.builder.TableBuilder.finish.Goals as goal

pub returns-in_err-joins : goal.returns-in_err-joins
returns-in_err-joins c = λ pairs keeps.
    let order = c.args.self.order in
    let p = err_from_is_err_and c.from_residual.result c.from_residual.ensures.1 in
    rw (p.1, p.2) (c.in_err-joins.ensures.0, lacks_join _ _ pairs (keeps_same _ _ pairs order.inside keeps) c.in_err-joins.ensures.1)

pub returns-in_err-meets : goal.returns-in_err-meets
returns-in_err-meets c = λ pairs keeps.
    let order = c.args.self.order in
    let down = c.flipped-down.ensures in
    let p = err_from_is_err_and c.from_residual-in_err-meets.result c.from_residual-in_err-meets.ensures.1 in
    let lacks = no_meet _ _ order.inside order.ordered _ _ down.labels down.flipped c.in_err-meets.ensures.1 in
    rw (p.1, p.2) (c.in_err-meets.ensures.0, lacks_meet _ _ pairs (keeps_same _ _ pairs order.inside keeps) lacks)

pub unwrap-top-requires : goal.unwrap-top-requires
unwrap-top-requires c =
    let order = c.args.self.order in
    let down = c.flipped-down.ensures in
    some_top _ _ order.inside order.ordered _ _ down.labels down.flipped _ c.in_ok-joins.ensures.0 order.sized.0 _ c.lowest.ensures

pub invariant_of-result : goal.invariant_of-result
invariant_of-result c =
    let order = c.args.self.order in
    let down = c.flipped-down.ensures in
    record {
      finished = finished_above _ _ order.inside order.ordered _ _ down.labels down.flipped _ _ c.in_ok-meets.ensures.0 c.in_ok-joins.ensures.0 order.sized.0 _ c.lowest.ensures _ c.unwrap-top.ensures _ c.prime_set-primes.ensures;
      beyond = (rw down.labels at c.in_ok-meets.ensures.1, c.in_ok-joins.ensures.1);
    }

pub returns : goal.returns
returns c = λ pairs keeps.
    let order = c.args.self.order in
    let down = c.flipped-down.ensures in
    let done =
    finished_above _ _ order.inside order.ordered _ _ down.labels down.flipped _ _ c.in_ok-meets.ensures.0 c.in_ok-joins.ensures.0 order.sized.0 _ c.lowest.ensures _ c.unwrap-top.ensures _ c.prime_set-primes.ensures in
    made _ _ _ _ _ _ done pairs order.sized order.inside keeps
