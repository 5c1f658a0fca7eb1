use Rattle.std.proofs.Common.{refl}
use Rattle.std.proofs.lemmas.Result.{err_from_is_err_and}
use Rattle.engine.proofs.Publishing.{publish_full, publish_lacks, publish_done, front_supports}
use Rattle.engine.proofs.sheet.Sheet.publish.Goals as goal

pub returns-then-not-has_room-clause-law : goal.returns-then-not-has_room-clause-law
returns-then-not-has_room-clause-law g c =
    let (many, none) = c.if-not-has_room.ensures.full (λ t. t) in
    publish_full _ _ c.args.self.now c.args.goal _ _ c.in_ok-take_goal.ensures many none

pub returns-in_err-count-clause-law : goal.returns-in_err-count-clause-law
returns-in_err-count-clause-law g c =
    let p = err_from_is_err_and c.from_residual-in_err-count.result c.from_residual-in_err-count.ensures.1 in
    rw (p.1, p.2)
    (publish_lacks _ _ c.args.self.now c.args.goal _ _ c.in_ok-take_goal.ensures (c.if-not-has_room.ensures.room tt) c.in_err-count.field-0.0 c.in_err-count.ensures.found)

pub returns-clause-law : goal.returns-clause-law
returns-clause-law g c =
    let s = c.args.self.now in
    publish_done _ _ s c.args.goal _ _ c.in_ok-take_goal.ensures (c.if-not-has_room.ensures.room tt) c.in_ok-count.count c.in_ok-count.ensures.found
    c.boundary_of-boundary.result
    (λ b keeps. c.boundary_of-boundary.ensures b keeps c.args.goal (front_supports (g.L.Logic.meaning s.logic) b c.args.goal c.in_ok-count.count _ _ (c.in_ok-count.ensures.found b keeps).1 (c.in_ok-count.ensures.leaves b keeps).0))
    _ refl refl refl c.put.ensures
