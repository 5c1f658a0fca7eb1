use Rattle.std.proofs.Common.{◌∙◌, rules, arith}
use Rattle.base.specs.Words.{In}
use Rattle.logics.specs.WorkArea.{Settled}
use Rattle.logics.specs.Ticks.{tick_weaker, infer_one}
use Rattle.logics.specs.Chains.{leads_on, reached}
use Rattle.logics.proofs.Rounds.{round_more}
use Rattle.logics.proofs.Walks.{on_the_way, in_the_end}
use Rattle.logics.proofs.links.LinksSaturates.round.Goals as goal
use Rattle.logics.proofs.links.LinksSaturates.round.Goals.{In-Some}

given : (c : In-Some) → In c.in-Some.link c.args.given.now
given c = on_the_way c.loop-link.yielded (c.into_iter-link-iterator.ensures.into_iter_gives ∙ c.iter-link-items.ensures) c.loop-link.yielded_by c.in-Some.ensures.steps

pub infer-changed-requires : goal.infer-changed-requires
infer-changed-requires c =
    let link = c.requires.taken _ (given (goal.at.infer-changed-requires c).In-Some) in
    search rules

pub loop-link-preserved : goal.loop-link-preserved
loop-link-preserved c =
    let r = c.in-Some.link in
    let i = given (goal.at.loop-link-preserved c).In-Some in
    let link = c.requires.taken r i in
    λ g. round_more (λ r. Settled r.a r.a r.b) _ r _ _ (c.loop-link.invariant g) (infer_one r.a r.a r.b _ _ _ link.to (omega arith) (λ all here _. leads_on _ r g.0 i link.form (all r.a link.from here)) c.infer-changed.ensures)

pub returns : goal.returns
returns c =
    let all = in_the_end c.loop-link.yielded (c.into_iter-link-iterator.ensures.into_iter_gives ∙ c.iter-link-items.ensures) c.loop-link.yielded_by c.in-None.ensures.steps.0 in
    λ g posed. tick_weaker (λ cells settled begun follows. reached cells (λ r i. settled r (rw all i)) g follows begun.0) (c.loop-link.invariant g)
