use Rattle.std.proofs.Common.{◌∙◌, ◌≡◌, Bool, eqb, filter, eqb→eq, rules}
use Rattle.base.specs.Words.{In}
use Rattle.base.proofs.Tests.{eqb_iff, is_true, passed}
use Rattle.logics.specs.Entailed.{entails_source}
use Rattle.logics.specs.Marked.{each_more}
use Rattle.logics.specs.declared.Record.{Record}
use Rattle.logics.specs.Ticks.{tick_weaker}
use Rattle.logics.proofs.Canonical.{Pulled, source_drawn}
use Rattle.logics.proofs.Rounds.{round_more}
use Rattle.logics.proofs.Selections.{in_filter}
use Rattle.logics.proofs.Walks.{on_the_way, in_the_end}
use Rattle.logics.proofs.el.El.source.Goals as goal
use Rattle.logics.proofs.el.El.source.Goals.{In-Some}

three : Record → Bool
three r = eqb r.form 3

given : (c : In-Some) → In c.in-Some.partner c.args.axioms.now.all × (c.in-Some.partner.form ≡ 3)
unfolding three
given c =
    let all = c.args.axioms.now.all in
    let kept = (in_filter three _ all).0 (on_the_way {all = filter three all} c.loop-partner.yielded (c.into_iter-partner-iterator.ensures.into_iter_gives ∙ c.iter-partner-items.ensures ∙ c.args.axioms.now.of_form_3) c.loop-partner.yielded_by c.in-Some.ensures.steps) in
    (kept.0, eqb→eq _ _ (passed kept.1))

pub derive-changed-requires : goal.derive-changed-requires
derive-changed-requires c =
    let i = given (goal.at.derive-changed-requires c).In-Some in
    let r = (c.requires.ready.taken c.args.source c.requires.given).source c.requires.form in
    let p = (c.requires.ready.taken c.in-Some.partner i.0).partner i.1 in
    search rules

pub loop-partner-preserved-then-partner-source : goal.loop-partner-preserved-then-partner-source
loop-partner-preserved-then-partner-source c =
    let i = given (goal.at.loop-partner-preserved-then-partner-source c).In-Some in
    let r = c.args.source in
    let p = c.in-Some.partner in
    round_more (Pulled c.args.self.now.concepts c.args.x r) _ p _ _ c.loop-partner.invariant
    (tick_weaker (λ l settled _ _. settled) (c.derive-changed.ensures _ (entails_source _ r p c.args.x c.requires.given c.requires.form i.0 i.1 c.if-partner-source.true)))

pub loop-partner-preserved : goal.loop-partner-preserved
loop-partner-preserved c =
    tick_weaker (λ l old. each_more _ _ old (λ form role. absurd (c.if-partner-source.false role))) c.loop-partner.invariant

pub returns : goal.returns
unfolding three
returns c =
    let rs = c.args.axioms.now.all in
    let all = in_the_end {all = filter three rs} c.loop-partner.yielded (c.into_iter-partner-iterator.ensures.into_iter_gives ∙ c.iter-partner-items.ensures ∙ c.args.axioms.now.of_form_3) c.loop-partner.yielded_by c.in-None.ensures.steps.0 in
    tick_weaker (λ cells settled. source_drawn _ cells rs c.args.x c.args.source c.requires.form (λ p i form. settled p (rw all ((in_filter three p rs).1 (i, is_true _ ((eqb_iff _ _).1 form)))) form)) c.loop-partner.invariant
