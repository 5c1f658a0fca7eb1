use Rattle.std.proofs.Common.{◌∙◌}
use Rattle.logics.specs.Drawing.{DrawnAt}
use Rattle.logics.proofs.Rounds.{round_more}
use Rattle.logics.proofs.Walks.{on_the_way}
use Rattle.logics.proofs.el.El.sweep.Goals as goal

pub settle-changed-requires-clause-given : goal.settle-changed-requires-clause-given
settle-changed-requires-clause-given c = on_the_way c.loop-axiom.yielded (c.into_iter-axiom-iterator.ensures.into_iter_gives ∙ c.iter-axiom-items.ensures) c.loop-axiom.yielded_by c.in-Some.ensures.steps

pub loop-axiom-preserved : goal.loop-axiom-preserved
loop-axiom-preserved c =
    round_more (DrawnAt c.args.self.now.concepts c.args.axioms.now.all c.args.x) _ _ _ _ c.loop-axiom.invariant c.settle-changed.ensures
