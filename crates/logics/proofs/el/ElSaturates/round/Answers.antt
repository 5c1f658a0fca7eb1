use Rattle.std.proofs.Common.{arith, subst}
use Rattle.logics.specs.Drawing.{AllDrawn}
use Rattle.logics.specs.Plan.{Tried}
use Rattle.logics.specs.Ticks.{tick_weaker}
use Rattle.logics.proofs.Canonical.{complete}
use Rattle.logics.proofs.Rounds.{rows_more}
use Rattle.logics.proofs.el.ElSaturates.round.Goals as goal

pub loop-x-preserved : goal.loop-x-preserved
loop-x-preserved c =
    let n = c.args.self.now.concepts in
    let row = subst (λ rs. Tried n rs (AllDrawn n rs c.loop-x.x) c.loop-x.area c.sweep-changed.new.area c.sweep-changed.result) c.new-axioms.ensures c.sweep-changed.ensures in
    rows_more (AllDrawn n c.args.given.now) c.loop-x.x _ _ c.loop-x.invariant row

pub returns : goal.returns
returns c =
    let n = c.args.self.now.concepts in
    λ g posed. tick_weaker (λ cells all begun. complete n cells c.args.given.now g posed.0 begun.0 begun.1 (λ y lt. all y (omega (arith, lt)))) c.loop-x.invariant
