use Rattle.engine.specs.declared.call.Call.TheVariants.{Supports, Publish}
use Rattle.engine.specs.declared.call.Answer.TheVariants.{Count}
use Rattle.engine.proofs.Histories.{makes_search, mapped}
use Rattle.engine.proofs.history.make.Goals as goal

pub returns-in-Supports : goal.returns-in-Supports
returns-in-Supports g c =
    let s = c.args.sheet.now in
    rw (c.in-Supports.is, mapped Count c.supports-count.result c.map-in-Supports.result c.map-in-Supports.ensures.cases)
    (makes_search g.K.LabelKind.meaning g.L.Logic.meaning s s (Supports c.in-Supports.goal) c.in-Supports.goal (λ b p w x d e h. h) c.args.places.now c.args.area.now
    c.supports-count.new.places c.supports-count.new.area c.in-Supports.most c.in-Supports.bytes c.min-p.result c.min-w.result c.min-p.ensures c.min-w.ensures
    c.supports-count.auto.places c.supports-count.auto.area _ c.supports-count.ensures.law c.supports-count.ensures.leaves)

pub returns-in-Publish : goal.returns-in-Publish
returns-in-Publish g c =
    let s = c.args.sheet.now in
    rw (c.in-Publish.is, mapped Count c.publish-count.result c.map-in-Publish.result c.map-in-Publish.ensures.cases)
    (makes_search g.K.LabelKind.meaning g.L.Logic.meaning s c.publish-count.new.self (Publish c.in-Publish.goal) c.in-Publish.goal (λ b p w x d e h. h) c.args.places.now c.args.area.now
    c.publish-count.new.places c.publish-count.new.area c.in-Publish.most c.in-Publish.bytes c.min-p-in-Publish.result c.min-w-in-Publish.result c.min-p-in-Publish.ensures c.min-w-in-Publish.ensures
    c.publish-count.auto.places c.publish-count.auto.area _ c.publish-count.ensures.law c.publish-count.ensures.leaves)
