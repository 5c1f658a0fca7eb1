use Rattle.std.proofs.Common.{◌≡◌, ◌^◌, ◌<◌, ◌∙◌, arith}
use Rattle.base.proofs.Sets.{subset_le}
use Rattle.supports.specs.Asked.{asked}
use Rattle.supports.proofs.Shrinking.{shrink_one, shrunk_support}
use Rattle.supports.proofs.question.Question.shrink.Goals as goal

pub loop-place-preserved : goal.loop-place-preserved
loop-place-preserved g c =
    let q = asked g.L.Logic.meaning c.args.self.now in
    let (same, shrunk) = c.loop-place.invariant in (
      c.drop_one-left.ensures.area ∙ same,
      shrink_one q (g.met.L.Logic.monotone c.args.self.now.logic.now) _ _ _ shrunk _ c.drop_one-left.ensures.dropped,
    )

pub returns-clause-support : goal.returns-clause-support
returns-clause-support g c =
    let q = asked g.L.Logic.meaning c.args.self.now in
    let (same, shrunk) = c.loop-place.invariant in
    let end : c.loop-place.place ≡ 64 = omega arith in
    let small : c.loop-place.left < 2 ^ 64 = omega (arith, subset_le _ _ shrunk.inside, c.ranges.set) in
    shrunk_support q (g.met.L.Logic.monotone c.args.self.now.logic.now) _ _ small c.requires.inside (rw end at shrunk)
