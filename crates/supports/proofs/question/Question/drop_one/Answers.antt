use Rattle.base.proofs.Sets.{has_without}
use Rattle.supports.proofs.question.Question.drop_one.Goals as goal

pub yields-requires-clause-inside : goal.yields-requires-clause-inside
yields-requires-clause-inside g c =
    let here = c.if-contains.ensures.0 tt in
    λ i h. c.requires.inside i ((has_without _ _ i here).0 (rw (c.without_place-less.ensures.there here) at h)).0
