use Rattle.std.proofs.Common.{◌^◌, ◌<◌, inl, inr, rules}
use Rattle.ordered.specs.SetsLemmas.{first_differs, before_total}
use Rattle.ordered.proofs.U64Ranked.rank.Goals as goal

pub returns-then-contains : goal.returns-then-contains
returns-then-contains c =
    let small : c.args.self < 2 ^ 64 = search rules in
    (first_differs 64 c.args.self c.args.other small).0 (c.if-contains.ensures.0 tt)

pub returns-else-contains : goal.returns-else-contains
returns-else-contains c =
    let small : c.args.self < 2 ^ 64 = search rules in
    elim (before_total c.args.self c.args.other) [
      | inl e ↦ absurd (c.if-self-other.false e)
      | inr (inl b) ↦ absurd (c.if-contains.ensures.1 ((first_differs 64 c.args.self c.args.other small).1 b))
      | inr (inr b) ↦ b
    ]
