use Rattle.std.proofs.Common.{length, take, arith, rules}
use Rattle.std.proofs.lemmas.Result.{MatchResult-from_err, MatchResult-weaker}
use Rattle.supports.specs.Asked.{asked}
use Rattle.supports.proofs.Growing.{grown_joined, joined_many}
use Rattle.supports.proofs.Finding.{all_found, none_yet}
use Rattle.supports.proofs.question.Question.walk_all.Goals as goal

pub returns-in_err-known-clause-walked : goal.returns-in_err-known-clause-walked
returns-in_err-known-clause-walked g c =
    let q = asked g.L.Logic.meaning c.args.self.now in
    let (full, (more, joined, long)) = c.in_err-known.ensures.added in
    MatchResult-from_err _ _ _ c.from_residual.ensures.0
    (λ _. joined_many q (none_yet q) c.shrink-support.ensures.support joined (length c.args.places.now) (omega arith))

pub visit-requires-clause-known : goal.visit-requires-clause-known
visit-requires-clause-known g c =
    let q = asked g.L.Logic.meaning c.args.self.now in
    let (few, joined) = c.in_ok-known.ensures.added in
    record { few = omega (arith, few); supports = (grown_joined q (none_yet q) c.shrink-support.ensures.support joined).supports }

pub returns-clause-walked : goal.returns-clause-walked
returns-clause-walked g c =
    let q = asked g.L.Logic.meaning c.args.self.now in
    MatchResult-weaker c.visit.result c.visit.ensures.visited
    (λ n v. (omega (arith, v.0), all_found q (search rules) (take n c.visit.new.places) v.1.supports v.2)) (λ _ many. (many.0, many.1, omega (arith, many.2)))
