use Rattle.std.proofs.Common.{ℕ, List, subst, rules}
use Rattle.std.proofs.lemmas.Fn.{fold_over, slice_gives, fronts}
use Rattle.supports.specs.declared.known.Look.{Look}
use Rattle.supports.specs.Search.{Looked}
use Rattle.supports.proofs.Looking.{looked_none, looked_more}
use Rattle.supports.proofs.known.look_over.Goals as goal

pub returns : goal.returns
returns c =
    let out = c.args.out in
    let Seen : List ℕ → Look → Type 0 = λ known look. Looked known out look.unhit look.sole in
    subst (λ known. Seen known c.fold.result) c.iter.ensures.rest
    (fold_over fronts (λ y. y.now) _ Seen _
    (λ known look x more f' seen called. search (rules, looked_more known x.now out look.unhit more.unhit look.sole more.sole)) _ _ _ _ (slice_gives c.iter.result)
    (rw (c.default.ensures.0, c.default.ensures.1) (looked_none out)) c.fold.ensures.ran)
