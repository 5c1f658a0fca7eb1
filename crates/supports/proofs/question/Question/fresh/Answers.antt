use Rattle.std.proofs.Common.{ℕ, ◌-◌, ◌^◌, ◌<◌, length, refl, arith, rules}
use lib.Bits.{bit_and}
use Rattle.std.proofs.lemmas.Result.{MatchResult-from_err}
use Rattle.base.specs.Bits.{Has}
use Rattle.base.specs.Words.{Iff}
use Rattle.base.proofs.Sets.{has_minus}
use Rattle.supports.specs.Asked.{asked}
use Rattle.supports.proofs.Yielding.{no_blocks}
use Rattle.supports.proofs.Hitting.{done_blocked}
use Rattle.supports.proofs.Growing.{grown_joined, joined_in, joined_many}
use Rattle.supports.proofs.question.Question.fresh.Goals as goal

-- what is left of all axioms outside `out`
rest : (all out : ℕ) → all < 2 ^ 64 → out < 2 ^ 64 → (i : ℕ) → Iff (Has (bit_and all (18446744073709551615 - out)) i) (Has all i × (Has out i → ⊥))
rest all out a b i = has_minus 64 all out i a b

pub yields-requires-clause-inside : goal.yields-requires-clause-inside
yields-requires-clause-inside g c = λ i h. ((rest c.args.self.now.all c.args.out (search rules) (search rules) i).0 h).0

pub shrink-support-requires-clause-inside : goal.shrink-support-requires-clause-inside
shrink-support-requires-clause-inside g c = λ i h. ((rest c.args.self.now.all c.args.out (search rules) (search rules) i).0 h).0

pub returns-then-not-yields-clause-next : goal.returns-then-not-yields-clause-next
returns-then-not-yields-clause-next g c =
    let q = asked g.L.Logic.meaning c.args.self.now in
    let blocks = no_blocks q (g.met.L.Logic.monotone c.args.self.now.logic.now) c.args.out _ (rest q.all c.args.out (search rules) (search rules)) c.if-not-yields.ensures.answer.1 in
    λ may. (refl, done_blocked q _ c.args.out may blocks)

pub returns-in_err-known-clause-next : goal.returns-in_err-known-clause-next
returns-in_err-known-clause-next g c =
    let q = asked g.L.Logic.meaning c.args.self.now in
    let (full, (more, joined, long)) = c.in_err-known.ensures.added in
    λ may.
    MatchResult-from_err _ _ _ c.from_residual.ensures.0
    (λ _. joined_many q c.requires.known.supports c.shrink-support.ensures.support joined (length c.args.places.now) (omega arith))

pub returns-clause-next : goal.returns-clause-next
returns-clause-next g c =
    let q = asked g.L.Logic.meaning c.args.self.now in
    let (few, joined) = c.in_ok-known.ensures.added in
    λ may.
    record {
      few = few;
      grown = grown_joined q c.requires.known.supports c.shrink-support.ensures.support joined;
      known = joined_in joined;
      apart = λ i h. ((rest q.all c.args.out (search rules) (search rules) i).0 (c.shrink-support.ensures.inside i h)).1;
    }
