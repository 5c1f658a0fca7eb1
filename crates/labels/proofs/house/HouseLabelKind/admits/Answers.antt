use Rattle.std.proofs.Common.{◌%◌, inl, inr}
use Rattle.base.proofs.Tests.{eqb_iff, leb_iff, both_hold}
use Rattle.labels.specs.Houses.{part_prime, prime_part}
use Rattle.labels.proofs.house.HouseLabelKind.admits.Goals as goal

pub returns-then-user-eq0-clause-prime : goal.returns-then-user-eq0-clause-prime
returns-then-user-eq0-clause-prime c =
    let four = c.if-user-eq0.true in
    both_hold ((eqb_iff (c.args.user % 4) 0).1 four) (part_prime _ (c.if-is_label.ensures.0 tt) (inl four))

pub returns-else-user-eq0-clause-prime : goal.returns-else-user-eq0-clause-prime
returns-else-user-eq0-clause-prime c =
    let test = leb_iff c.args.user 2 in (
      λ t. part_prime _ (c.if-is_label.ensures.0 tt) (inr (test.0 t)),
      λ prime. test.1 (elim (prime_part _ prime) [ inl four ↦ absurd (c.if-user-eq0.false four) | inr few ↦ few ]),
    )
