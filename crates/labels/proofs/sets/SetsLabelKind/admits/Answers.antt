use lib.Count.{ones}
use Rattle.base.proofs.Ones.{ones_iff}
use Rattle.base.proofs.Tests.{leb_iff, iff_trans}
use Rattle.labels.specs.Inclusion.{single_prime, prime_single}
use Rattle.labels.proofs.sets.SetsLabelKind.admits.Goals as goal

pub returns-then-is_label : goal.returns-then-is_label
returns-then-is_label c =
    let label = c.if-is_label.ensures.0 tt in
    let test = iff_trans (leb_iff (ones c.args.user) 1) (ones_iff c.args.user) in
    record {
      prime = (λ t. single_prime _ _ label (test.0 t), λ prime. test.1 (prime_single _ _ prime));
      which = (λ t. (label, test.0 t), λ p. test.1 p.1);
    }
