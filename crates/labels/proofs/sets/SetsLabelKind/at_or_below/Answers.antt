use Rattle.std.proofs.Common.{arith, eqb→eq}
use lib.Bits.{bit_and, and_le_r}
use Rattle.base.proofs.Sets.{and_subset}
use Rattle.base.proofs.Tests.{eqb_iff, iff_trans}
use Rattle.labels.proofs.sets.SetsLabelKind.at_or_below.Goals as goal

pub returns-then-is_label : goal.returns-then-is_label
returns-then-is_label c =
    let a = c.args.a in
    let b = c.args.b in
    let label = c.if-is_label.ensures.0 tt in
    let test = iff_trans (eqb_iff (bit_and a b) a) (and_subset a b) in
    (λ t. record { low = omega (arith, and_le_r a b, eqb→eq (bit_and a b) a t); high = label; order = test.0 t }, λ under. test.1 under.order)
