use Rattle.std.proofs.Common.{◌^◌, ◌<◌, arith, ltb→lt, rules}
use Rattle.base.proofs.Sets.{has_below}
use Rattle.base.proofs.Tests.{both_fail}
use Rattle.base.proofs.contains.Goals as goal

pub returns-else-place-lt64 : goal.returns-else-place-lt64
returns-else-place-lt64 c =
    let small : c.args.set < 2 ^ 64 = search rules in
    both_fail (λ t. omega (arith, ltb→lt _ _ t)) (λ h. omega (arith, has_below 64 _ _ small h))
