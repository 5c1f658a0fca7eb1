use Rattle.std.proofs.Common.{rules}
use Rattle.base.proofs.Sets.{has_below}
use Rattle.base.proofs.without_place.Goals as goal

pub overflow_shl-result : goal.overflow_shl-result
overflow_shl-result c = has_below 64 c.args.set c.args.place (search rules) (c.if-contains.ensures.0 tt)
