use Rattle.std.proofs.Common.{arith}
use Rattle.supports.proofs.Looking.{glance_apart, glance_one, glance_many}
use Rattle.supports.proofs.known.Look.glance.Goals as goal

pub returns-then-both-eq0 : goal.returns-then-both-eq0
returns-then-both-eq0 c = glance_apart _ _ _ _ c.if-both-eq0.true

pub returns-then-both-le1 : goal.returns-then-both-le1
returns-then-both-le1 c = glance_one _ _ _ _ c.if-both-eq0.false

pub returns-else-both-le1 : goal.returns-else-both-le1
returns-else-both-le1 c = glance_many _ _ _ _ (λ few. omega (arith, few, c.if-both-le1.false)) c.if-both-eq0.false
