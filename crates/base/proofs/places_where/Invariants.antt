use Rattle.std.specs.Fn.{FnReturnsAt}
use Rattle.base.proofs.Places.{AnsweredBelow}
use Rattle.base.proofs.places_where.Given as goal

abbrev pub invariant-loop-place : goal.invariant-loop-place
invariant-loop-place g l = AnsweredBelow (FnReturnsAt g.F.Fn l.test) l.things l.place l.places
