use Rattle.std.proofs.Common.{◌≡◌, ◌≤◌, length, take}
use Rattle.supports.specs.Asked.{asked}
use Rattle.supports.specs.Search.{Grown, Branches}
use Rattle.supports.proofs.Hitting.{Allowed}
use Rattle.supports.proofs.question.Question.+visit.Given as goal

abbrev pub decreases-visit : goal.decreases-visit
decreases-visit g l = l.may

-- the branches before x are done, with the supports that they found
abbrev pub invariant-loop-x : goal.invariant-loop-x
invariant-loop-x g l =
    let q = asked g.L.Logic.meaning l.self in
    record {
      area : l.area ≡ l.initial.area;
      few : l.known ≤ length l.places;
      grown : Grown q (take l.initial.known l.initial.places) (take l.known l.places);
      branches : Branches q (take l.known l.places) l.out l.may l.support l.x;
      allowed : Allowed l.may l.support l.allowed l.x;
    }
