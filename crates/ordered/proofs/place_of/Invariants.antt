use Rattle.std.proofs.Common.{◌-◌, ◌≤◌, length}
use Rattle.ordered.specs.Lists.{Ascending, FirstOnes, LaterOnes}
use Rattle.ordered.proofs.place_of.Given as goal

abbrev pub invariant-loop-low : goal.invariant-loop-low
invariant-loop-low g l =
    let R = g.E.Ranked.before in
    (l.low ≤ l.high) × (l.high ≤ length l.list)
    × (Ascending R l.list → FirstOnes R l.list l.x l.low × LaterOnes R l.list l.x l.high)

abbrev pub decreases-loop-low : goal.decreases-loop-low
decreases-loop-low g l = l.high - l.low
