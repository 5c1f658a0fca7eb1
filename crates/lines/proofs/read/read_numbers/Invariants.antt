use Rattle.std.proofs.Common.{◌≤◌, List, ℕ, length}
use Rattle.lines.specs.Reading.{Parted}
use Rattle.lines.proofs.NumbersRead.{SoFar}
use Rattle.lines.proofs.read.read_numbers.Given as goal

-- the fields so far are read
abbrev pub invariant-loop-number : goal.invariant-loop-number
invariant-loop-number l = (parts : List (List ℕ)) → Parted l.fields parts → length parts ≤ 4 → SoFar parts l.rest l.number-index l.number-items
