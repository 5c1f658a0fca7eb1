-- The buffers keep their lengths, and each case takes bytes from what is left.
use Rattle.std.proofs.Common.{◌≡◌, length}
use Rattle.sheet_cases.proofs.print_cases.Given as goal

abbrev pub invariant-loop-rest : goal.invariant-loop-rest
invariant-loop-rest g l = (length l.places ≡ 1024) × (length l.area ≡ 16384) × (length l.output ≡ 65536)

abbrev pub decreases-loop-rest : goal.decreases-loop-rest
decreases-loop-rest g l = length l.rest
