-- The refusals of the text layer, by number.
use Rattle.std.specs.Prelude.{ℕ}
use Rattle.lines.specs.declared.fault.TextFault.{TextFault}
use Rattle.lines.specs.declared.fault.TextFault.TheVariants.{Malformed, Misplaced, NotANumber, PrintTooLong, FileTooLong}

-- the number of each refusal
abbrev pub number : TextFault → ℕ
number Malformed = 1
number Misplaced = 2
number NotANumber = 3
number PrintTooLong = 19
number FileTooLong = 20
