-- Any bytes have one report.
use Rattle.std.specs.Prelude.{◌≡◌, ℕ, List, length, Result}
use Rattle.report.specs.declared.fault.ReportFault.{ReportFault}
use Rattle.report.specs.Report.{Reported}

-- two reports of a file, with as many places, bytes and room, are the same answer and leave the same output
abbrev pub OneOutcome : List ℕ → ℕ → ℕ → ℕ → Type 0
OneOutcome file p w room =
    (r r' : Result ℕ ReportFault) (places places' area area' out out' : List ℕ) → length out ≡ length out'
    → Reported file p w room r places area out → Reported file p w room r' places' area' out' → (r ≡ r') × (out ≡ out')
