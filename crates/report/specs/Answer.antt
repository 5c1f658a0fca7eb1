-- What is written for a file: its print, or the line of its refusal.
use Rattle.std.specs.Prelude.{◌≡◌, ℕ, ◌<◌, ◌≤◌, ◌⊎◌, List, [], length}
use Rattle.report.specs.declared.fault.ReportFault.{ReportFault}
use Rattle.report.specs.Fault.{fault_line}
use Rattle.report.specs.Report.{PrintOf, Refused}

-- with p places, w bytes of work area and this much room in the output; a fault's line that finds no room is left out
abbrev pub Answers : ℕ → ℕ → ℕ → List ℕ → List ℕ → Type 0
Answers p w room file t =
    ((length file ≤ 16384) × PrintOf p w file t × (length t ≤ room)) ⊎ ((f : ReportFault) × Refused p w file room f × (length (fault_line f) ≤ room → t ≡ fault_line f) × (room < length (fault_line f) → t ≡ []))
