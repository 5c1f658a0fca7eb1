use Rattle.std.proofs.Common.{◌≡◌, take}
use Rattle.engine.specs.Pages.{records_of}
use Rattle.engine.proofs.table.AxiomTable.records.Given as goal

abbrev pub invariant-loop-page : goal.invariant-loop-page
invariant-loop-page l = l.records.items ≡ records_of (take l.page-index l.self)
