use Rattle.labels.specs.declared.house.TheConstants.{JOINS}
use Rattle.labels.specs.Houses.{join_tested}
use Rattle.labels.proofs.house.HouseLabelKind.join.Goals as goal

pub returns : goal.returns
returns c = rw c.entry.ensures (join_tested JOINS tt _ _)
