use Rattle.labels.specs.declared.house.TheConstants.{MEETS}
use Rattle.labels.specs.Houses.{meet_tested}
use Rattle.labels.proofs.house.HouseLabelKind.meet.Goals as goal

pub returns : goal.returns
returns c = rw c.entry.ensures (meet_tested MEETS tt _ _)
