use Rattle.labels.specs.Inclusion.{all_top}
use Rattle.labels.proofs.sets.SetsLabelKind.top.Goals as goal

pub returns : goal.returns
returns c = rw c.size.ensures (all_top _)
