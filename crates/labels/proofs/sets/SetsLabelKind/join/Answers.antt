use Rattle.labels.specs.Inclusion.{or_least}
use Rattle.labels.proofs.sets.SetsLabelKind.join.Goals as goal

pub returns-then-is_label-2 : goal.returns-then-is_label-2
returns-then-is_label-2 c = (or_least _ _ _, λ none. absurd (none (c.if-is_label.ensures.0 tt, c.if-is_label-2.ensures.0 tt)))
