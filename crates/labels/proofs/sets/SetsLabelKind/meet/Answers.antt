use Rattle.labels.specs.Inclusion.{and_greatest}
use Rattle.labels.proofs.sets.SetsLabelKind.meet.Goals as goal

pub returns-then-is_label-2 : goal.returns-then-is_label-2
returns-then-is_label-2 c = (and_greatest _ _ _, λ none. absurd (none (c.if-is_label.ensures.0 tt, c.if-is_label-2.ensures.0 tt)))
