use Rattle.std.proofs.Common.{T, sym, subst}
use Rattle.base.specs.Words.{Iff}
use Rattle.labels.specs.Order.{Under}
use Rattle.report.specs.Any.{any_kind}
use Rattle.report.specs.declared.any.AnyKind.{AnyKind}
use Rattle.report.proofs.any.AnyKindLabelKind.at_or_below.Goals as goal

pub returns-in-Chain : goal.returns-in-Chain
returns-in-Chain c = subst (λ (k : AnyKind). Iff (T c.at_or_below.result) (Under (any_kind k) c.args.a c.args.b)) (sym c.in-Chain.is) c.at_or_below.ensures

pub returns-in-House : goal.returns-in-House
returns-in-House c = subst (λ (k : AnyKind). Iff (T c.at_or_below-in-House.result) (Under (any_kind k) c.args.a c.args.b)) (sym c.in-House.is) c.at_or_below-in-House.ensures
