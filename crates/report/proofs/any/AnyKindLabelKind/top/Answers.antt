use Rattle.std.proofs.Common.{sym, subst}
use Rattle.labels.specs.Order.{Top}
use Rattle.report.specs.Any.{any_kind}
use Rattle.report.specs.declared.any.AnyKind.{AnyKind}
use Rattle.report.proofs.any.AnyKindLabelKind.top.Goals as goal

pub returns-in-Chain : goal.returns-in-Chain
returns-in-Chain c = subst (λ (k : AnyKind). Top (any_kind k) c.top.result) (sym c.in-Chain.is) c.top.ensures

pub returns-in-Sets : goal.returns-in-Sets
returns-in-Sets c = subst (λ (k : AnyKind). Top (any_kind k) c.top-in-Sets.result) (sym c.in-Sets.is) c.top-in-Sets.ensures

pub returns-in-House : goal.returns-in-House
returns-in-House c = subst (λ (k : AnyKind). Top (any_kind k) c.top-in-House.result) (sym c.in-House.is) c.top-in-House.ensures
