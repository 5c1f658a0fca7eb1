-- What the kind and the logic of a file mean.
use Rattle.labels.specs.Order.{LabelOrder}
use Rattle.labels.specs.Chain.{chain}
use Rattle.labels.specs.Sets.{sets}
use Rattle.labels.specs.House.{house}
use Rattle.tables.specs.Rows.{matrix}
use Rattle.logics.specs.Entailment.{Entailment}
use Rattle.logics.specs.El.{el}
use Rattle.logics.specs.Links.{links}
use Rattle.report.specs.declared.any.AnyKind.{AnyKind}
use Rattle.report.specs.declared.any.AnyKind.TheVariants.{Chain, Sets, House, Table}
use Rattle.report.specs.declared.any.AnyLogic.{AnyLogic}
use Rattle.report.specs.declared.any.AnyLogic.TheVariants.{El, Links}

-- the order of a kind
abbrev pub any_kind : AnyKind → LabelOrder
any_kind (Chain k) = chain k.labels
any_kind (Sets k) = sets k.regions
any_kind (House k) = house
any_kind (Table k) = matrix k.order.labels k.order.rows

-- the meaning of a logic
abbrev pub any_logic : AnyLogic → Entailment
any_logic (El l) = el l.concepts l.roles
any_logic (Links l) = links l.points
