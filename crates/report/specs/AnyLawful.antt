-- Each of the four kinds keeps the laws.
use Rattle.labels.specs.Order.{Lawful}
use Rattle.labels.specs.Chains.{chain_lawful}
use Rattle.labels.specs.Inclusion.{sets_lawful}
use Rattle.labels.specs.Houses.{house_lawful}
use Rattle.tables.specs.Laws.{table_lawful}
use Rattle.report.specs.declared.any.AnyKind.{AnyKind}
use Rattle.report.specs.declared.any.AnyKind.TheVariants.{Chain, Sets, House, Table}
use Rattle.report.specs.Any.{any_kind}

pub any_lawful : (k : AnyKind) → Lawful (any_kind k)
any_lawful (Chain k) = chain_lawful k.labels k.ok
any_lawful (Sets k) = sets_lawful k.regions k.ok
any_lawful (House k) = house_lawful
any_lawful (Table t) = table_lawful _ _ _ _ _ _ t.finished t.order.sized
