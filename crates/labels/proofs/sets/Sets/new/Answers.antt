use Rattle.std.proofs.Common.{arith}
use Rattle.labels.proofs.Orders.{means_itself}
use Rattle.labels.specs.Inclusion.{sets_lawful}
use Rattle.labels.proofs.sets.Sets.new.Goals as goal

pub returns : goal.returns
returns c = (omega arith, means_itself _ (sets_lawful _ (omega arith)))
