use Rattle.labels.proofs.Orders.{means_itself}
use Rattle.labels.specs.Houses.{house_lawful}
use Rattle.labels.proofs.house.House.new.Goals as goal

pub returns : goal.returns
returns c = means_itself _ house_lawful
