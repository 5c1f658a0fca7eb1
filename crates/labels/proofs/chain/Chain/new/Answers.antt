use Rattle.std.proofs.Common.{arith}
use Rattle.labels.proofs.Orders.{means_itself}
use Rattle.labels.specs.Chains.{chain_lawful}
use Rattle.labels.proofs.chain.Chain.new.Goals as goal

pub returns : goal.returns
returns c = (omega arith, means_itself _ (chain_lawful _ (omega arith)))
