use Rattle.engine.proofs.Supporting.{supports_found}
use Rattle.engine.proofs.sheet.Sheet.supports.Goals as goal

pub returns-clause-law : goal.returns-clause-law
returns-clause-law g c = supports_found _ _ c.args.self.now c.args.goal _ _ c.in_ok-take_goal.ensures c.search.result c.search.ensures.found
