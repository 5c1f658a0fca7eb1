use Rattle.std.proofs.Common.{refl, arith}
use Rattle.engine.proofs.Entering.{enter_full, enter_done}
use Rattle.engine.proofs.sheet.Sheet.enter.Goals as goal

pub returns-then-len-ge64 : goal.returns-then-len-ge64
returns-then-len-ge64 g c = enter_full _ _ c.args.self.now c.args.record c.args.label (omega (arith, c.len.ensures.is, c.if-len-ge64.true))

pub returns : goal.returns
returns g c =
    enter_done _ _ c.args.self.now c.args.record c.args.label (omega (arith, c.len.ensures.is, c.if-len-ge64.false)) c.in_ok-take_record.ensures c.in_ok-check_label.ensures
    _ refl refl c.enter.ensures c.clear.ensures c.len-2.result c.len-2.ensures.is
