use Rattle.std.proofs.Common.{arith}
use Rattle.std.proofs.lemmas.Grind.{common_steps}
use Rattle.prints.specs.Print.{upto}
use Rattle.prints.proofs.Adding.{adds_none}
use Rattle.prints.proofs.Lines.{numbers_append, upto_more}
use Rattle.prints.proofs.Printer.axioms.Goals as goal
use Rattle.prints.proofs.Printer.axioms.Goals.{then-contains, else-contains}

pub loop-place-init : goal.loop-place-init
unfolding upto
loop-place-init c = adds_none

pub loop-place-preserved : goal.loop-place-preserved
loop-place-preserved c =
    elim c.if-contains.branch [
      | then-contains w ↦ grind (arith, common_steps, numbers_append, upto_more)
      | else-contains w ↦ grind (arith, common_steps, numbers_append, upto_more)
    ]
