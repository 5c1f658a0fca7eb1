use Rattle.std.proofs.Common.{arith}
use Rattle.lines.proofs.NumbersRead.{so_far_more, so_far_all, in_todo}
use Rattle.lines.proofs.read.read_numbers.Goals as goal

pub returns-in_err-number : goal.returns-in_err-number
returns-in_err-number c = λ parts p few.
    let s = c.loop-number.invariant parts p few in
    let (others, is, _) = c.in-Some.ensures s.todo s.left in
    rw c.from_residual.ensures (c.in-Some.field.now, in_todo parts _ _ _ s _ others is, c.in_err-number.ensures)

pub loop-number-preserved : goal.loop-number-preserved
loop-number-preserved c = λ parts p few.
    let s = c.loop-number.invariant parts p few in
    let (others, is, rest) = c.in-Some.ensures s.todo s.left in
    let (read, small) = c.in_ok-number.ensures in
    so_far_more parts _ _ _ s _ others is _ small read (omega arith) _ rest

pub returns-after-loop-number : goal.returns-after-loop-number
returns-after-loop-number c = λ parts p few. so_far_all parts _ _ _ (c.loop-number.invariant parts p few) (omega arith)
