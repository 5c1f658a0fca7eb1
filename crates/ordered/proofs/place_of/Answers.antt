use Rattle.std.proofs.Common.{◌+◌, ◌-◌, ◌/◌, ◌<◌, length, arith}
use Rattle.ordered.proofs.Places.{all_first, all_later}
use Rattle.ordered.proofs.place_of.Goals as goal

pub loop-low-preserved-in-Less : goal.loop-low-preserved-in-Less
loop-low-preserved-in-Less g c =
    let middle = c.loop-low.low + (c.loop-low.high - c.loop-low.low) / 2 in
    let within : middle < length c.args.list.now = omega arith in
    let here = c.index-list-middle in (
      omega arith,
      omega arith,
      λ up. (
        all_first g.met.E.Ranked.ranking c.args.list.now up c.args.x middle here.result within here.is c.in-Less.ensures,
        (c.loop-low.invariant.2 up).1,
      ),
    )

pub loop-low-preserved : goal.loop-low-preserved
loop-low-preserved g c =
    let middle = c.loop-low.low + (c.loop-low.high - c.loop-low.low) / 2 in
    let within : middle < length c.args.list.now = omega arith in
    let here = c.index-list-middle in (
      omega arith,
      omega arith,
      λ up. (
        (c.loop-low.invariant.2 up).0,
        all_later g.met.E.Ranked.ranking c.args.list.now up c.args.x middle here.result within here.is c.in-Greater.ensures,
      ),
    )
