use Rattle.std.proofs.Common.{rules, List, ℕ, subst, take_all}
use Rattle.engine.proofs.Boundaries.{JoinUpTo, Widened, join_all, join_widened}
use Rattle.engine.proofs.sheet.Sheet.boundary_of.Goals as goal

pub loop-support-preserved : goal.loop-support-preserved
loop-support-preserved g c = λ b keeps.
    let k = g.K.LabelKind.meaning c.args.self.now.kind in
    let widened : Widened k c.loop-support.bound c.meet_of-meet.result c.map_or.result = search rules in
    join_widened k (g.met.K.LabelKind.lawful c.args.self.now.kind) b c.args.supports.now c.loop-support.support-index _ c.loop-support-test.true
    (c.meet_of-meet.ensures b keeps) c.loop-support.bound c.map_or.result (c.loop-support.invariant b keeps) widened

pub returns : goal.returns
returns g c = λ b keeps goal all.
    let s = c.args.self.now in
    let k = g.K.LabelKind.meaning s.kind in
    let P : List ℕ → Type 0 = λ ss. JoinUpTo k b ss c.loop-support.bound in
    join_all k (g.L.Logic.meaning s.logic) b goal c.args.supports.now _ all (subst P (take_all _ _ c.loop-support-test.false) (c.loop-support.invariant b keeps))
