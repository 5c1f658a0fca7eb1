use Rattle.std.proofs.Common.{ℕ, T, sym, refl, List, None, Some, Option, MatchOption, inr, arith, length-take-le}
use Rattle.std.specs.Option.{is_some}
use Rattle.base.specs.Words.{In}
use Rattle.logics.specs.Entailment.{Goal}
use Rattle.engine.specs.declared.page.Row.{Row}
use Rattle.engine.specs.Rows.{HasRow, NoRow}
use Rattle.engine.proofs.rows.RowTable.has_room.Goals as goal

-- whether a row of the goal was found says whether there is one
found_there : (rows : List Row) (g : Goal) (o : Option (Option ℕ)) → MatchOption o (NoRow rows g) (λ v. In {A = Row} (record { goal = g; boundary = v }) rows)
    → (T (is_some o) → HasRow rows g) × ((T (is_some o) → ⊥) → NoRow rows g)
found_there rows g None none = (λ t. absurd t, λ _. none)
found_there rows g (Some v) there = (λ _. (record { goal = g; boundary = v }, there, refl), λ no. absurd (no tt))

pub returns-else-self-lt64-clause-room : goal.returns-else-self-lt64-clause-room
returns-else-self-lt64-clause-room c =
    rw c.is_some.ensures (λ t. inr ((found_there _ c.args.goal c.lookup.result c.lookup.ensures).0 t))

pub returns-else-self-lt64-clause-full : goal.returns-else-self-lt64-clause-full
returns-else-self-lt64-clause-full c =
    let self = c.self.inside in
    let few = c.self.invariant.few in
    let long = c.self.invariant.long in
    rw c.is_some.ensures (λ no. (rw (sym c.self.view_is) (omega (arith, length-take-le self.count self.rows (omega arith), c.if-self-lt64.false)), (found_there _ c.args.goal c.lookup.result c.lookup.ensures).1 no))
