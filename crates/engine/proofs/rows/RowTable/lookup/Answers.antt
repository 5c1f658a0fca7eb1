use Rattle.std.proofs.Common.{◌<◌, List, length, get_or, None, Option, MatchOption, sym, subst, ◌∙◌, ℕ}
use Rattle.logics.specs.Entailment.{Goal}
use Rattle.ordered.specs.Lists.{Level}
use Rattle.engine.specs.declared.page.Row.{Row}
use Rattle.engine.specs.Rows.{ByGoal, NoRow}
use Rattle.engine.proofs.Rowing.{looked, row_found}
use Rattle.engine.proofs.rows.RowTable.lookup.Goals as goal

-- the row that is looked for
abbrev key : Goal → Row
key goal = record { goal = goal; boundary = None }

-- what a look for the row of a goal says
abbrev Says : List Row → Goal → Option ℕ → Type 0
Says rows g o = MatchOption o (NoRow rows g) (λ i. (i < length rows) × ((d : Row) → Level ByGoal (get_or rows i d) (key g)))

pub returns-in_err-place : goal.returns-in_err-place
returns-in_err-place c =
    let rows = c.rows-rows.result.now in
    let said = looked rows (key c.args.goal) _ c.place_of.ensures.found (c.place_of.ensures.gap (rw c.rows-rows.ensures.is c.rows-rows.ensures.ascending)) in
    rw (c.from_residual.ensures, sym c.rows-rows.ensures.is) (subst (Says rows c.args.goal) (sym c.ok.ensures.value ∙ c.in_err-place.was) said)

pub returns : goal.returns
returns c =
    let rows = c.rows-rows.result.now in
    let said = looked rows (key c.args.goal) _ c.place_of.ensures.found (c.place_of.ensures.gap (rw c.rows-rows.ensures.is c.rows-rows.ensures.ascending)) in
    let (within, level) = subst (Says rows c.args.goal) (sym c.ok.ensures.value ∙ c.in_ok-place.was) said in
    rw (sym c.rows-rows.ensures.is) (row_found rows c.in_ok-place.place (key c.args.goal) _ within level)
