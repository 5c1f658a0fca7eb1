-- Rows of the published goals, in the order of their goals.
use Rattle.std.specs.Prelude.{◌≡◌, ℕ, ◌+◌, ◌≤◌, ◌⊎◌, List, length, take, ◌≢◌}
use Rattle.base.specs.Words.{Iff, In}
use Rattle.logics.specs.Entailment.{Goal}
use Rattle.ordered.specs.Lists.{Ascending}
use Rattle.engine.specs.declared.page.Row.{Row}
use Rattle.engine.specs.Law.{Smaller}

-- a row comes before another by its goal
abbrev pub ByGoal : Row → Row → Type 0
ByGoal r s = Smaller r.goal s.goal

-- room for 64 rows, of which the first are in use, ascending by goal
pub record InUse (rows : List Row) (count : ℕ) : Type 0 where
  pub few : count ≤ 64
  pub long : length rows ≡ 64
  pub ascending : Ascending ByGoal (take count rows)

-- some row is of the goal
abbrev pub HasRow : List Row → Goal → Type 0
HasRow rows g = (r : Row) × In r rows × (r.goal ≡ g)

-- no row is of the goal
abbrev pub NoRow : List Row → Goal → Type 0
NoRow rows g = (r : Row) → In r rows → r.goal ≢ g

-- the rows with one more
pub record OneMore (rows : List Row) (row : Row) (rows' : List Row) : Type 0 where
  pub among : (r : Row) → Iff (In r rows') ((r ≡ row) ⊎ In r rows)
  pub ascending : Ascending ByGoal rows'
  pub length : length rows' ≡ length rows + 1

-- the rows with a row for its goal: as they were where one is there, else with one more
abbrev pub Put : List Row → Row → List Row → Type 0
Put rows row rows' = (HasRow rows row.goal × (rows' ≡ rows)) ⊎ (NoRow rows row.goal × OneMore rows row rows')
