-- The order of rows by their goals, and a row among those of the table.
use Rattle.std.specs.Result.{result_ok}
use Rattle.std.proofs.Common.{ap, length-take, Ok, Err, Result, IfErr, MatchResult, MatchOption, ◌≡◌, ℕ, ◌+◌, ◌<◌, ◌≤◌, ◌⊎◌, List, length, get_or, take, subst, inl, inr, ⊎_elim, arith, length-take-le}
use native.Mathlib.Decide.{dec_lt}
use Rattle.base.specs.Words.{In}
use Rattle.logics.specs.Entailment.{Goal}
use Rattle.ordered.specs.Lists.{Ascending, Level, Gap, opened}
use Rattle.ordered.proofs.Lists.{get_or_in}
use Rattle.ordered.proofs.Places.{gap_apart, in_opened, ascending_opened, length_opened}
use Rattle.engine.specs.declared.page.Row.{Row}
use Rattle.engine.specs.Law.{Smaller}
use Rattle.engine.specs.GoalOrder.{smaller_irreflexive, smaller_total, row_ranking}
use Rattle.engine.specs.Rows.{ByGoal, HasRow, NoRow, OneMore}

-- two rows that are level have one goal
pub level_goal : (r s : Row) → Level ByGoal r s → r.goal ≡ s.goal
level_goal r s level =
    ⊎_elim (λ e. e) (⊎_elim (λ b. absurd (level.0 b)) (λ b. absurd (level.1 b))) (smaller_total r.goal s.goal)

-- where a row has a gap, none has its goal
pub gap_goal : (rows : List Row) (r : Row) (p : ℕ) → p ≤ length rows → Gap ByGoal rows r p → NoRow rows r.goal
gap_goal rows r p within gap x there e =
    let P : Goal → Type 0 = λ g. Smaller g r.goal ⊎ Smaller r.goal g in
    ⊎_elim (smaller_irreflexive r.goal) (smaller_irreflexive r.goal) (subst P e (gap_apart ByGoal rows r p within gap x there))

-- the row that is read where one is level with a row
pub row_found : (rows : List Row) (place : ℕ) (key d : Row) → place < length rows → ((e : Row) → Level ByGoal (get_or rows place e) key)
    → In {A = Row} (record { goal = key.goal; boundary = (get_or rows place d).boundary }) rows
row_found rows place key d within level =
    let row = get_or rows place d in
    subst (λ (g : Goal). In {A = Row} (record { goal = g; boundary = row.boundary }) rows) (level_goal row key (level d)) (get_or_in rows place d within)

-- an entry that is level with a row is of its goal
pub level_there : (rows : List Row) (r : Row) (i : ℕ) → i < length rows → ((d : Row) → Level ByGoal (get_or rows i d) r) → HasRow rows r.goal
level_there rows r i within level = (get_or rows i r, get_or_in rows i r within, level_goal (get_or rows i r) r (level r))

-- a row put into its gap
pub row_put : (rows : List Row) (count place : ℕ) (row : Row) → count < length rows → place ≤ count → Ascending ByGoal (take count rows)
    → Gap ByGoal (take count rows) row place → OneMore (take count rows) row (take (count + 1) (opened rows count place row))
row_put rows count place row room used up gap =
    let old : length (take count rows) ≡ count = length-take-le count rows (omega arith) in
    let long = length_opened rows count place row room used in
    let new : length (take (count + 1) (opened rows count place row)) ≡ count + 1 = length-take-le (count + 1) (opened rows count place row) (omega arith) in
    record {
      among = in_opened rows count place row room used;
      ascending = ascending_opened rows count place row room used row_ranking up gap;
      length = omega arith;
    }

-- what the search for a goal's place among ascending rows says of the rows
pub looked : (rows : List Row) (r : Row) (o : Result ℕ ℕ) → MatchResult o (λ i. (i < length rows) × ((d : Row) → Level ByGoal (get_or rows i d) r)) (λ p. p ≤ length rows)
    → IfErr o (Gap ByGoal rows r) → MatchOption (result_ok o) (NoRow rows r.goal) (λ i. (i < length rows) × ((d : Row) → Level ByGoal (get_or rows i d) r))
looked rows r (Ok i) found gap = found
looked rows r (Err p) found gap = gap_goal rows r p found gap

-- where rows have room for a row, and none is of its goal, fewer than 64 are in use
pub room_left : (rows now : List Row) (count : ℕ) (g : Goal) → take count rows ≡ now → length rows ≡ 64 → (length now < 64) ⊎ HasRow now g → NoRow now g → count < 64
room_left rows now count g is long (inl few) none = elim (dec_lt count 64) [ yes lt ↦ lt | no ge ↦ absurd (omega (arith, length-take count rows, ap length is)) ]
room_left rows now count g is long (inr (r, there, e)) none = absurd (none r there e)
