use Rattle.std.proofs.Common.{Ok, Err, Result, IsOk, OnOk, ◌≡◌, ℕ, ◌+◌, ◌<◌, ◌≤◌, List, length, take, sym, refl, ◌∙◌, subst, ap, inl, inr, arith, length-take-le}
use Rattle.ordered.specs.Lists.{Gap, opened}
use Rattle.ordered.proofs.Places.{length_opened}
use Rattle.engine.specs.declared.page.Row.{Row}
use Rattle.engine.specs.Rows.{ByGoal, NoRow, OneMore}
use Rattle.engine.proofs.Rowing.{level_there, gap_goal, room_left, row_put}
use Rattle.engine.proofs.rows.RowTable.put.Goals as goal

pub returns-in_default : goal.returns-in_default
returns-in_default c =
    let (within, level) = c.in_default.ensures.found in
    inl (rw (sym c.rows.ensures.is) (level_there c.rows.result.now c.args.row c.in_default.field-0 within level), refl)

-- what holds where it is known that there is a value
on_ok : {A E P : Type 0} (r : Result A E) → IsOk r → OnOk r P → P
on_ok (Ok x) ok p = p
on_ok (Err e) ok p = let z : ◌≡◌ {A = ℕ} 0 1 = cc in absurd (omega arith)

-- none is of the row's goal, so that there is room
module _ (c : goal.After-insert) where
  abbrev rows : List Row
  rows = c.self.inside.rows

  abbrev count : ℕ
  count = c.self.inside.count

  read : c.rows.result.now ≡ take count rows
  read = c.rows.ensures.is ∙ sym c.self.view_is

  within : c.in-Err.place ≤ length (take count rows)
  within = subst (λ (rs : List Row). c.in-Err.place ≤ length rs) read c.in-Err.ensures.found

  gap : Gap ByGoal (take count rows) c.args.row c.in-Err.place
  gap = subst (λ (rs : List Row). Gap ByGoal rs c.args.row c.in-Err.place) read (c.in-Err.ensures.gap (rw c.rows.ensures.is c.rows.ensures.ascending))

  none : NoRow c.args.self.now c.args.row.goal
  none = subst (λ (rs : List Row). NoRow rs c.args.row.goal) c.self.view_is (gap_goal (take count rows) c.args.row c.in-Err.place within gap)

  few : count < 64
  few = room_left rows c.args.self.now count c.args.row.goal c.self.view_is c.self.invariant.long c.requires none

  used : c.in-Err.place ≤ count
  used = omega (arith, within, length-take-le count rows (omega (arith, few, c.self.invariant.long)))

  less : count < length rows
  less = omega (arith, few, c.self.invariant.long)

  done : IsOk c.insert.result
  done = c.insert.ensures.room.1 (less, used)

  put : c.insert.new.list ≡ opened rows count c.in-Err.place c.args.row
  put = on_ok c.insert.result done c.insert.ensures.put

  more : OneMore (take count rows) c.args.row (take (count + 1) c.insert.new.list)
  more =
      subst (λ (rs : List Row). OneMore (take count rows) c.args.row (take (count + 1) rs)) (sym put)
      (row_put rows count c.in-Err.place c.args.row less used c.self.invariant.ascending gap)

  long : length c.insert.new.list ≡ 64
  long = ap length put ∙ length_opened rows count c.in-Err.place c.args.row less used ∙ c.self.invariant.long

pub unwrap-requires : goal.unwrap-requires
unwrap-requires c = done c

pub invariant_of-self : goal.invariant_of-self
invariant_of-self c = let d = c.before.before in let less = few d in record { few = omega arith; long = long d; ascending = (more d).ascending }

pub returns-in-Err : goal.returns-in-Err
returns-in-Err c = let d = c.before.before in inr (none d, subst (λ (rs : List Row). OneMore rs c.args.row (take (count d + 1) c.insert.new.list)) c.self.view_is (more d))
