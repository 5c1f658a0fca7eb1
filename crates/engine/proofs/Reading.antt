-- The calls that read rows: the boundary of a goal, the row at a place, and what a user may see.
use Rattle.std.proofs.Common.{None, Some, Ok, Err, Result, ⊎_elim, ◌≡◌, ℕ, zero, suc, ◌<◌, ◌≤◌, Bool, T, List, [], ◌∷◌, map, length, get_or, slice_get, false, Option, sym, refl, ap, subst, inl, inr, arith, MatchOption}
use Rattle.std.specs.Option.{ok_or}
use Rattle.std.proofs.lemmas.Option.{slice_get_cases}
use Rattle.base.specs.Words.{Iff, In}
use Rattle.labels.specs.Order.{LabelOrder, Label, Under, JoinPrime, Lawful}
use Rattle.labels.specs.Fault.{UserRefused}
use Rattle.labels.specs.declared.fault.KindFault.{KindFault}
use Rattle.labels.specs.declared.fault.KindFault.TheVariants.{NotALabel, NotAdmitted}
use Rattle.logics.specs.Entailment.{Entailment, Goal, Monotone}
use Rattle.logics.specs.declared.LogicFault.TheVariants.{GoalNotTaken}
use Rattle.ordered.specs.Lists.{Ascending}
use Rattle.ordered.proofs.Lists.{ascending_fewer, get_or_in}
use Rattle.engine.specs.declared.page.Page.{Page}
use Rattle.engine.specs.declared.page.Row.{Row}
use Rattle.engine.specs.declared.sheet.Sheet.{Sheet}
use Rattle.engine.specs.declared.call.Call.TheVariants.{Boundary, Row as RowOf, See}
use Rattle.engine.specs.declared.call.Answer.TheVariants.{Bound, RowAt, Seen}
use Rattle.engine.specs.declared.call.SheetFault.TheVariants.{NotPublished, Kind, Logic}
use Rattle.engine.specs.Book.{Book}
use Rattle.engine.specs.Law.{Published, Smaller, RowGoals}
use Rattle.engine.specs.declared.call.SheetFault.{SheetFault}
use Rattle.engine.specs.Rows.{ByGoal, HasRow, NoRow}
use Rattle.engine.specs.Keeps.{Keeps, answer}
use Rattle.engine.specs.Obeys.{Obeys}
use Rattle.engine.proofs.Obeying.{refused, accepted}
use Rattle.engine.specs.GoalOrder.{smaller_ranking}
use Rattle.engine.proofs.Boundaries.{LabelsTaken}
use Rattle.engine.proofs.Sight.{sees_by}

abbrev pub goals_of : List Row → List Goal
goals_of = map (λ r. r.goal)

-- the goal of a row is among the goals, and each goal among them is that of a row
pub goal_of_row : (rs : List Row) (r : Row) → In r rs → In r.goal (goals_of rs)
goal_of_row [] r h = h
goal_of_row (x ∷ xs) r (inl e) = inl (ap (λ (y : Row). y.goal) e)
goal_of_row (x ∷ xs) r (inr h) = inr (goal_of_row xs r h)

pub row_of_goal : (rs : List Row) (g : Goal) → In g (goals_of rs) → HasRow rs g
row_of_goal [] g h = absurd h
row_of_goal (x ∷ xs) g (inl e) = (x, inl refl, sym e)
row_of_goal (x ∷ xs) g (inr h) = let (r, there, e) = row_of_goal xs g h in (r, inr there, e)

goals_ascending : (rs : List Row) → Ascending ByGoal rs → Ascending Smaller (goals_of rs)
goals_ascending [] up = tt
goals_ascending (x ∷ []) up = tt
goals_ascending (x ∷ y ∷ ys) (lt, up) = (lt, goals_ascending (y ∷ ys) up)

goals_length : (rs : List Row) → length (goals_of rs) ≡ length rs
goals_length [] = refl
goals_length (x ∷ xs) = ap suc (goals_length xs)

goals_get_or : (rs : List Row) (i : ℕ) (d : Goal) (r : Row) → i < length rs → get_or rs i r ≡ r → get_or (goals_of rs) i d ≡ r.goal
goals_get_or [] i d r lt e = absurd (omega arith)
goals_get_or (x ∷ xs) zero d r lt e = ap (λ (y : Row). y.goal) e
goals_get_or (x ∷ xs) (suc i) d r lt e = goals_get_or xs i d r (omega arith) e

-- a goal without a row is not published, and one with a row is
module _ (k : LabelOrder) (l : Entailment) (b : Book) (pages : List Page) (rows : List Row) (keeps : Keeps k l b pages rows) where
  pub unpublished : (g : Goal) → NoRow rows g → Published b g → ⊥
  unpublished g none is = let (r, there, e) = row_of_goal rows g ((keeps.goals g).1 is) in none r there e

  pub published : (r : Row) → In r rows → Published b r.goal
  published r there = (keeps.goals r.goal).0 (goal_of_row rows r there)

  row_goals : RowGoals b (goals_of rows)
  row_goals = record { same = keeps.goals; ascending = goals_ascending rows keeps.ascending }

  no_fewer : (gs : List Goal) → RowGoals b gs → length rows ≤ length gs
  no_fewer gs is =
      let le = ascending_fewer smaller_ranking (goals_of rows) gs row_goals.ascending is.ascending (λ g h. (is.same g).1 ((keeps.goals g).0 h)) in
      omega (arith, goals_length rows)

Err-Ok : {A E : Type 0} {e : E} {x : A} → ◌≡◌ {A = Result A E} (Err e) (Ok x) → ⊥
Err-Ok e = let z : ◌≡◌ {A = ℕ} 0 1 = cc in omega arith

Ok-Err : {A E : Type 0} {e : E} {x : A} → ◌≡◌ {A = Result A E} (Ok x) (Err e) → ⊥
Ok-Err e = let z : ◌≡◌ {A = ℕ} 0 1 = cc in omega arith

same_Ok : {A E : Type 0} {x y : A} → ◌≡◌ {A = Result A E} (Ok x) (Ok y) → x ≡ y
same_Ok e = cc

module _ {K L : Type 0} (order : K → LabelOrder) (entails : L → Entailment) (s : Sheet K L) where
  abbrev k : LabelOrder
  k = order s.kind

  abbrev l : Entailment
  l = entails s.logic

  module _ (i : ℕ) where
    pub row_none : length s.rows ≤ i → Obeys order entails (RowOf i) (Err NotPublished) s s
    row_none few =
        refused order entails (RowOf i) s NotPublished
        (λ b keeps. inl ((goals_of s.rows, row_goals k l b s.axioms s.rows keeps, omega (arith, goals_length s.rows)), refl))

    pub row_there : (r : Row) → i < length s.rows → get_or s.rows i r ≡ r → Obeys order entails (RowOf i) (Ok (RowAt (r.goal, r.boundary))) s s
    row_there r lt is =
        accepted order entails (RowOf i) s (RowAt (r.goal, r.boundary)) s refl refl
        (λ b keeps.
        let there : In r s.rows = subst (λ (x : Row). In x s.rows) is (get_or_in s.rows i r lt) in
        let goal : get_or (goals_of s.rows) i (0, 0) ≡ r.goal = goals_get_or s.rows i (0, 0) r lt is in (
          (λ (gs, is_rows, few). omega (arith, no_fewer k l b s.axioms s.rows keeps gs is_rows), tt),
          (goals_of s.rows, row_goals k l b s.axioms s.rows keeps, (r.boundary, rw goal (keeps.right r there).boundary, rw goal refl)),
          keeps,
        ))

    -- what is at the place, or that nothing is, is the answer
    pub row_found : (o : Option Row) → o ≡ slice_get s.rows i → (x : Result Row SheetFault) → x ≡ ok_or o NotPublished
        → Obeys order entails (RowOf i) (answer (λ r. RowAt (r.goal, r.boundary)) x) s s
    row_found o e x is =
        let P : Result Row SheetFault → Type 0 = λ y. Obeys order entails (RowOf i) (answer (λ r. RowAt (r.goal, r.boundary)) y) s s in
        subst P (sym is)
        (subst (λ (q : Option Row). P (ok_or q NotPublished)) (sym e)
        (⊎_elim (λ (r, lt, some, read). rw some (row_there r lt read)) (λ (few, none). rw none (row_none few)) (slice_get_cases s.rows i).1))

  module _ (g : Goal) where
    pub boundary_goal : (l.TakesGoal g → ⊥) → Obeys order entails (Boundary g) (Err (Logic GoalNotTaken)) s s
    boundary_goal never = refused order entails (Boundary g) s (Logic GoalNotTaken) (λ b keeps. inl (never, refl))

    pub see_goal : (u : ℕ) → (l.TakesGoal g → ⊥) → Obeys order entails (See u g) (Err (Logic GoalNotTaken)) s s
    see_goal u never = refused order entails (See u g) s (Logic GoalNotTaken) (λ b keeps. inl (never, refl))

    module _ (taken : l.TakesGoal g) where
      -- what was looked up is the answer
      pub boundary_found : (v : Option (Option ℕ)) → MatchOption v (NoRow s.rows g) (λ w. In {A = Row} (record { goal = g; boundary = w }) s.rows)
          → Obeys order entails (Boundary g) (answer Bound (ok_or v NotPublished)) s s
      boundary_found None none =
          refused order entails (Boundary g) s NotPublished
          (λ b keeps. inr (λ never. never taken, inl (unpublished k l b s.axioms s.rows keeps g none, refl)))
      boundary_found (Some v) row =
          accepted order entails (Boundary g) s (Bound v) s refl refl
          (λ b keeps. (
            (λ never. never taken, (λ un. un (published k l b s.axioms s.rows keeps (record { goal = g; boundary = v }) row), tt)),
            (v, (keeps.right (record { goal = g; boundary = v }) row).boundary, refl),
            keeps,
          ))

      module _ (u : ℕ) where
        pub see_user : (f : KindFault) → UserRefused k u f → Obeys order entails (See u g) (Err (Kind f)) s s
        see_user f (inl (never, is)) =
            subst (λ (h : KindFault). Obeys order entails (See u g) (Err (Kind h)) s s) (sym is)
            (refused order entails (See u g) s (Kind NotALabel) (λ b keeps. inr (λ no. no taken, inl (never, refl))))
        see_user f (inr (label, never, is)) =
            subst (λ (h : KindFault). Obeys order entails (See u g) (Err (Kind h)) s s) (sym is)
            (refused order entails (See u g) s (Kind NotAdmitted) (λ b keeps. inr (λ no. no taken, inr (λ no. no label, inl (never, refl)))))

        module _ (label : Label k u) (prime : JoinPrime k u) where
          see_none : NoRow s.rows g → Obeys order entails (See u g) (Err NotPublished) s s
          see_none none =
              refused order entails (See u g) s NotPublished
              (λ b keeps. inr (λ no. no taken, inr (λ no. no label, inr (λ no. no prime, inl (unpublished k l b s.axioms s.rows keeps g none, refl)))))

          -- a look-up that finds no row
          pub see_unknown : (o : Option (Option ℕ)) → MatchOption o (NoRow s.rows g) (λ v. In {A = Row} (record { goal = g; boundary = v }) s.rows)
              → (f : SheetFault) → Err f ≡ ok_or o NotPublished → Obeys order entails (See u g) (Err f) s s
          see_unknown None none f is = subst (λ (y : Result (Option ℕ) SheetFault). Obeys order entails (See u g) (answer (λ _. Seen false) y) s s) (sym is) (see_none none)
          see_unknown (Some v) row f is = absurd (Err-Ok is)

          -- the user's label against the boundary in the row
          see_there : Lawful k → Monotone l → (v : Option ℕ) → In {A = Row} (record { goal = g; boundary = v }) s.rows
              → (r : Bool) → Iff (T r) (MatchOption v ⊥ (Under k u)) → Obeys order entails (See u g) (Ok (Seen r)) s s
          see_there laws monotone v row r says =
              accepted order entails (See u g) s (Seen r) s refl refl
              (λ b keeps.
              let right = keeps.right (record { goal = g; boundary = v }) row in
              let labels : LabelsTaken k b = λ i p at. (keeps.taken i p (rw (sym keeps.book) at)).1 in
              let (ss, all) = right.listed in
              let by = sees_by k l laws monotone b g labels (rw keeps.book keeps.few) u prime ss all v right.boundary in (
                (λ no. no taken, (λ no. no label, (λ no. no prime, (λ un. un (published k l b s.axioms s.rows keeps (record { goal = g; boundary = v }) row), tt)))),
                (r, (λ h. by.0 (says.0 h), λ h. says.1 (by.1 h)), refl),
                keeps,
              ))

          -- the same for the row that is found
          pub see_found : Lawful k → Monotone l → (o : Option (Option ℕ)) → MatchOption o (NoRow s.rows g) (λ v. In {A = Row} (record { goal = g; boundary = v }) s.rows)
              → (v : Option ℕ) → Ok v ≡ ok_or o NotPublished → (r : Bool) → Iff (T r) (MatchOption v ⊥ (Under k u)) → Obeys order entails (See u g) (Ok (Seen r)) s s
          see_found laws monotone None none v is r says = absurd (Ok-Err is)
          see_found laws monotone (Some w) row v is r says =
              see_there laws monotone w row r (subst (λ (x : Option ℕ). Iff (T r) (MatchOption x ⊥ (Under k u))) (same_Ok is) says)
