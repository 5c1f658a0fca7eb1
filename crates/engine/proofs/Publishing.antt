-- Publishing: one goal more in the book, its row among the rows.
use Rattle.std.proofs.Common.{◌≡◌, ℕ, ◌+◌, ◌<◌, ◌≤◌, Bool, true, false, cond, T, eqb, ◌⊎◌, List, [], ◌∷◌, ◌++◌, length, take, replicate, ◌-◌, Some, None, Ok, Err, Option, sym, refl, ap, ◌∙◌, subst, ap₂, inl, inr, ⊎_elim, arith, length-append, take_all}
use lib.Seq.{take-append-le}
use Rattle.base.specs.Words.{Iff, In}
use Rattle.base.proofs.Tests.{eqb_iff}
use Rattle.labels.specs.Order.{LabelOrder}
use Rattle.logics.specs.Entailment.{Entailment, Goal}
use Rattle.logics.specs.declared.LogicFault.TheVariants.{GoalNotTaken}
use Rattle.ordered.proofs.Lists.{in_append}
use Rattle.engine.specs.declared.page.Page.{Page}
use Rattle.engine.specs.declared.page.Row.{Row}
use Rattle.engine.specs.declared.sheet.Sheet.{Sheet}
use Rattle.engine.specs.declared.call.Call.TheVariants.{Publish}
use Rattle.engine.specs.declared.call.Answer.TheVariants.{Count}
use Rattle.engine.specs.declared.call.SheetFault.{SheetFault}
use Rattle.engine.specs.declared.call.SheetFault.TheVariants.{RowsFull, MoreSupports, Logic}
use Rattle.engine.specs.Book.{Book, same, note}
use Rattle.engine.specs.Sight.{AllSupports, MeetOf, LeastAbove, IsBoundary}
use Rattle.engine.specs.Law.{Published}
use Rattle.engine.specs.Rows.{HasRow, NoRow, OneMore, Put}
use Rattle.engine.specs.Keeps.{Right, Keeps}
use Rattle.engine.specs.Obeys.{Holds, Obeys, Searches}
use Rattle.engine.proofs.Obeying.{refused, accepted}
use Rattle.engine.proofs.Supporting.{supports_unique}
use Rattle.engine.proofs.Reading.{goals_of, goal_of_row, row_of_goal, unpublished, published}

-- two goals are the same when both numbers are
same_iff : (g h : Goal) → Iff (T (same g h)) (g ≡ h)
same_iff g h = (
  λ t. let (first, second) = (both (eqb g.0 h.0) (eqb g.1 h.1)).0 t in ap₂ (λ (a b : ℕ). (a, b)) ((eqb_iff g.0 h.0).0 first) ((eqb_iff g.1 h.1).0 second),
  λ e. (both (eqb g.0 h.0) (eqb g.1 h.1)).1 ((eqb_iff g.0 h.0).1 (ap (λ (x : Goal). x.0) e), (eqb_iff g.1 h.1).1 (ap (λ (x : Goal). x.1) e)),
)
  where
    both : (a b : Bool) → Iff (T (cond a b false)) (T a × T b)
    both true b = (λ t. (tt, t), λ t. t.1)
    both false b = (λ t. absurd t, λ t. t.0)

-- a goal that is noted already changes nothing; another comes last
pub note_there : (g : Goal) (gs : List Goal) → In g gs → note g gs ≡ gs
note_there g [] there = absurd there
note_there g (h ∷ hs) there = cases (note_there g hs) (same g h) (same_iff g h)
  where
    cases : (In g hs → note g hs ≡ hs) → (t : Bool) → Iff (T t) (g ≡ h) → cond t (h ∷ hs) (h ∷ note g hs) ≡ h ∷ hs
    cases rest true says = refl
    cases rest false says = ⊎_elim (λ e. absurd (says.1 e)) (λ j. ap (λ (xs : List Goal). h ∷ xs) (rest j)) there

pub note_new : (g : Goal) (gs : List Goal) → (In g gs → ⊥) → note g gs ≡ gs ++ (g ∷ [])
note_new g [] none = refl
note_new g (h ∷ hs) none = cases (note_new g hs (λ j. none (inr j))) (same g h) (same_iff g h)
  where
    cases : note g hs ≡ hs ++ (g ∷ []) → (t : Bool) → Iff (T t) (g ≡ h) → cond t (h ∷ hs) (h ∷ note g hs) ≡ h ∷ (hs ++ (g ∷ []))
    cases rest true says = absurd (none (inl (says.0 tt)))
    cases rest false says = ap (λ (xs : List Goal). h ∷ xs) rest

module _ (k : LabelOrder) (l : Entailment) (b : Book) (gs : List Goal) where
  abbrev noted : Book
  noted = record { pages = b.pages; published = gs }

  -- boundaries are read from the pages, not from the published goals
  meet_noted : (s m : ℕ) → MeetOf k noted s m → MeetOf k b s m
  meet_noted s m is = record { label = is.label; under = is.under; greatest = is.greatest }

  noted_meet : (s m : ℕ) → MeetOf k b s m → MeetOf k noted s m
  noted_meet s m is = record { label = is.label; under = is.under; greatest = is.greatest }

  least_noted : (g : Goal) (v : ℕ) → LeastAbove k l b g v → LeastAbove k l noted g v
  least_noted g v is = record {
    supported = is.supported;
    label = is.label;
    above = λ s m h meet. is.above s m h (meet_noted s m meet);
    least = λ w label below. is.least w label (λ s m h meet. below s m h (noted_meet s m meet));
  }

  boundary_noted : (g : Goal) (v : Option ℕ) → IsBoundary k l b g v → IsBoundary k l noted g v
  boundary_noted g None is = is
  boundary_noted g (Some v) is = least_noted g v is

  right_noted : (r : Row) → Right k l b r → Right k l noted r
  right_noted r is = record { taken = is.taken; listed = is.listed; boundary = boundary_noted r.goal r.boundary is.boundary }

module _ (k : LabelOrder) (l : Entailment) (b : Book) (pages : List Page) (rows : List Row) (keeps : Keeps k l b pages rows) (g : Goal) where
  -- the goal was published before
  pub kept_there : Published b g → Keeps k l (record { pages = b.pages; published = note g b.published }) pages rows
  kept_there there = record {
    book = keeps.book;
    few = keeps.few;
    taken = keeps.taken;
    goals = λ h. rw (note_there g b.published there) (keeps.goals h);
    once = keeps.once ∙ ap length (sym (note_there g b.published there));
    ascending = keeps.ascending;
    right = λ r h. right_noted k l b (note g b.published) r (keeps.right r h);
  }

  -- it is published now
  pub kept_new : (Published b g → ⊥) → (v : Option ℕ) → Right k l b (record { goal = g; boundary = v }) → (rows' : List Row) → OneMore rows (record { goal = g; boundary = v }) rows'
      → Keeps k l (record { pages = b.pages; published = note g b.published }) pages rows'
  kept_new none v right rows' more =
      let row : Row = record { goal = g; boundary = v } in
      let new : note g b.published ≡ b.published ++ (g ∷ []) = note_new g b.published none in
      record {
        book = keeps.book;
        few = keeps.few;
        taken = keeps.taken;
        goals = λ h. rw new (
          λ among.
              let (r, there, e) = row_of_goal rows' h among in
              (in_append h b.published (g ∷ [])).1
              (⊎_elim (λ is. inr (inl (sym e ∙ ap (λ (x : Row). x.goal) is))) (λ old. inl (subst (λ (x : Goal). Published b x) e ((keeps.goals r.goal).0 (goal_of_row rows r old)))) ((more.among r).0 there)),
          λ among.
              ⊎_elim (λ old. let (r, there, e) = row_of_goal rows h ((keeps.goals h).1 old) in subst (λ (x : Goal). In x (goals_of rows')) e (goal_of_row rows' r ((more.among r).1 (inr there))))
              (⊎_elim (λ e. subst (λ (x : Goal). In x (goals_of rows')) (sym e) (goal_of_row rows' row ((more.among row).1 (inl refl)))) (λ no. absurd no))
              ((in_append h b.published (g ∷ [])).0 among),
        );
        once = rw new (more.length ∙ ap (λ (m : ℕ). m + 1) keeps.once ∙ sym (length-append b.published (g ∷ [])));
        ascending = more.ascending;
        right = λ r h.
            right_noted k l b (note g b.published) r (⊎_elim (λ is. subst (Right k l b) (sym is) right) (keeps.right r) ((more.among r).0 h));
      }

-- the places that are counted hold all supports
pub front_supports : (l : Entailment) (b : Book) (g : Goal) (n : ℕ) (places places' : List ℕ) → (ss : List ℕ) × AllSupports l b g ss × (n ≡ length ss)
    → (ts : List ℕ) × AllSupports l b g ts × (places' ≡ ts ++ replicate (length places - length ts) 0) → AllSupports l b g (take n places')
front_supports l b g n places places' (ss, is, count) (ts, all, filled) =
    let same : ss ≡ ts = supports_unique l b g ss ts is all in
    let size : n ≡ length ts = count ∙ ap length same in
    let front : take n places' ≡ ts = ap (take n) filled ∙ take-append-le n ts _ (omega arith) ∙ take_all n ts (omega arith) in
    subst (AllSupports l b g) (sym front) all

-- the refusal for want of a row is not the one for want of places
pub rows_first : RowsFull ≡ MoreSupports → ⊥
rows_first e = let z : ◌≡◌ {A = ℕ} 0 1 = cc in omega arith

module _ {K L : Type 0} (order : K → LabelOrder) (entails : L → Entailment) (s : Sheet K L) (g : Goal) (p w : ℕ) where
  pub publish_goal : ((entails s.logic).TakesGoal g → ⊥) → Obeys order entails (Publish g p w) (Err (Logic GoalNotTaken)) s s
  publish_goal never = refused order entails (Publish g p w) s (Logic GoalNotTaken) (λ b keeps. inl (never, refl))

  module _ (taken : (entails s.logic).TakesGoal g) where
    pub publish_full : 64 ≤ length s.rows → NoRow s.rows g → Obeys order entails (Publish g p w) (Err RowsFull) s s
    publish_full many none =
        refused order entails (Publish g p w) s RowsFull
        (λ b keeps. inr (λ never. never taken, inl ((unpublished (order s.kind) (entails s.logic) b s.axioms s.rows keeps g none, omega (arith, keeps.once)), refl)))

    module _ (room : (length s.rows < 64) ⊎ HasRow s.rows g) where
      has_room : (b : Book) → Holds order entails s b → ((Published b g → ⊥) × (64 ≤ length b.published)) → ⊥
      has_room b keeps (none, many) =
          ⊎_elim (λ few. omega (arith, keeps.once)) (λ (r, there, e). none (subst (λ (x : Goal). Published b x) e (published (order s.kind) (entails s.logic) b s.axioms s.rows keeps r there))) room

      pub publish_lacks : (f : SheetFault) → Searches order entails s g p w (Err f) → Obeys order entails (Publish g p w) (Err f) s s
      publish_lacks f found = refused order entails (Publish g p w) s f (λ b keeps. inr (λ never. never taken, inr (has_room b keeps, found b keeps)))

      pub publish_done : (n : ℕ) → Searches order entails s g p w (Ok n) → (v : Option ℕ) → ((b : Book) → Holds order entails s b → IsBoundary (order s.kind) (entails s.logic) b g v)
          → (t : Sheet K L) → t.kind ≡ s.kind → t.logic ≡ s.logic → t.axioms ≡ s.axioms → Put s.rows (record { goal = g; boundary = v }) t.rows
          → Obeys order entails (Publish g p w) (Ok (Count n)) s t
      publish_done n found v bound t kind logic pages put =
          accepted order entails (Publish g p w) s (Count n) t kind logic
          (λ b keeps.
          let k = order s.kind in
          let l = entails s.logic in
          let (none, (ss, is, count)) = found b keeps in
          let right : Right k l b (record { goal = g; boundary = v }) = record { taken = taken; listed = (ss, is); boundary = bound b keeps } in
          let kept : Keeps k l (record { pages = b.pages; published = note g b.published }) s.axioms t.rows =
          ⊎_elim
          (λ ((r, there, e), old). rw old (kept_there k l b s.axioms s.rows keeps g (subst (λ (x : Goal). Published b x) e (published k l b s.axioms s.rows keeps r there))))
          (λ (new, more). kept_new k l b s.axioms s.rows keeps g (unpublished k l b s.axioms s.rows keeps g new) v right t.rows more)
          put in
          ((λ never. never taken, (has_room b keeps, none)), (ss, is, ap Count count), rw (kind, logic, pages) kept))
