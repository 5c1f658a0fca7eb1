-- What a sheet holds of the book of its history.
use Rattle.std.specs.Prelude.{◌≡◌, ℕ, ◌≤◌, List, map, length, Ok, Err, Result}
use Rattle.base.specs.Words.{Iff, In}
use Rattle.labels.specs.Order.{LabelOrder, Label}
use Rattle.logics.specs.Entailment.{Entailment, Goal}
use Rattle.ordered.specs.Lists.{Ascending}
use Rattle.engine.specs.declared.page.Page.{Page}
use Rattle.engine.specs.declared.page.Row.{Row}
use Rattle.engine.specs.declared.call.SheetFault.{SheetFault}
use Rattle.engine.specs.declared.call.Answer.{Answer}
use Rattle.engine.specs.Pages.{At}
use Rattle.engine.specs.Book.{Book}
use Rattle.engine.specs.Sight.{AllSupports, IsBoundary}
use Rattle.engine.specs.Rows.{ByGoal}

-- a row holds its goal's boundary, and all supports of the goal are known to exist as a list
pub record Right (k : LabelOrder) (l : Entailment) (b : Book) (r : Row) : Type 0 where
  pub taken : l.TakesGoal r.goal
  pub listed : (ss : List ℕ) × AllSupports l b r.goal ss
  pub boundary : IsBoundary k l b r.goal r.boundary

-- pages and rows of a sheet that hold the book
pub record Keeps (k : LabelOrder) (l : Entailment) (b : Book) (pages : List Page) (rows : List Row) : Type 0 where
  pub book : b.pages ≡ pages
  pub few : length pages ≤ 64
  pub taken : (i : ℕ) (p : Page) → At pages i p → l.TakesRecord p.entry × Label k p.label
  pub goals : (g : Goal) → Iff (In g (map (λ r. r.goal) rows)) (In g b.published)
  pub once : length rows ≡ length b.published
  pub ascending : Ascending ByGoal rows
  pub right : (r : Row) → In r rows → Right k l b r

-- the answer that a result stands for
abbrev pub answer : {A : Type 0} → (A → Answer) → Result A SheetFault → Result Answer SheetFault
answer f (Ok x) = Ok (f x)
answer f (Err e) = Err e
