-- What the law relates is one thing each: the supports of a goal, its boundary, the rows, and after a call the answer,
-- the book, and what is left in every place and byte.
use Rattle.std.specs.Prelude.{◌≡◌, ℕ, List, Option, Result}
use Rattle.labels.specs.Order.{LabelOrder}
use Rattle.logics.specs.Entailment.{Entailment, Goal}
use Rattle.engine.specs.declared.call.Call.{Call}
use Rattle.engine.specs.declared.call.Answer.{Answer}
use Rattle.engine.specs.declared.call.SheetFault.{SheetFault}
use Rattle.engine.specs.Book.{Book}
use Rattle.engine.specs.Sight.{AllSupports, IsBoundary}
use Rattle.engine.specs.Law.{RowGoals, Buffers, Lawfully, Leaves, Next}

pub record Determined (k : LabelOrder) (l : Entailment) : Type 0 where
  pub supports : (b : Book) (g : Goal) (ss ts : List ℕ) → AllSupports l b g ss → AllSupports l b g ts → ss ≡ ts
  pub boundary : (b : Book) (g : Goal) (v w : Option ℕ) → IsBoundary k l b g v → IsBoundary k l b g w → v ≡ w
  pub rows : (b : Book) (gs hs : List Goal) → RowGoals b gs → RowGoals b hs → gs ≡ hs
  pub answer : (b : Book) (c : Call) (x y : Result Answer SheetFault) → Lawfully k l b c x → Lawfully k l b c y → x ≡ y
  pub book : (b : Book) (c : Call) (d e : Book) → Next k l b c d → Next k l b c e → d ≡ e
  pub buffers : (b : Book) (c : Call) (x : Result Answer SheetFault) (d e f : Buffers) → Leaves k l b c x d e → Leaves k l b c x d f → e ≡ f
