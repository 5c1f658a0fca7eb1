-- What a call on a sheet owes: the lawful answer, by whatever book the sheet keeps, and that the sheet keeps the book after the call.
use Rattle.std.specs.Prelude.{◌≡◌, ℕ, ◌<◌, [], ◌∷◌, List, length, Ok, Err, Result}
use Rattle.base.specs.Checks.{FirstOf, NoneOf}
use Rattle.labels.specs.Order.{LabelOrder}
use Rattle.logics.specs.Entailment.{Entailment, Goal}
use Rattle.engine.specs.declared.sheet.Sheet.{Sheet}
use Rattle.engine.specs.declared.call.Call.{Call}
use Rattle.engine.specs.declared.call.Answer.{Answer}
use Rattle.engine.specs.declared.call.SheetFault.{SheetFault}
use Rattle.engine.specs.declared.call.SheetFault.TheVariants.{ShortArea, MoreSupports}
use Rattle.engine.specs.Book.{Book}
use Rattle.engine.specs.Sight.{AllSupports}
use Rattle.engine.specs.Law.{Buffers, Lawfully, MoreThan, Next, SearchLeaves}
use Rattle.engine.specs.Keeps.{Keeps}

module _ (k : LabelOrder) (l : Entailment) (b : Book) (g : Goal) (p w : ℕ) where
  -- the last checks of a call that searches
  abbrev pub lacks : List (SheetFault × Type 0)
  lacks = (ShortArea, w < l.bytes) ∷ (MoreSupports, MoreThan k l b g p) ∷ []

  -- all supports, or that it lacks bytes or places
  abbrev pub Finds : Result ℕ SheetFault → Type 0
  Finds (Ok n) = NoneOf lacks × ((ss : List ℕ) × AllSupports l b g ss × (n ≡ length ss))
  Finds (Err f) = FirstOf lacks f

-- by the order that a label kind means, and what follows by a logic
module _ {K L : Type 0} (order : K → LabelOrder) (entails : L → Entailment) where
  -- the sheet keeps the book
  abbrev pub Holds : Sheet K L → Book → Type 0
  Holds s b = Keeps (order s.kind) (entails s.logic) b s.axioms s.rows

  -- a call that is made on s, is answered by x, and leaves t
  pub record Obeys (c : Call) (x : Result Answer SheetFault) (s t : Sheet K L) : Type 0 where
    pub law : (b : Book) → Holds s b
        → Lawfully (order s.kind) (entails s.logic) b c x × ((d : Book) × Next (order s.kind) (entails s.logic) b c d × Holds t d)
    pub kind : t.kind ≡ s.kind
    pub logic : t.logic ≡ s.logic

  -- what a search on the sheet leaves in every place and byte
  abbrev pub Leaving : Sheet K L → Goal → Result Answer SheetFault → Buffers → Buffers → Type 0
  Leaving s g x d e = (b : Book) → Holds s b → SearchLeaves (order s.kind) (entails s.logic) b g x d e

  -- what a search on the sheet finds, with so many places and bytes
  abbrev pub Searches : Sheet K L → Goal → ℕ → ℕ → Result ℕ SheetFault → Type 0
  Searches s g p w r = (b : Book) → Holds s b → Finds (order s.kind) (entails s.logic) b g p w r
