-- What a call owes in the midst of a history: what it owes on a sheet, and every place and byte at hand.
use Rattle.std.specs.Prelude.{Result}
use Rattle.labels.specs.Order.{LabelOrder}
use Rattle.logics.specs.Entailment.{Entailment}
use Rattle.engine.specs.declared.sheet.Sheet.{Sheet}
use Rattle.engine.specs.declared.call.Call.{Call}
use Rattle.engine.specs.declared.call.Answer.{Answer}
use Rattle.engine.specs.declared.call.SheetFault.{SheetFault}
use Rattle.engine.specs.Book.{Book}
use Rattle.engine.specs.Law.{Buffers, Leaves}
use Rattle.engine.specs.Obeys.{Holds, Obeys}

pub record Makes {K L : Type 0} (order : K → LabelOrder) (entails : L → Entailment) (c : Call) (x : Result Answer SheetFault) (s : Sheet K L) (d : Buffers) (t : Sheet K L) (e : Buffers) : Type 0 where
  pub obeys : Obeys order entails c x s t
  pub leaves : (b : Book) → Holds order entails s b → Leaves (order s.kind) (entails s.logic) b c x d e
