-- What each answer says: the number of its refusal, 0 where it is none, and its values.
use Rattle.std.specs.Prelude.{ℕ, cond, List, [], ◌∷◌, Some, None, Option, Ok, Err, Result}
use Rattle.engine.specs.declared.call.Answer.{Answer}
use Rattle.engine.specs.declared.call.Answer.TheVariants.{Entered, Done, Count, Bound, RowAt, Seen}
use Rattle.engine.specs.declared.call.SheetFault.{SheetFault}
use Rattle.engine.specs.Law.{number}

-- a label that may be absent
abbrev pub label : Option ℕ → List ℕ
label None = []
label (Some v) = v ∷ []

abbrev pub told : Result Answer SheetFault → ℕ × List ℕ
told (Ok (Entered n)) = (0, n ∷ [])
told (Ok Done) = (0, [])
told (Ok (Count n)) = (0, n ∷ [])
told (Ok (Bound v)) = (0, label v)
told (Ok (RowAt (g, v))) = (0, g.0 ∷ g.1 ∷ label v)
told (Ok (Seen r)) = (0, cond r 1 0 ∷ [])
told (Err f) = (number f, [])
