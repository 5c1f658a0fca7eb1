-- What each fault of a report says: its line, the layer that its number belongs to, and its number.
use Rattle.std.specs.Prelude.{ℕ, List, [], ◌∷◌, ◌++◌, codes}
use Rattle.prints.specs.Print.{numbers}
use Rattle.labels.specs.Fault.{number as number_of_kind}
use Rattle.logics.specs.Faults.{numbered as number_of_logic}
use Rattle.engine.specs.Law.{number as number_of_sheet}
use Rattle.engine.specs.declared.call.SheetFault.{SheetFault}
use Rattle.engine.specs.declared.call.SheetFault.TheVariants.{Kind as OfKind, Logic as OfLogic}
use Rattle.lines.specs.Fault.{number as number_of_text}
use Rattle.report.specs.declared.fault.Cause.{Cause}
use Rattle.report.specs.declared.fault.Cause.TheVariants.{Text, Kind, Logic, Sheet}
use Rattle.report.specs.declared.fault.Layer.{Layer}
use Rattle.report.specs.declared.fault.Layer.TheVariants.{Text as TextLayer, Kind as KindLayer, Logic as LogicLayer, Sheet as SheetLayer}
use Rattle.report.specs.declared.fault.ReportFault.{ReportFault}

-- a sheet's fault may be one of its kind or of its logic
abbrev pub layer_of_sheet : SheetFault → Layer
layer_of_sheet (OfKind f) = KindLayer
layer_of_sheet (OfLogic f) = LogicLayer
layer_of_sheet _ = SheetLayer

-- the layer that the number belongs to
abbrev pub layer : Cause → Layer
layer (Text f) = TextLayer
layer (Kind f) = KindLayer
layer (Logic f) = LogicLayer
layer (Sheet f) = layer_of_sheet f

-- the number of the refusal
abbrev pub number : Cause → ℕ
number (Text f) = number_of_text f
number (Kind f) = number_of_kind f
number (Logic f) = number_of_logic f
number (Sheet f) = number_of_sheet f

-- line, layer and number of a fault
abbrev pub told : ReportFault → ℕ × Layer × ℕ
told f = (f.line, layer f.cause, number f.cause)

-- the name of a layer
abbrev pub name : Layer → List ℕ
name TextLayer = codes "text"
name KindLayer = codes "kind"
name LogicLayer = codes "logic"
name SheetLayer = codes "sheet"

-- the line that tells a fault
abbrev pub fault_line : ReportFault → List ℕ
fault_line f =
    codes "F" ++ (numbers (f.line ∷ []) ++ (44 ∷ (name (layer f.cause) ++ (numbers (number f.cause ∷ []) ++ (10 ∷ [])))))
