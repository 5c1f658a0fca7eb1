-- What a reader and a desk hold of the lines that have been read. These are the words of the inner contracts: no meaning
-- rests on them.
use Rattle.std.specs.Prelude.{◌≡◌, ℕ, ◌+◌, ◌<◌, ◌≤◌, Bool, ◌⊎◌, List, [], ◌∷◌, ◌++◌, length, drop, Some, Ok, Err, Result, ◌≢◌}
use Rattle.base.specs.Words.{In}
use Rattle.base.specs.Checks.{FirstOf, NoneOf}
use Rattle.labels.specs.Order.{JoinPrime, Same}
use Rattle.labels.specs.declared.fault.KindFault.TheVariants.{NoMeetOrJoin}
use Rattle.tables.specs.Table.{Lacking}
use Rattle.tables.specs.Rows.{Keeps as KeepsPairs}
use Rattle.logics.specs.Entailment.{Goal}
use Rattle.engine.specs.Book.{blank}
use Rattle.engine.specs.Obeys.{Holds}
use Rattle.prints.specs.declared.Printer.{Printer}
use Rattle.prints.specs.Output.{Printed, Adds}
use Rattle.prints.specs.Print.{sight_lines}
use Rattle.lines.specs.declared.fault.TextFault.{TextFault}
use Rattle.lines.specs.declared.fault.TextFault.TheVariants.{Misplaced}
use Rattle.lines.specs.declared.form.Form.{Form}
use Rattle.lines.specs.declared.form.Form.TheVariants.{Kind as KindLine, Logic as LogicLine}
use Rattle.lines.specs.declared.form.KindForm.TheVariants.{Table as TableForm}
use Rattle.lines.specs.declared.form.LogicForm.TheVariants.{El as ElLine, Links as LinksLine}
use Rattle.lines.specs.declared.form.Line.{Line}
use Rattle.lines.specs.declared.read.Found.{Found}
use Rattle.lines.specs.Forms.{section, OfTable}
use Rattle.lines.specs.Lines.{written, lines_of, last_form}
use Rattle.lines.specs.Reading.{Next, TextFails}
use Rattle.report.specs.declared.any.AnyKind.{AnyKind}
use Rattle.report.specs.declared.any.AnyLogic.{AnyLogic}
use Rattle.report.specs.declared.any.AnyLogic.TheVariants.{El, Links}
use Rattle.report.specs.declared.desk.Desk.{Desk}
use Rattle.report.specs.declared.fault.Cause.{Cause}
use Rattle.report.specs.declared.fault.Cause.TheVariants.{Text, Kind}
use Rattle.report.specs.declared.fault.ReportFault.{ReportFault}
use Rattle.report.specs.declared.reader.Reader.{Reader}
use Rattle.report.specs.Any.{any_kind, any_logic}
use Rattle.report.specs.Meaning.{at, pairs, kind_of, logic_of, book_of, users_of}
use Rattle.report.specs.Checks.{PairNext, user_count, line_checks, Good, Refuses}
use Rattle.report.specs.Report.{Seen, LinePrints, Prints, PrintOf, Refused}

-- the line that was found is the next one
pub record Gets (reader : Reader) (x : Found) : Type 0 where
  pub some : 0 < x.length
  pub within : x.length ≤ length reader.rest.now
  pub next : Next reader.last reader.users reader.rest.now x.line (drop x.length reader.rest.now)

-- the file ends, or its next line is refused
abbrev pub Stops : Reader → Cause → Type 0
Stops reader c =
    ((reader.rest.now ≡ []) × (c ≡ Text Misplaced)) ⊎ ((reader.rest.now ≢ []) × ((f : TextFault) × TextFails reader.last reader.users reader.rest.now f × (c ≡ Text f)))

-- the reader after one line more
pub record Advanced (reader : Reader) (x : Found) (reader' : Reader) : Type 0 where
  pub rest : reader'.rest.now ≡ drop x.length reader.rest.now
  pub lines : reader'.lines ≡ reader.lines + 1
  pub last : reader'.last ≡ last_form (x.line ∷ [])
  pub users : reader'.users ≡ reader.users + user_count (x.line ∷ [])

-- the next line, if there is one that may stand there, names a logic
abbrev pub LogicNext : Reader → Type 0
LogicNext reader = (x : Line) (behind : List ℕ) → Next reader.last reader.users reader.rest.now x behind → section x.form ≡ 2

-- the logic that a G line names
abbrev pub LogicChosen : Line → AnyLogic → Type 0
LogicChosen x (El l) = (x.form ≡ LogicLine ElLine) × (l.concepts ≡ at x 0) × (l.roles ≡ at x 1)
LogicChosen x (Links l) = (x.form ≡ LogicLine LinksLine) × (l.points ≡ at x 0)

-- the logic is the one that the first G line names
abbrev pub Named : AnyLogic → List Line → Type 0
Named l before = (x : Line) × (xs : List Line) × (lines_of 2 before ≡ x ∷ xs) × LogicChosen x l

-- the last line names the logic, or comes behind it
abbrev pub Late : List Line → Type 0
Late ls = (f : Form) × (last_form ls ≡ Some f) × (2 ≤ section f)

-- checks of which the first that fails gives the fault; where none does, it is done
abbrev pub Settles : List (Cause × Type 0) → Result (Unit {0}) Cause → Type 0 → Type 0
Settles cs (Ok _) Done = NoneOf cs × Done
Settles cs (Err c) Done = FirstOf cs c

-- with p places and w bytes of work area at hand
module _ (p w : ℕ) where
  -- these lines have been read, and are good
  pub record Stands (file : List ℕ) (reader : Reader) (before : List Line) : Type 0 where
    pub bytes : file ≡ written before ++ reader.rest.now
    pub good : Good p w [] before reader.rest.now
    pub lines : reader.lines ≡ length before
    pub last : reader.last ≡ last_form before
    pub users : reader.users ≡ user_count before

  -- no axiom, user or goal has come yet
  pub record Quiet (before : List Line) : Type 0 where
    pub book : book_of p w before ≡ blank
    pub users : users_of before ≡ []
    pub prints : Prints p w [] before []

  -- lines that name a kind, and nothing else
  pub record KindRead (file : List ℕ) (reader : Reader) (before : List Line) (k : AnyKind) : Type 0 where
    pub stands : Stands file reader before
    pub kind : Same (any_kind k) (kind_of before)
    pub some : 0 < length before
    pub next : LogicNext reader
    pub none : lines_of 2 before ≡ []
    pub quiet : Quiet before

  -- a table's pairs up to the line that was found last, whose checks pass but for meets and joins
  pub record TableRead (file : List ℕ) (reader : Reader) (x : Line) (labels : ℕ) (rows : List ℕ) (before : List Line) : Type 0 where
    pub stands : Stands file reader before
    pub first : Line
    pub others : List Line
    pub all : before ++ (x ∷ []) ≡ first ∷ others
    pub form : first.form ≡ KindLine TableForm
    pub size : at first 0 ≡ labels
    pub keeps : KeepsPairs labels rows (pairs others)
    pub pair : OfTable x.form
    pub passes : (behind : List ℕ) → ((PairNext behind → ⊥) × Lacking (kind_of (before ++ (x ∷ []))) → ⊥) → NoneOf (line_checks p w before x behind)
    pub fails : (behind : List ℕ) → (PairNext behind → ⊥) × Lacking (kind_of (before ++ (x ∷ []))) → FirstOf (line_checks p w before x behind) (Kind NoMeetOrJoin)
    pub none : lines_of 2 (before ++ (x ∷ [])) ≡ []
    pub quiet : Quiet (before ++ (x ∷ []))

  -- kind and logic are those of the lines, and nothing has come behind them
  pub record Opened (before : List Line) (k : AnyKind) (l : AnyLogic) : Type 0 where
    pub late : Late before
    pub kind : Same (any_kind k) (kind_of before)
    pub logic : Named l before
    pub quiet : Quiet before

  -- sheet and users hold what the lines say
  pub record Keeping (before : List Line) (desk : Desk) : Type 0 where
    pub kind : Same (any_kind desk.sheet.kind) (kind_of before)
    pub logic : Named desk.sheet.logic before
    pub book : Holds any_kind any_logic desk.sheet (book_of p w before)
    pub users : desk.users.items ≡ users_of before
    pub admitted : (u : ℕ) → In u (users_of before) → JoinPrime (kind_of before) u

  -- a line's checks, and what is done where they pass
  abbrev pub Steps : List Line → Line → List ℕ → Result (Unit {0}) Cause → Type 0 → Type 0
  Steps before x behind r Done = Settles (line_checks p w before x behind) r Done

  -- the goal is taken and published
  abbrev pub Shows : List Line → Goal → Type 0
  Shows before g = ((logic_of before).TakesGoal g) × In g (book_of p w before).published

  -- what the users see of the goal is printed; nobody is refused
  abbrev pub Sighted : List Line → Goal → Result (Unit {0}) Cause → Printer → Printer → Type 0
  Sighted before g (Ok _) old new =
      (seen : List (ℕ × Bool)) × Seen (kind_of before) (logic_of before) (book_of p w before) g (users_of before) seen × Adds (sight_lines g seen) old new
  Sighted before g (Err c) old new = ⊥

  -- the line's print stands behind what was printed before
  abbrev pub LinePrinted : List Line → Line → Printer → Printer → Type 0
  LinePrinted before x old new = (s : List ℕ) × LinePrints p w x.form (before ++ (x ∷ [])) x s × Adds s old new

  -- the lines that were read behind the logic, and what they printed
  pub record Along (file : List ℕ) (begun : Printer) (reader : Reader) (before : List Line) (desk : Desk) (print : Printer) : Type 0 where
    pub stands : Stands file reader before
    pub late : Late before
    pub keeping : Keeping before desk
    pub told : List ℕ
    pub prints : Prints p w [] before told
    pub printed : Adds told begun print

  -- how a file ends: with its print, or refused
  abbrev pub Ends : List ℕ → Printer → Result (Unit {0}) Cause → ℕ → Printer → Type 0
  Ends file begun (Ok _) lines print = (t : List ℕ) × PrintOf p w file t × Adds t begun print
  Ends file begun (Err c) lines print = Refuses p w file (lines + 1) c

  -- what a file comes to, before anything is cleared
  abbrev pub Outcome : List ℕ → List ℕ → Result ℕ ReportFault → List ℕ → Type 0
  Outcome file out (Ok n) out' = (length file ≤ 16384) × ((t : List ℕ) × PrintOf p w file t × Printed t out (Some n) out')
  Outcome file out (Err f) out' = Refused p w file (length out) f
