-- The checks of a line, in their order, by the lines before it and the bytes behind it.
use Rattle.std.specs.Prelude.{◌≡◌, ℕ, ◌+◌, ◌<◌, ◌⊎◌, List, [], ◌∷◌, ◌++◌, map, length}
use Rattle.base.specs.Checks.{FirstOf, NoneOf}
use Rattle.labels.specs.Order.{Label, JoinPrime}
use Rattle.labels.specs.Chain.{ChainSize}
use Rattle.labels.specs.Sets.{SetsSize}
use Rattle.labels.specs.declared.fault.KindFault.TheVariants.{SizeOutOfLimits, Loop, NoMeetOrJoin, NotALabel, NotAdmitted}
use Rattle.tables.specs.Table.{TableSize, OfLabels, Looped, Lacking}
use Rattle.logics.specs.El.{ElLimits}
use Rattle.logics.specs.Links.{PointLimits}
use Rattle.logics.specs.declared.LogicFault.TheVariants.{SizeOutOfLimits as LogicSize}
use Rattle.engine.specs.Law.{checks}
use Rattle.engine.specs.declared.call.SheetFault.{SheetFault}
use Rattle.engine.specs.declared.call.Call.TheVariants.{Enter, Publish}
use Rattle.lines.specs.declared.fault.TextFault.{TextFault}
use Rattle.lines.specs.declared.fault.TextFault.TheVariants.{Misplaced}
use Rattle.lines.specs.declared.form.Form.{Form}
use Rattle.lines.specs.declared.form.Form.TheVariants.{Kind as KindLine, Pair, Logic as LogicLine, Axiom, User, Goal}
use Rattle.lines.specs.declared.form.KindForm.TheVariants.{Chain, Sets, House, Table}
use Rattle.lines.specs.declared.form.LogicForm.TheVariants.{El, Links}
use Rattle.lines.specs.declared.form.Line.{Line}
use Rattle.lines.specs.Forms.{May}
use Rattle.lines.specs.Lines.{written, Whole, lines_of, last_form}
use Rattle.lines.specs.Reading.{Next, TextFails}
use Rattle.report.specs.declared.fault.Cause.{Cause}
use Rattle.report.specs.declared.fault.Cause.TheVariants.{Text, Kind, Logic, Sheet}
use Rattle.report.specs.Meaning.{at, two, kind_of, logic_of, entry, book_of}

-- the first field of the bytes is the letter O
abbrev pub PairNext : List ℕ → Type 0
PairNext [] = ⊥
PairNext (b ∷ []) = b ≡ 79
PairNext (b ∷ c ∷ cs) = (b ≡ 79) × ((c ≡ 44) ⊎ (c ≡ 10))

-- how many labels the table has
abbrev pub table_size : List Line → ℕ
table_size ls = (kind_of ls).size

-- meets and joins are looked for when the last pair has come
abbrev pub whole : List Line → List ℕ → List (Cause × Type 0)
whole ls behind = (Kind NoMeetOrJoin, (PairNext behind → ⊥) × Lacking (kind_of ls)) ∷ []

-- a sheet's checks of a call
abbrev pub of_sheet : List (SheetFault × Type 0) → List (Cause × Type 0)
of_sheet cs = map (λ c. (Sheet c.0, c.1)) cs

-- how many lines name users
abbrev pub user_count : List Line → ℕ
user_count ls = length (lines_of 4 ls)

-- with p places and w bytes of work area at hand
module _ (p w : ℕ) where
  -- the checks of a form: each a fault, and the case in which it is given
  abbrev pub checks_by : Form → List Line → Line → List ℕ → List (Cause × Type 0)
  checks_by (KindLine Chain) before x behind = (Kind SizeOutOfLimits, (ChainSize (at x 0) → ⊥)) ∷ []
  checks_by (KindLine Sets) before x behind = (Kind SizeOutOfLimits, (SetsSize (at x 0) → ⊥)) ∷ []
  checks_by (KindLine House) before x behind = []
  checks_by (KindLine Table) before x behind = (Kind SizeOutOfLimits, (TableSize (at x 0) → ⊥)) ∷ whole (before ++ (x ∷ [])) behind
  checks_by Pair before x behind =
      (Kind NotALabel, (OfLabels (table_size before) (two x) → ⊥)) ∷ (Kind Loop, Looped (kind_of (before ++ (x ∷ [])))) ∷ whole (before ++ (x ∷ [])) behind
  checks_by (LogicLine El) before x behind = (Logic LogicSize, (ElLimits (at x 0) (at x 1) → ⊥)) ∷ []
  checks_by (LogicLine Links) before x behind = (Logic LogicSize, (PointLimits (at x 0) → ⊥)) ∷ []
  checks_by (Axiom f) before x behind = of_sheet (checks (kind_of before) (logic_of before) (book_of p w before) (Enter (entry f x) (at x 0)))
  checks_by User before x behind = (Kind NotALabel, (Label (kind_of before) (at x 0) → ⊥)) ∷ (Kind NotAdmitted, (JoinPrime (kind_of before) (at x 0) → ⊥)) ∷ []
  checks_by Goal before x behind = of_sheet (checks (kind_of before) (logic_of before) (book_of p w before) (Publish (two x) p w))

  -- the checks of a line are those of its form
  abbrev pub line_checks : List Line → Line → List ℕ → List (Cause × Type 0)
  line_checks before x behind = checks_by x.form before x behind

  -- a line that stands where it may, and passes its checks
  pub record Passes (before : List Line) (x : Line) (behind : List ℕ) : Type 0 where
    pub whole : Whole x
    pub may : May (last_form before) (user_count before) x.form
    pub none : NoneOf (line_checks before x behind)

  -- lines that pass one after the other, with these bytes behind them
  abbrev pub Good : List Line → List Line → List ℕ → Type 0
  Good before [] behind = Unit {0}
  Good before (x ∷ xs) behind = Passes before x (written xs ++ behind) × Good (before ++ (x ∷ [])) xs behind

  -- the first check that fails behind good lines: the file ends too early, or its next line is refused for its text, or by its
  -- own checks
  pub data Fails (before : List Line) (rest : List ℕ) : Cause → Type 0 where
    early : rest ≡ [] → lines_of 2 before ≡ [] → Fails before rest (Text Misplaced)
    text : {f : TextFault} → 0 < length rest → TextFails (last_form before) (user_count before) rest f → Fails before rest (Text f)
    check : {c : Cause} → (x : Line) (behind : List ℕ) → Next (last_form before) (user_count before) rest x behind → FirstOf (line_checks before x behind) c → Fails before rest c

  -- a file is refused at the line of its first check that fails
  pub record Refuses (file : List ℕ) (line : ℕ) (cause : Cause) : Type 0 where
    pub before : List Line
    pub rest : List ℕ
    pub bytes : file ≡ written before ++ rest
    pub good : Good [] before rest
    pub fails : Fails before rest cause
    pub counted : line ≡ length before + 1

  -- the lines of a file that is not refused
  pub record Accepts (file : List ℕ) (ls : List Line) : Type 0 where
    pub bytes : file ≡ written ls
    pub good : Good [] ls []
    pub complete : 0 < length (lines_of 2 ls)
