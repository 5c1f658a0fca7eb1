-- What a report prints, and what it leaves.
use Rattle.std.specs.Prelude.{◌≡◌, ℕ, ◌-◌, ◌<◌, ◌≤◌, Bool, T, ◌⊎◌, List, [], ◌∷◌, ◌++◌, length, replicate, Ok, Err, Option, Result}
use Rattle.base.specs.Words.{Iff}
use Rattle.labels.specs.Order.{LabelOrder, Lawful}
use Rattle.logics.specs.Entailment.{Entailment, Goal}
use Rattle.engine.specs.Book.{Book}
use Rattle.engine.specs.Sight.{AllSupports, IsBoundary, Sees}
use Rattle.prints.specs.Print.{block}
use Rattle.lines.specs.declared.fault.TextFault.TheVariants.{PrintTooLong, FileTooLong}
use Rattle.lines.specs.declared.form.Form.{Form}
use Rattle.lines.specs.declared.form.Form.TheVariants.{Goal as GoalLine}
use Rattle.lines.specs.declared.form.Line.{Line}
use Rattle.report.specs.declared.fault.Cause.TheVariants.{Text}
use Rattle.report.specs.declared.fault.ReportFault.{ReportFault}
use Rattle.report.specs.Meaning.{two, kind_of, logic_of, book_of, users_of}
use Rattle.report.specs.Checks.{Refuses, Accepts}

-- each user with whether the user sees the goal
abbrev pub Seen : LabelOrder → Entailment → Book → Goal → List ℕ → List (ℕ × Bool) → Type 0
Seen k l b g [] seen = seen ≡ []
Seen k l b g (u ∷ us) seen = (yes : Bool) × (rest : List (ℕ × Bool)) × Iff (T yes) (Sees k l b u g) × Seen k l b g us rest × (seen ≡ (u, yes) ∷ rest)

-- the answers that the law gives for a goal, printed
pub record GoalPrints (k : LabelOrder) (l : Entailment) (b : Book) (users : List ℕ) (g : Goal) (t : List ℕ) : Type 0 where
  pub boundary : Option ℕ
  pub supports : List ℕ
  pub seen : List (ℕ × Bool)
  pub lawful : Lawful k
  pub bounds : IsBoundary k l b g boundary
  pub all : AllSupports l b g supports
  pub sights : Seen k l b g users seen
  pub block_of : t ≡ block g boundary supports seen

module _ (p w : ℕ) where
  -- what a line prints, by the lines up to it: only a goal prints
  abbrev pub LinePrints : Form → List Line → Line → List ℕ → Type 0
  LinePrints GoalLine ls x t = GoalPrints (kind_of ls) (logic_of ls) (book_of p w ls) (users_of ls) (two x) t
  LinePrints _ ls x t = t ≡ []

  -- what lines print behind others
  abbrev pub Prints : List Line → List Line → List ℕ → Type 0
  Prints before [] t = t ≡ []
  Prints before (x ∷ xs) t =
      (s : List ℕ) × (r : List ℕ) × LinePrints x.form (before ++ (x ∷ [])) x s × Prints (before ++ (x ∷ [])) xs r × (t ≡ s ++ r)

  -- the file's print
  pub record PrintOf (file t : List ℕ) : Type 0 where
    pub lines : List Line
    pub accepted : Accepts p w file lines
    pub prints : Prints [] lines t

  -- why a report is refused: the file is too long, or its first check that fails, or the print is too long
  abbrev pub Refused : List ℕ → ℕ → ReportFault → Type 0
  Refused file room f =
      ((16384 < length file) × (f ≡ record { line = 0; cause = Text FileTooLong })) ⊎ ((length file ≤ 16384) × (Refuses p w file f.line f.cause ⊎ (((t : List ℕ) × PrintOf file t × (room < length t)) × (f ≡ record { line = 0; cause = Text PrintTooLong }))))

-- zeros alone
abbrev pub Zero : List ℕ → Type 0
Zero bs = bs ≡ replicate (length bs) 0

-- places and work area are zero afterwards; so is the output, but for the print of a file that is accepted
abbrev pub Reported : List ℕ → ℕ → ℕ → ℕ → Result ℕ ReportFault → List ℕ → List ℕ → List ℕ → Type 0
Reported file p w room (Ok n) places area output =
    Zero places × Zero area × (length file ≤ 16384) × ((t : List ℕ) × PrintOf p w file t × (n ≡ length t) × (length t ≤ room) × (output ≡ t ++ replicate (room - n) 0))
Reported file p w room (Err f) places area output = Zero places × Zero area × Zero output × Refused p w file room f
