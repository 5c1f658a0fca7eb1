-- Supports, boundaries, and what a user may see, by the book alone.
use Rattle.std.specs.Prelude.{ℕ, T, List, Some, None, Option}
use Rattle.base.specs.Bits.{Has}
use Rattle.base.specs.Words.{Iff}
use Rattle.labels.specs.Order.{LabelOrder, Label, Under}
use Rattle.logics.specs.Entailment.{Entailment, Goal}
use Rattle.logics.specs.declared.Record.{Record}
use Rattle.supports.specs.Supports as supports
use Rattle.engine.specs.declared.page.Page.{Page}
use Rattle.engine.specs.Pages.{At, Standing, records_of}
use Rattle.engine.specs.Book.{Book}

-- the records of the axioms entered
abbrev pub entries : Book → List Record
entries b = records_of b.pages

-- p is the page of axiom i + 1
abbrev pub PageAt : Book → ℕ → Page → Type 0
PageAt b i p = At b.pages i p

abbrev pub InForce : Book → ℕ → Type 0
InForce b i = Standing b.pages i

module _ (l : Entailment) (b : Book) (g : Goal) where
  -- the goal follows from the axioms of s
  abbrev pub Yields : ℕ → Type 0
  Yields = supports.Yields l (entries b) (InForce b) g

  -- a minimal set of axioms in force that yields the goal
  abbrev pub Support : ℕ → Type 0
  Support = supports.Support l (entries b) (InForce b) g

  -- every support once, ascending
  abbrev pub AllSupports : List ℕ → Type 0
  AllSupports = supports.AllSupports l (entries b) (InForce b) g

-- m is the greatest label at or below the latest label of each axiom of s; of no axiom, the top
pub record MeetOf (k : LabelOrder) (b : Book) (s m : ℕ) : Type 0 where
  pub label : Label k m
  pub under : (i : ℕ) (p : Page) → Has s i → PageAt b i p → Under k m p.label
  pub greatest : (c : ℕ) → Label k c → ((i : ℕ) (p : Page) → Has s i → PageAt b i p → Under k c p.label) → Under k c m

-- v is the least label at or above the meet of each support
pub record LeastAbove (k : LabelOrder) (l : Entailment) (b : Book) (g : Goal) (v : ℕ) : Type 0 where
  pub supported : (s : ℕ) × Support l b g s
  pub label : Label k v
  pub above : (s m : ℕ) → Support l b g s → MeetOf k b s m → Under k m v
  pub least : (w : ℕ) → Label k w → ((s m : ℕ) → Support l b g s → MeetOf k b s m → Under k m w) → Under k v w

-- absent exactly when the goal has no support
abbrev pub IsBoundary : LabelOrder → Entailment → Book → Goal → Option ℕ → Type 0
IsBoundary k l b g None = (s : ℕ) → Support l b g s → ⊥
IsBoundary k l b g (Some v) = LeastAbove k l b g v

-- s holds the axioms in force whose latest label lies at or above the user's
abbrev pub Visible : LabelOrder → Book → ℕ → ℕ → Type 0
Visible k b u s = (i : ℕ) → Iff (Has s i) ((p : Page) × PageAt b i p × T p.stands × Under k u p.label)

-- the goal follows from what the user may see
abbrev pub Sees : LabelOrder → Entailment → Book → ℕ → Goal → Type 0
Sees k l b u g = (s : ℕ) × Visible k b u s × Yields l b g s
