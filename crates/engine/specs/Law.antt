-- Which calls are refused and why, what the others answer and leave, and the law of a history.
use Rattle.std.specs.Prelude.{◌≡◌, ℕ, ◌+◌, ◌-◌, ◌<◌, ◌≤◌, min, Bool, T, ◌⊎◌, List, [], ◌∷◌, ◌++◌, length, take, drop, replicate, Option, Ok, Err, Result, ◌≢◌, slice_index_or}
use Rattle.base.specs.Words.{Iff, In}
use Rattle.base.specs.Checks.{FirstOf, NoneOf}
use Rattle.labels.specs.Order.{LabelOrder, Label, JoinPrime}
use Rattle.labels.specs.Fault.{number as number_of_kind}
use Rattle.labels.specs.declared.fault.KindFault.TheVariants.{NotALabel, NotAdmitted}
use Rattle.logics.specs.Entailment.{Entailment, Goal, Scrubbed}
use Rattle.logics.specs.Faults.{numbered as number_of_logic}
use Rattle.logics.specs.declared.LogicFault.TheVariants.{RecordNotTaken, GoalNotTaken}
use Rattle.ordered.specs.Lists.{Ascending}
use Rattle.supports.specs.Supports as supports
use Rattle.engine.specs.declared.call.Call.{Call}
use Rattle.engine.specs.declared.call.Call.TheVariants.{Enter, Withdraw, Relabel, Supports, Publish, Boundary, Row, See}
use Rattle.engine.specs.declared.call.SheetFault.{SheetFault}
use Rattle.engine.specs.declared.call.SheetFault.TheVariants.{Full, NoSuchAxiom, WithdrawnAlready, ShortArea, MoreSupports, RowsFull, NotPublished, Kind, Logic}
use Rattle.engine.specs.declared.call.Answer.{Answer}
use Rattle.engine.specs.declared.call.Answer.TheVariants.{Entered, Done, Count, Bound, RowAt, Seen}
use Rattle.engine.specs.Pages.{NoPage}
use Rattle.engine.specs.Book.{Book, after}
use Rattle.engine.specs.Sight.{entries, InForce, AllSupports, IsBoundary, Sees}

-- the number of each fault
abbrev pub number : SheetFault → ℕ
number Full = 10
number NoSuchAxiom = 11
number WithdrawnAlready = 12
number ShortArea = 14
number MoreSupports = 15
number RowsFull = 16
number NotPublished = 18
number (Kind f) = number_of_kind f
number (Logic f) = number_of_logic f

abbrev pub Published : Book → Goal → Type 0
Published b g = In g b.published

abbrev pub Smaller : Goal → Goal → Type 0
Smaller g h = (g.0 < h.0) ⊎ ((g.0 ≡ h.0) × (g.1 < h.1))

-- the published goals, one each, ascending
pub record RowGoals (b : Book) (gs : List Goal) : Type 0 where
  pub same : (g : Goal) → Iff (In g gs) (Published b g)
  pub ascending : Ascending Smaller gs

abbrev pub NoAxiom : Book → ℕ → Type 0
NoAxiom b n = NoPage b.pages n

-- the places and the bytes of work area at hand
pub record Buffers : Type 0 where
  pub places : List ℕ
  pub area : List ℕ

abbrev pub buffers : List ℕ → List ℕ → Buffers
buffers places area = record { places = places; area = area }

-- the first p places and w bytes
abbrev pub front : ℕ → ℕ → Buffers → Buffers
front p w d = record { places = take p d.places; area = take w d.area }

abbrev pub back : ℕ → ℕ → Buffers → Buffers
back p w d = record { places = drop p d.places; area = drop w d.area }

module _ (k : LabelOrder) (l : Entailment) (b : Book) where
  -- there are more different supports than places
  abbrev pub MoreThan : Goal → ℕ → Type 0
  MoreThan g places = supports.MoreThan l (entries b) (InForce b) g places

  -- the checks of a call in their order: the fault, and the case in which it is given
  abbrev pub checks : Call → List (SheetFault × Type 0)
  checks (Enter r a) = (Full, 64 ≤ length b.pages) ∷ (Logic RecordNotTaken, (l.TakesRecord r → ⊥)) ∷ (Kind NotALabel, (Label k a → ⊥)) ∷ []
  checks (Withdraw n) = (NoSuchAxiom, NoAxiom b n) ∷ (WithdrawnAlready, (InForce b (n - 1) → ⊥)) ∷ []
  checks (Relabel n a) = (NoSuchAxiom, NoAxiom b n) ∷ (WithdrawnAlready, (InForce b (n - 1) → ⊥)) ∷ (Kind NotALabel, (Label k a → ⊥)) ∷ []
  checks (Supports g p w) = (Logic GoalNotTaken, (l.TakesGoal g → ⊥)) ∷ (ShortArea, w < l.bytes) ∷ (MoreSupports, MoreThan g p) ∷ []
  checks (Publish g p w) =
      (Logic GoalNotTaken, (l.TakesGoal g → ⊥)) ∷ (RowsFull, (Published b g → ⊥) × (64 ≤ length b.published)) ∷ (ShortArea, w < l.bytes) ∷ (MoreSupports, MoreThan g p) ∷ []
  checks (Boundary g) = (Logic GoalNotTaken, (l.TakesGoal g → ⊥)) ∷ (NotPublished, (Published b g → ⊥)) ∷ []
  checks (Row i) = (NotPublished, (gs : List Goal) × RowGoals b gs × (length gs ≤ i)) ∷ []
  checks (See u g) = (Logic GoalNotTaken, (l.TakesGoal g → ⊥)) ∷ (Kind NotALabel, (Label k u → ⊥)) ∷ (Kind NotAdmitted, (JoinPrime k u → ⊥)) ∷ (NotPublished, (Published b g → ⊥)) ∷ []

  -- the first case that holds gives the fault, and where none holds the call is accepted
  abbrev pub RefusedBy : Call → SheetFault → Type 0
  RefusedBy c f = FirstOf (checks c) f

  abbrev pub Accepted : Call → Type 0
  Accepted c = NoneOf (checks c)

  -- what an accepted call answers
  abbrev pub Answered : Call → Answer → Type 0
  Answered (Enter r a) x = x ≡ Entered (length b.pages + 1)
  Answered (Withdraw n) x = x ≡ Done
  Answered (Relabel n a) x = x ≡ Done
  Answered (Supports g p w) x = (ss : List ℕ) × AllSupports l b g ss × (x ≡ Count (length ss))
  Answered (Publish g p w) x = (ss : List ℕ) × AllSupports l b g ss × (x ≡ Count (length ss))
  Answered (Boundary g) x = (v : Option ℕ) × IsBoundary k l b g v × (x ≡ Bound v)
  Answered (Row i) x =
      (gs : List Goal) × RowGoals b gs × ((v : Option ℕ) × IsBoundary k l b (slice_index_or gs i (0, 0)) v × (x ≡ RowAt (slice_index_or gs i (0, 0), v)))
  Answered (See u g) x = (r : Bool) × Iff (T r) (Sees k l b u g) × (x ≡ Seen r)

  -- what places and work area hold afterwards. Accepted: the supports, then zeros
  abbrev pub Filled : Goal → List ℕ → List ℕ → Type 0
  Filled g before now = (ss : List ℕ) × AllSupports l b g ss × (now ≡ ss ++ replicate (length before - length ss) 0)

  abbrev pub Zeroed : List ℕ → List ℕ → Type 0
  Zeroed before now = now ≡ replicate (length before) 0

  abbrev pub SearchLeaves : Goal → Result Answer SheetFault → Buffers → Buffers → Type 0
  SearchLeaves g (Ok (Count n)) d e = Filled g d.places e.places × Scrubbed l.bytes d.area e.area
  SearchLeaves g (Err f) d e =
      ((f ≡ MoreSupports) × Zeroed d.places e.places × Scrubbed l.bytes d.area e.area) ⊎ ((f ≢ MoreSupports) × (e ≡ d))
  SearchLeaves g (Ok (Entered n)) d e = ⊥
  SearchLeaves g (Ok Done) d e = ⊥
  SearchLeaves g (Ok (Bound v)) d e = ⊥
  SearchLeaves g (Ok (RowAt r)) d e = ⊥
  SearchLeaves g (Ok (Seen r)) d e = ⊥

  -- the places and bytes that a call is given
  abbrev pub Leaves : Call → Result Answer SheetFault → Buffers → Buffers → Type 0
  Leaves (Enter r a) x d e = e ≡ d
  Leaves (Withdraw n) x d e = e ≡ d
  Leaves (Relabel n a) x d e = e ≡ d
  Leaves (Supports g p w) x d e = SearchLeaves g x (front p w d) (front p w e) × (back p w e ≡ back p w d)
  Leaves (Publish g p w) x d e = SearchLeaves g x (front p w d) (front p w e) × (back p w e ≡ back p w d)
  Leaves (Boundary g) x d e = e ≡ d
  Leaves (Row i) x d e = e ≡ d
  Leaves (See u g) x d e = e ≡ d

  -- the law of a call: a refusal by its first case, or the answer of the book
  abbrev pub Lawfully : Call → Result Answer SheetFault → Type 0
  Lawfully c (Ok x) = Accepted c × Answered c x
  Lawfully c (Err f) = RefusedBy c f

-- a call with as many places and bytes as it asks for, where there are so many
abbrev pub given : ℕ → ℕ → Call → Call
given p w (Enter r a) = Enter r a
given p w (Withdraw n) = Withdraw n
given p w (Relabel n a) = Relabel n a
given p w (Supports g q v) = Supports g (min q p) (min v w)
given p w (Publish g q v) = Publish g (min q p) (min v w)
given p w (Boundary g) = Boundary g
given p w (Row i) = Row i
given p w (See u g) = See u g

-- the book after one call more
abbrev pub Next : LabelOrder → Entailment → Book → Call → Book → Type 0
Next k l b c d = ((f : SheetFault) × RefusedBy k l b c f × (d ≡ b)) ⊎ (Accepted k l b c × (d ≡ after c b))

-- the law of a history: each answer is the lawful one by the book of the calls before it, and each call leaves the
-- buffers as it should
abbrev pub Run : LabelOrder → Entailment → Book → Buffers → List Call → List (Result Answer SheetFault) → Buffers → Type 0
Run k l b d [] [] e = e ≡ d
Run k l b d [] (x ∷ xs) e = ⊥
Run k l b d (c ∷ cs) [] e = ⊥
Run k l b d (c ∷ cs) (x ∷ xs) e =
    (m : Book) × (f : Buffers) × Lawfully k l b c x × Next k l b c m × Leaves k l b c x d f × Run k l m f cs xs e
