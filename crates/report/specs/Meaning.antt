-- What the lines of a file say: the label kind, the logic, the calls on the sheet, and the users.
use Rattle.std.specs.Prelude.{ℕ, List, [], ◌∷◌, map, slice_index}
use Rattle.labels.specs.Order.{LabelOrder}
use Rattle.labels.specs.Chain.{chain}
use Rattle.labels.specs.Sets.{sets}
use Rattle.labels.specs.House.{house}
use Rattle.tables.specs.Table.{table}
use Rattle.logics.specs.Entailment.{Entailment}
use Rattle.logics.specs.El.{el}
use Rattle.logics.specs.Links.{links}
use Rattle.logics.specs.declared.Record.{Record}
use Rattle.engine.specs.Book.{Book, blank, after}
use Rattle.engine.specs.declared.call.Call.{Call}
use Rattle.engine.specs.declared.call.Call.TheVariants.{Enter, Publish}
use Rattle.lines.specs.declared.form.Form.{Form}
use Rattle.lines.specs.declared.form.Form.TheVariants.{Kind, Logic, Axiom, Goal as GoalLine}
use Rattle.lines.specs.declared.form.KindForm.TheVariants.{Chain, Sets, House, Table}
use Rattle.lines.specs.declared.form.LogicForm.TheVariants.{El, Links}
use Rattle.logics.specs.declared.form.Form.{Form as AxiomForm}
use Rattle.logics.specs.Forms.{number_of}
use Rattle.lines.specs.declared.form.Line.{Line}
use Rattle.lines.specs.Lines.{lines_of}

-- the numbers of a line, the first by 0
abbrev pub at : Line → ℕ → ℕ
at x i = slice_index x.numbers i

-- the first two numbers: a pair of labels, or a goal
abbrev pub two : Line → ℕ × ℕ
two x = (at x 0, at x 1)

-- before there is a kind there is no label
abbrev pub no_kind : LabelOrder
no_kind = record { size = 0; Below = λ a b. ⊥ }

-- before there is a logic nothing is taken, and nothing follows
abbrev pub no_logic : Entailment
no_logic = record { TakesRecord = λ r. ⊥; TakesGoal = λ g. ⊥; bytes = 0; Follows = λ rs g. ⊥ }

-- the pairs of the O lines
abbrev pub pairs : List Line → List (ℕ × ℕ)
pairs ls = map two (lines_of 1 ls)

-- the kind that a K line names, with the pairs behind it
abbrev pub kind_by : Form → ℕ → List (ℕ × ℕ) → LabelOrder
kind_by (Kind Chain) n ps = chain n
kind_by (Kind Sets) n ps = sets n
kind_by (Kind House) n ps = house
kind_by (Kind Table) n ps = table n ps
kind_by _ n ps = no_kind

-- the K line is the first
abbrev pub kind_of : List Line → LabelOrder
kind_of [] = no_kind
kind_of (x ∷ xs) = kind_by x.form (at x 0) (pairs xs)

-- the logic that a G line names
abbrev pub logic_by : Form → ℕ → ℕ → Entailment
logic_by (Logic El) n r = el n r
logic_by (Logic Links) n r = links n
logic_by _ n r = no_logic

-- the first of the G lines, of which there is one
abbrev pub first_logic : List Line → Entailment
first_logic [] = no_logic
first_logic (x ∷ xs) = logic_by x.form (at x 0) (at x 1)

-- the logic of a sheet of lines
abbrev pub logic_of : List Line → Entailment
logic_of ls = first_logic (lines_of 2 ls)

-- the record of an axiom line: its label comes first, and a third number that its form lacks is 0
abbrev pub entry : AxiomForm → Line → Record
entry f x = record { form = number_of f; a = at x 1; b = at x 2; c = at x 3 }

-- the calls that a line stands for, with p places and w bytes of work area at hand
abbrev pub calls_by : ℕ → ℕ → Form → Line → List Call
calls_by p w (Axiom f) x = Enter (entry f x) (at x 0) ∷ []
calls_by p w GoalLine x = Publish (two x) p w ∷ []
calls_by p w _ x = []

-- the same by the line's form
abbrev pub calls : ℕ → ℕ → Line → List Call
calls p w x = calls_by p w x.form x

-- the book after accepted calls
abbrev pub booked : List Call → Book → Book
booked [] b = b
booked (c ∷ cs) b = booked cs (after c b)

-- the book after the calls of lines
abbrev pub booked_by : ℕ → ℕ → List Line → Book → Book
booked_by p w [] b = b
booked_by p w (x ∷ xs) b = booked_by p w xs (booked (calls p w x) b)

-- the book of a sheet after its lines
abbrev pub book_of : ℕ → ℕ → List Line → Book
book_of p w ls = booked_by p w ls blank

-- the users, in the file's order
abbrev pub users_of : List Line → List ℕ
users_of ls = map (λ x. at x 0) (lines_of 4 ls)
