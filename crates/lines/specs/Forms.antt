-- The forms of a line: how it begins, how many numbers follow, and after which line it may stand.
use Rattle.std.specs.Prelude.{◌≡◌, ℕ, ◌<◌, ◌≤◌, ◌⊎◌, List, Some, None, codes, Option}
use Rattle.lines.specs.declared.form.Form.{Form}
use Rattle.lines.specs.declared.form.Form.TheVariants.{Kind, Pair, Logic, Axiom, User, Goal}
use Rattle.lines.specs.declared.form.Section.{Section}
use Rattle.lines.specs.declared.form.Section.TheVariants.{Kind as Kinds, Pairs, Logic as Logics, Axioms, Users, Goals}
use Rattle.lines.specs.declared.form.KindForm.TheVariants.{Chain, Sets, House, Table}
use Rattle.lines.specs.declared.form.LogicForm.TheVariants.{El, Links}
use Rattle.logics.specs.declared.form.Form.TheVariants.{Lies, Both, Partner, Source, Link}

-- the letter of a line and, for a kind or a logic, its word
abbrev pub opening : Form → List ℕ
opening (Kind Chain) = codes "K,chain"
opening (Kind Sets) = codes "K,sets"
opening (Kind House) = codes "K,house"
opening (Kind Table) = codes "K,table"
opening Pair = codes "O"
opening (Logic El) = codes "G,el"
opening (Logic Links) = codes "G,links"
opening (Axiom Lies) = codes "S"
opening (Axiom Both) = codes "C"
opening (Axiom Partner) = codes "E"
opening (Axiom Source) = codes "R"
opening (Axiom Link) = codes "T"
opening User = codes "U"
opening Goal = codes "Q"

-- how many numbers follow
abbrev pub arity : Form → ℕ
arity (Kind Chain) = 1
arity (Kind Sets) = 1
arity (Kind House) = 0
arity (Kind Table) = 1
arity Pair = 2
arity (Logic El) = 2
arity (Logic Links) = 1
arity (Axiom Lies) = 3
arity (Axiom Both) = 4
arity (Axiom Partner) = 4
arity (Axiom Source) = 4
arity (Axiom Link) = 3
arity User = 1
arity Goal = 2

-- the sections of a file, in their order
abbrev pub section : Form → ℕ
section (Kind k) = 0
section Pair = 1
section (Logic l) = 2
section (Axiom a) = 3
section User = 4
section Goal = 5

-- the place of a section among them
abbrev pub place : Section → ℕ
place Kinds = 0
place Pairs = 1
place Logics = 2
place Axioms = 3
place Users = 4
place Goals = 5

-- pairs are for a table
abbrev pub OfTable : Form → Type 0
OfTable f = (f ≡ Kind Table) ⊎ (f ≡ Pair)

-- up to the logic come the pairs of a table and one logic; behind it no section goes back
abbrev pub After : Form → Form → Type 0
After last f =
    ((section last < 2) × ((section f ≡ 2) ⊎ ((section f ≡ 1) × OfTable last))) ⊎ ((2 ≤ section last) × (3 ≤ section f) × (section last ≤ section f))

-- a line may stand first if it names the kind; at most 16 lines name users
abbrev pub May : Option Form → ℕ → Form → Type 0
May None users f = section f ≡ 0
May (Some last) users f = After last f × (section f ≡ 4 → users < 16)
