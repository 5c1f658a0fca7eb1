-- What a call of the sheet shows of the line that it is made for.
use Rattle.std.proofs.Common.{◌≡◌, ℕ, ◌<◌, ◌≤◌, List, [], ◌∷◌, ◌++◌, length, Ok, Err, Result, sym, ap, ◌∙◌, subst, ap₂, inl, inr, arith}
use Rattle.std.proofs.lemmas.List.{length-map}
use Rattle.base.specs.Words.{In}
use Rattle.base.specs.Checks.{FirstOf, NoneOf}
use Rattle.base.proofs.Checks.{none_first}
use Rattle.labels.specs.Order.{LabelOrder, JoinPrime, Same}
use Rattle.labels.proofs.Orders.{same_sym}
use Rattle.logics.specs.Entailment.{Entailment}
use Rattle.logics.specs.El.{el, ElRecord, ElLimits}
use Rattle.logics.specs.Links.{links}
use Rattle.logics.specs.declared.Record.{Record}
use Rattle.engine.specs.Book.{Book, after}
use Rattle.engine.specs.Law.{checks, RefusedBy, Accepted, Next}
use Rattle.engine.specs.Obeys.{Holds}
use Rattle.engine.specs.declared.call.SheetFault.{SheetFault}
use Rattle.engine.specs.declared.call.Call.{Call}
use Rattle.engine.specs.declared.call.Call.TheVariants.{Enter}
use Rattle.lines.specs.declared.form.Form.{Form}
use Rattle.lines.specs.declared.form.Line.{Line}
use Rattle.lines.specs.Forms.{section}
use Rattle.lines.specs.Lines.{lines_of}
use Rattle.report.specs.declared.any.AnyLogic.{AnyLogic}
use Rattle.report.specs.declared.any.AnyLogic.TheVariants.{El, Links}
use Rattle.report.specs.declared.desk.Desk.{Desk}
use Rattle.report.specs.declared.fault.Cause.{Cause}
use Rattle.report.specs.declared.fault.Cause.TheVariants.{Sheet}
use Rattle.report.specs.Any.{any_kind, any_logic}
use Rattle.report.specs.Meaning.{at, calls_by, booked, kind_of, logic_by, first_logic, logic_of, book_of, users_of}
use Rattle.report.specs.Checks.{of_sheet, checks_by, line_checks, user_count}
use Rattle.report.specs.Stands.{LogicChosen, Named, Keeping, Settles}
use Rattle.report.proofs.Standing.{lines_of_same, kind_of_same, book_of_more}
use Rattle.report.proofs.Sames.{label_same}

-- a line's checks and calls are those of its form
module _ (p w : ℕ) (before : List Line) (x : Line) (behind : List ℕ) {f : Form} (is : x.form ≡ f) where
  pub first_by : (c : Cause) → FirstOf (checks_by p w f before x behind) c → FirstOf (line_checks p w before x behind) c
  first_by c first = subst (λ (h : Form). FirstOf (checks_by p w h before x behind) c) (sym is) first

  pub none_by : NoneOf (checks_by p w f before x behind) → NoneOf (line_checks p w before x behind)
  none_by none = subst (λ (h : Form). NoneOf (checks_by p w h before x behind)) (sym is) none

  pub book_by : book_of p w (before ++ (x ∷ [])) ≡ booked (calls_by p w f x) (book_of p w before)
  book_by = book_of_more p w before x ∙ ap (λ (h : Form). booked (calls_by p w h x) (book_of p w before)) is

  pub late_by : 3 ≤ section f → 3 ≤ section x.form
  late_by late = subst (λ (h : Form). 3 ≤ section h) (sym is) late

-- the checks of a call on the sheet are those of its line, each fault within the line's
pub first_in : (cs : List (SheetFault × Type 0)) (f : SheetFault) → FirstOf cs f → FirstOf (of_sheet cs) (Sheet f)
first_in [] f first = first
first_in (c ∷ cs) f (inl (holds, is)) = inl (holds, ap (λ (g : SheetFault). Sheet g) is)
first_in (c ∷ cs) f (inr (fails, rest)) = inr (fails, first_in cs f rest)

pub none_in : (cs : List (SheetFault × Type 0)) → NoneOf cs → NoneOf (of_sheet cs)
none_in [] none = tt
none_in (c ∷ cs) (fails, rest) = (fails, none_in cs rest)

-- the logic is the one that the lines name
chosen_logic : (l : AnyLogic) (x : Line) → LogicChosen x l → any_logic l ≡ logic_by x.form (at x 0) (at x 1)
chosen_logic (El l) x (form, concepts, roles) = ap₂ el concepts roles ∙ ap (λ (f : Form). logic_by f (at x 0) (at x 1)) (sym form)
chosen_logic (Links l) x (form, points) = ap links points ∙ ap (λ (f : Form). logic_by f (at x 0) (at x 1)) (sym form)

pub named_some : (l : AnyLogic) (before : List Line) → Named l before → 0 < length (lines_of 2 before)
named_some l before (x, xs, is, chosen) = omega (arith, ap length is)

not_empty : (before : List Line) → 0 < length (lines_of 2 before) → 0 < length before
not_empty [] some = some
not_empty (x ∷ xs) some = omega arith

named_more : (l : AnyLogic) (before : List Line) (x : Line) → (section x.form ≡ 2 → ⊥) → Named l before → Named l (before ++ (x ∷ []))
named_more l before x other (y, ys, is, chosen) = (y, ys, lines_of_same 2 before x other ∙ is, chosen)

-- numbers of a record that is taken have 16 bits
small_el : (n roles : ℕ) (r : Record) → ElLimits n roles → ElRecord n roles r → (r.a ≤ 65535) × (r.b ≤ 65535) × (r.c ≤ 65535)
small_el n roles r limits taken = elim taken.known [
  | inl one ↦ (omega (arith, limits, taken.lies one), omega (arith, limits, taken.lies one), omega (arith, limits, taken.lies one))
  | inr (inl two) ↦ (omega (arith, limits, taken.both two), omega (arith, limits, taken.both two), omega (arith, limits, taken.both two))
  | inr (inr (inl three)) ↦ (omega (arith, limits, taken.partner three), omega (arith, limits, taken.partner three), omega (arith, limits, taken.partner three))
  | inr (inr (inr four)) ↦ (omega (arith, limits, taken.source four), omega (arith, limits, taken.source four), omega (arith, limits, taken.source four))
]

pub taken_small : (l : AnyLogic) (r : Record) → (any_logic l).TakesRecord r → (r.a ≤ 65535) × (r.b ≤ 65535) × (r.c ≤ 65535)
taken_small (El l) r taken = small_el l.concepts l.roles r l.limits taken
taken_small (Links l) r taken = (omega (arith, l.limits, taken.from), omega (arith, l.limits, taken.to), omega (arith, taken.rest))

-- the book after a call that passes its checks
pub next_after : (k : LabelOrder) (l : Entailment) (b : Book) (c : Call) (d : Book) → Accepted k l b c → Next k l b c d → d ≡ after c b
next_after k l b c d none (inl (f, first, _)) = absurd (none_first (checks k l b c) f none first)
next_after k l b c d none (inr (_, is)) = is

-- the checks of enter, by two orders that are the same
module _ (k h : LabelOrder) (s : Same k h) (l : Entailment) (b : Book) (r : Record) (a : ℕ) where
  pub enter_first : (f : SheetFault) → RefusedBy k l b (Enter r a) f → RefusedBy h l b (Enter r a) f
  enter_first f (inl full) = inl full
  enter_first f (inr (some, inl record_bad)) = inr (some, inl record_bad)
  enter_first f (inr (some, inr (takes, inl (none, is)))) = inr (some, inr (takes, inl ((λ label. none (label_same h k (same_sym k h s) a label)), is)))
  enter_first f (inr (some, inr (takes, inr (label, never)))) = absurd never

  pub enter_none : Accepted k l b (Enter r a) → Accepted h l b (Enter r a)
  enter_none (some, (takes, (label, rest))) = (some, (takes, ((λ none. label (λ lab. none (label_same k h s a lab))), rest)))

-- the logic of a desk is the one that the lines name
pub logic_is : {p w : ℕ} {before : List Line} {desk : Desk} → Keeping p w before desk → any_logic desk.sheet.logic ≡ logic_of before
logic_is {before = before} {desk} keeping = let (x, xs, is, chosen) = keeping.logic in chosen_logic desk.sheet.logic x chosen ∙ ap first_logic (sym is)

-- one line more, behind the logic
pub keeping_more : {p w : ℕ} {before : List Line} {desk : Desk} → Keeping p w before desk → (x : Line) → 3 ≤ section x.form → (desk' : Desk) → desk'.sheet.kind ≡ desk.sheet.kind → desk'.sheet.logic ≡ desk.sheet.logic
    → Holds any_kind any_logic desk'.sheet (book_of p w (before ++ (x ∷ []))) → desk'.users.items ≡ users_of (before ++ (x ∷ [])) → ((u : ℕ) → In u (users_of (before ++ (x ∷ []))) → JoinPrime (kind_of before) u)
    → Keeping p w (before ++ (x ∷ [])) desk'
keeping_more {before = before} {desk} keeping x late desk' ke le holds users admitted =
    let some : 0 < length before = not_empty before (named_some desk.sheet.logic before keeping.logic) in
    let same : kind_of (before ++ (x ∷ [])) ≡ kind_of before = kind_of_same before x some (λ e. omega arith) in
    record {
      kind = rw (same, ke) keeping.kind;
      logic = named_more desk'.sheet.logic before x (λ e. omega arith) (subst (λ (h : AnyLogic). Named h before) (sym le) keeping.logic);
      book = holds;
      users = users;
      admitted = λ u i. rw same (admitted u i);
    }

-- with something else that holds
pub settles_and : (cs : List (Cause × Type 0)) (r : Result (Unit {0}) Cause) (Done Also : Type 0) → Settles cs r Done → Also → Settles cs r (Done × Also)
settles_and cs (Ok _) Done Also (none, done) also = (none, (done, also))
settles_and cs (Err c) Done Also first also = first

-- as many users as lines name
pub users_counted : {p w : ℕ} {before : List Line} {desk : Desk} → Keeping p w before desk → length desk.users.items ≡ user_count before
users_counted {before = before} keeping = ap length keeping.users ∙ length-map (lines_of 4 before) (λ x. at x 0)
