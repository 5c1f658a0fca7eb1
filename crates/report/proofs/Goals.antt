-- The step of a goal's line.
use Rattle.std.proofs.Common.{◌≡◌, ℕ, ◌-◌, ◌<◌, Bool, true, false, cond, eqb, List, [], ◌∷◌, ◌++◌, length, take, replicate, Ok, Err, Option, Result, sym, refl, ap, ◌∙◌, subst, ap₂, inl, inr, arith, eqb-true}
use native.Mathlib.Decide.{dec_lt}
use Rattle.std.proofs.lemmas.List.{take_at}
use Rattle.prints.specs.declared.Printer.{Printer}
use Rattle.prints.specs.Output.{Adds}
use Rattle.prints.specs.Print.{boundary_line, support_lines, block}
use Rattle.prints.proofs.Adding.{adds_both}
use Rattle.base.specs.Words.{In}
use Rattle.base.specs.Checks.{FirstOf, NoneOf}
use Rattle.labels.specs.Order.{LabelOrder, Lawful}
use Rattle.labels.proofs.Orders.{same_lawful}
use Rattle.logics.specs.Entailment.{Entailment, Goal}
use Rattle.engine.specs.Book.{Book, note, after}
use Rattle.engine.specs.Law.{checks, RefusedBy, Accepted, Buffers, SearchLeaves}
use Rattle.engine.specs.Obeys.{Holds, Obeys}
use Rattle.engine.specs.Sight.{AllSupports, IsBoundary}
use Rattle.engine.proofs.Unique.{determined}
use Rattle.engine.specs.declared.sheet.Sheet.{Sheet as SheetOf}
use Rattle.engine.specs.declared.call.SheetFault.{SheetFault}
use Rattle.engine.specs.declared.call.Call.{Call}
use Rattle.engine.specs.declared.call.Call.TheVariants.{Publish}
use Rattle.engine.specs.declared.call.Answer.TheVariants.{Count}
use Rattle.lines.specs.declared.form.Form.{Form}
use Rattle.lines.specs.declared.form.Form.TheVariants.{Goal as GoalLine}
use Rattle.lines.specs.declared.form.Line.{Line}
use Rattle.lines.specs.Forms.{section}
use Rattle.report.specs.declared.any.AnyKind.{AnyKind}
use Rattle.report.specs.declared.any.AnyLogic.{AnyLogic}
use Rattle.report.specs.declared.any.AnyLogic.TheVariants.{El, Links}
use Rattle.report.specs.declared.desk.Desk.{Desk}
use Rattle.report.specs.declared.fault.Cause.{Cause}
use Rattle.report.specs.declared.fault.Cause.TheVariants.{Sheet}
use Rattle.report.specs.Any.{any_kind, any_logic}
use Rattle.report.specs.Meaning.{two, kind_of, logic_of, book_of, users_of}
use Rattle.report.specs.Checks.{line_checks}
use Rattle.report.specs.Report.{GoalPrints, LinePrints}
use Rattle.report.specs.Stands.{Keeping, Shows, Sighted, Steps, LinePrinted}
use Rattle.report.specs.AnyLawful.{any_lawful}
use Rattle.report.proofs.Standing.{logic_of_same, users_of_same}
use Rattle.report.proofs.Stepping.{first_by, none_by, book_by, late_by, first_in, none_in, logic_is, next_after, keeping_more}

-- a goal that is noted is among those noted
noted : (g : Goal) (gs : List Goal) → In g (note g gs)
noted g [] = inl refl
noted g (h ∷ hs) = cases (noted g hs) (eqb g.0 h.0) (eqb g.1 h.1) refl refl
  where
    cases : In g (note g hs) → (a b : Bool) → eqb g.0 h.0 ≡ a → eqb g.1 h.1 ≡ b → In g (cond (cond a b false) (h ∷ hs) (h ∷ note g hs))
    cases rest true true e f = inl (ap₂ (λ (m n : ℕ). (m, n)) (eqb-true g.0 h.0 e) (eqb-true g.1 h.1 f))
    cases rest true false e f = inr rest
    cases rest false b e f = inr rest

-- whether a goal is taken is decided
lt_stable : (a n : ℕ) → ((a < n → ⊥) → ⊥) → a < n
lt_stable a n not = elim (dec_lt a n) [ yes lt ↦ lt | no ge ↦ absurd (not ge) ]

takes_stable : (l : AnyLogic) (g : Goal) → (((any_logic l).TakesGoal g → ⊥) → ⊥) → (any_logic l).TakesGoal g
takes_stable (El l) g not = (lt_stable g.0 l.concepts (λ no. not (λ t. no t.0)), lt_stable g.1 l.concepts (λ no. not (λ t. no t.1)))
takes_stable (Links l) g not = (lt_stable g.0 l.points (λ no. not (λ t. no t.0)), lt_stable g.1 l.points (λ no. not (λ t. no t.1)))

-- what a goal that was published shows
pub record PublishDone (p w : ℕ) (before : List Line) (desk : Desk) (x : Line) (behind : List ℕ) (n : ℕ) (desk' : Desk) : Type 0 where
  pub none : NoneOf (line_checks p w before x behind)
  pub keeping : Keeping p w (before ++ (x ∷ [])) desk'
  pub shows : Shows p w (before ++ (x ∷ [])) (two x)
  pub lawful : Lawful (kind_of (before ++ (x ∷ [])))
  pub supports : (d e : Buffers) → SearchLeaves (any_kind desk.sheet.kind) (any_logic desk.sheet.logic) (book_of p w before) (two x) (Ok (Count n)) d e
      → AllSupports (logic_of (before ++ (x ∷ []))) (book_of p w (before ++ (x ∷ []))) (two x) (take n e.places)

module _ {p w : ℕ} {before : List Line} {desk : Desk} (keeping : Keeping p w before desk) where
  -- the desk's kind and logic, and the book
  abbrev k : LabelOrder
  k = any_kind desk.sheet.kind

  abbrev l : Entailment
  l = any_logic desk.sheet.logic

  abbrev b : Book
  b = book_of p w before

  module _ (x : Line) (behind : List ℕ) (is : x.form ≡ GoalLine) where
    -- the lines with one more
    abbrev ls : List Line
    ls = before ++ (x ∷ [])

    -- the call that the line stands for
    abbrev call : Call
    call = Publish (two x) p w

    pub publish_refused : {f : SheetFault} {t : SheetOf AnyKind AnyLogic} → Obeys any_kind any_logic call (Err f) desk.sheet t → FirstOf (line_checks p w before x behind) (Sheet f)
    publish_refused {f} obeys =
        let (first, _) = obeys.law b keeping.book in
        first_by p w before x behind is _ (first_in (checks (kind_of before) (logic_of before) b call) f (subst (λ (h : Entailment). RefusedBy (kind_of before) h b call f) (logic_is keeping) first))

    module _ {n : ℕ} {t : SheetOf AnyKind AnyLogic} (obeys : Obeys any_kind any_logic call (Ok (Count n)) desk.sheet t) where
      accepted : Accepted k l b call × ((ss : List ℕ) × AllSupports l b (two x) ss × (Count n ≡ Count (length ss)))
      accepted = (obeys.law b keeping.book).0

      publish_none : NoneOf (line_checks p w before x behind)
      publish_none = none_by p w before x behind is (none_in (checks (kind_of before) (logic_of before) b call) (subst (λ (h : Entailment). Accepted (kind_of before) h b call) (logic_is keeping) accepted.0))

      booked_now : book_of p w ls ≡ after (Publish (two x) p w) b
      booked_now = book_by p w before x behind is

      other : (s : ℕ) → s < 5 → section x.form ≡ s → ⊥
      other s early e = let five : section x.form ≡ 5 = ap section is in omega arith

      same_logic : l ≡ logic_of ls
      same_logic = logic_is keeping ∙ sym (logic_of_same before x (other 2 (omega arith)))

      publish_keeping : Keeping p w ls (record desk { sheet = t })
      publish_keeping =
          let (d, next, holds) = (obeys.law b keeping.book).1 in
          let book : d ≡ book_of p w ls = next_after k l b call d accepted.0 next ∙ sym booked_now in
          let users : users_of ls ≡ users_of before = users_of_same before x (other 4 (omega arith)) in
          keeping_more keeping x (late_by p w before x behind is (omega arith)) (record desk { sheet = t }) obeys.kind obeys.logic (subst (Holds any_kind any_logic t) book holds) (keeping.users ∙ sym users) (λ u i. keeping.admitted u (subst (In u) users i))

      publish_shows : Shows p w ls (two x)
      publish_shows = (
        subst (λ (h : Entailment). h.TakesGoal (two x)) same_logic (takes_stable desk.sheet.logic (two x) accepted.0.0),
        subst (λ (e : Book). In (two x) e.published) (sym booked_now) (noted (two x) b.published),
      )

      -- the places hold the supports
      publish_supports : (d e : Buffers) → SearchLeaves k l b (two x) (Ok (Count n)) d e → AllSupports (logic_of ls) (book_of p w ls) (two x) (take n e.places)
      publish_supports d e leaves =
          let (ss, all, count) = accepted.1 in
          let (ts, others, filled) = leaves.0 in
          let same : ss ≡ ts = (determined k (any_lawful desk.sheet.kind) l).supports b (two x) ss ts all others in
          let many : length ts ≡ n = ap length (sym same) ∙ sym (let e : n ≡ length ss = cc in e) in
          let front : take n e.places ≡ ts = ap (take n) filled ∙ take_at ts (replicate (length d.places - length ts) 0) n many in
          subst (λ (h : Entailment). AllSupports h (book_of p w ls) (two x) (take n e.places)) same_logic
          (subst (λ (c : Book). AllSupports l c (two x) (take n e.places)) (sym booked_now) (subst (AllSupports l b (two x)) (sym front) others))

      pub publish_done : PublishDone p w before desk x behind n (record desk { sheet = t })
      publish_done =
          record { none = publish_none; keeping = publish_keeping; lawful = same_lawful (any_kind t.kind) (kind_of ls) publish_keeping.kind (any_lawful t.kind); shows = publish_shows; supports = publish_supports }

-- a goal's line has done its work
pub goal_done : (p w : ℕ) (before : List Line) (x : Line) (behind : List ℕ) → x.form ≡ GoalLine → NoneOf (line_checks p w before x behind) → {Kept : Type 0} → Kept → Lawful (kind_of (before ++ (x ∷ [])))
    → (v : Option ℕ) → IsBoundary (kind_of (before ++ (x ∷ []))) (logic_of (before ++ (x ∷ []))) (book_of p w (before ++ (x ∷ []))) (two x) v
    → (ss : List ℕ) → AllSupports (logic_of (before ++ (x ∷ []))) (book_of p w (before ++ (x ∷ []))) (two x) ss
    → {q₀ q₁ q₂ : Printer} → Adds (boundary_line (two x) v) q₀ q₁ → Adds (support_lines (two x) ss) q₁ q₂
    → (r : Result (Unit {0}) Cause) (q₃ : Printer) → Sighted p w (before ++ (x ∷ [])) (two x) r q₂ q₃ → Steps p w before x behind r (Kept × LinePrinted p w before x q₀ q₃)
goal_done p w before x behind is none kept lawful v bounds ss all first second (Ok _) q₃ (seen, sights, third) =
    let ls = before ++ (x ∷ []) in
    let prints : GoalPrints (kind_of ls) (logic_of ls) (book_of p w ls) (users_of ls) (two x) (block (two x) v ss seen) =
    record { boundary = v; supports = ss; seen = seen; lawful = lawful; bounds = bounds; all = all; sights = sights; block_of = refl } in
    (none, (kept, (block (two x) v ss seen, subst (λ (f : Form). LinePrints p w f ls x (block (two x) v ss seen)) (sym is) prints, adds_both first (adds_both second third))))
goal_done p w before x behind is none kept lawful v bounds ss all first second (Err c) q₃ never = absurd never
