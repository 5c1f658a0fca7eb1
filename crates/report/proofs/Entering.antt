-- The steps of an axiom line and of a user's line.
use Rattle.std.proofs.Common.{◌≡◌, ℕ, ◌<◌, cond, eqb, ◌⊎◌, List, [], ◌∷◌, ◌++◌, map, length, Ok, Err, sym, refl, ap, ◌∙◌, subst, inl, inr, arith}
use mathlib.Core.List.{map-append}
use Rattle.base.specs.Words.{In}
use Rattle.base.specs.Checks.{FirstOf, NoneOf}
use Rattle.labels.specs.Order.{LabelOrder, JoinPrime, Same}
use Rattle.labels.specs.Fault.{UserRefused}
use Rattle.labels.specs.declared.fault.KindFault.{KindFault}
use Rattle.labels.proofs.Orders.{same_sym}
use Rattle.logics.specs.Entailment.{Entailment}
use Rattle.logics.specs.declared.LogicFault.TheVariants.{RecordNotTaken}
use Rattle.engine.specs.Book.{Book}
use Rattle.engine.specs.Law.{checks, RefusedBy, Accepted}
use Rattle.engine.specs.Obeys.{Holds, Obeys}
use Rattle.engine.specs.declared.sheet.Sheet.{Sheet as SheetOf}
use Rattle.engine.specs.declared.call.SheetFault.{SheetFault}
use Rattle.engine.specs.declared.call.SheetFault.TheVariants.{Logic as OfLogic}
use Rattle.engine.specs.declared.call.Call.{Call}
use Rattle.engine.specs.declared.call.Call.TheVariants.{Enter}
use Rattle.engine.specs.declared.call.Answer.TheVariants.{Entered}
use Rattle.lines.specs.declared.form.Form.{Form}
use Rattle.lines.specs.declared.form.Form.TheVariants.{Axiom, User}
use Rattle.logics.specs.declared.form.Form.{Form as AxiomForm}
use Rattle.lines.specs.declared.form.Line.{Line}
use Rattle.lines.specs.Forms.{section}
use Rattle.lines.specs.Lines.{lines_of}
use Rattle.report.specs.declared.any.AnyKind.{AnyKind}
use Rattle.report.specs.declared.any.AnyLogic.{AnyLogic}
use Rattle.report.specs.declared.desk.Desk.{Desk}
use Rattle.report.specs.declared.fault.Cause.TheVariants.{Sheet, Kind}
use Rattle.report.specs.Any.{any_kind, any_logic}
use Rattle.report.specs.Meaning.{at, entry, kind_of, logic_of, book_of, users_of}
use Rattle.report.specs.Checks.{line_checks}
use Rattle.report.specs.Stands.{Keeping}
use Rattle.report.proofs.Standing.{lines_of_append, users_of_same}
use Rattle.report.proofs.Sames.{label_same, prime_same}
use Rattle.ordered.proofs.Lists.{in_append}
use Rattle.report.proofs.Stepping.{first_by, none_by, book_by, late_by, first_in, none_in, logic_is, taken_small, next_after, enter_first, enter_none, keeping_more}

module _ {p w : ℕ} {before : List Line} {desk : Desk} (keeping : Keeping p w before desk) where
  -- the desk's kind and logic, and the book
  abbrev k : LabelOrder
  k = any_kind desk.sheet.kind

  abbrev l : Entailment
  l = any_logic desk.sheet.logic

  abbrev b : Book
  b = book_of p w before

  back : Same (kind_of before) k
  back = same_sym k (kind_of before) keeping.kind

  module _ (x : Line) (behind : List ℕ) where
    module _ {f : AxiomForm} (is : x.form ≡ Axiom f) where
      -- the call that the line stands for
      abbrev call : Call
      call = Enter (entry f x) (at x 0)

      -- a number that no record has
      pub enter_beyond : length b.pages < 64 → ((65535 < at x 1) ⊎ ((65535 < at x 2) ⊎ (65535 < at x 3))) → FirstOf (line_checks p w before x behind) (Sheet (OfLogic RecordNotTaken))
      enter_beyond room beyond =
          let never : (logic_of before).TakesRecord (entry f x) → ⊥ = λ takes.
          let (sa, sb, sc) = taken_small desk.sheet.logic (entry f x) (subst (λ (h : Entailment). h.TakesRecord (entry f x)) (sym (logic_is keeping)) takes) in
          elim beyond [ inl a ↦ omega arith | inr (inl b) ↦ omega arith | inr (inr c) ↦ omega arith ] in
          first_by p w before x behind is _ (inr ((λ full. omega arith), inl (never, refl)))

      pub enter_refused : {fault : SheetFault} {t : SheetOf AnyKind AnyLogic} → Obeys any_kind any_logic call (Err fault) desk.sheet t → FirstOf (line_checks p w before x behind) (Sheet fault)
      enter_refused {fault} obeys =
          let (first, _) = obeys.law b keeping.book in
          first_by p w before x behind is _ (first_in (checks (kind_of before) (logic_of before) b call) fault
          (subst (λ (h : Entailment). RefusedBy (kind_of before) h b call fault) (logic_is keeping) (enter_first k (kind_of before) keeping.kind l b (entry f x) (at x 0) fault first)))

      pub enter_accepted : {n : ℕ} {t : SheetOf AnyKind AnyLogic} → Obeys any_kind any_logic call (Ok (Entered n)) desk.sheet t → NoneOf (line_checks p w before x behind) × Keeping p w (before ++ (x ∷ [])) (record desk { sheet = t })
      enter_accepted {n} {t} obeys =
          let ((none, _), (d, next, holds)) = obeys.law b keeping.book in
          let book : d ≡ book_of p w (before ++ (x ∷ [])) = next_after k l b call d none next ∙ sym (book_by p w before x behind is) in
          let users : users_of (before ++ (x ∷ [])) ≡ users_of before = users_of_same before x (λ e. let three : section x.form ≡ 3 = ap section is in omega arith) in (
            none_by p w before x behind is
                (none_in (checks (kind_of before) (logic_of before) b call) (subst (λ (h : Entailment). Accepted (kind_of before) h b call) (logic_is keeping) (enter_none k (kind_of before) keeping.kind l b (entry f x) (at x 0) none))),
            keeping_more keeping x (late_by p w before x behind is (omega arith)) (record desk { sheet = t }) obeys.kind obeys.logic (subst (Holds any_kind any_logic t) book holds) (keeping.users ∙ sym users) (λ u i. keeping.admitted u (subst (In u) users i)),
          )

    module _ (is : x.form ≡ User) where
      -- why a user is refused, by the order that the lines name
      pub user_refused : (fault : KindFault) → UserRefused k (at x 0) fault → FirstOf (line_checks p w before x behind) (Kind fault)
      user_refused fault (inl (none, same)) = first_by p w before x behind is _ (inl ((λ label. none (label_same (kind_of before) k back (at x 0) label)), ap (λ (g : KindFault). Kind g) (sym same)))
      user_refused fault (inr (label, none, same)) =
          first_by p w before x behind is _ (inr (
            (λ no. no (label_same k (kind_of before) keeping.kind (at x 0) label)),
            inl ((λ prime. none (prime_same (kind_of before) k back (at x 0) prime)), ap (λ (g : KindFault). Kind g) (sym same)),
          ))

      users_more : users_of (before ++ (x ∷ [])) ≡ users_of before ++ (at x 0 ∷ [])
      users_more =
          let one : lines_of 4 (x ∷ []) ≡ x ∷ [] = ap (λ (h : Form). cond (eqb (section h) 4) (x ∷ []) []) is in
          ap (map (λ y. at y 0)) (lines_of_append 4 before (x ∷ []) ∙ ap (λ (ls : List Line). lines_of 4 before ++ ls) one) ∙ map-append (λ y. at y 0) (lines_of 4 before) (x ∷ [])

      pub user_accepted : JoinPrime k (at x 0) → {desk' : Desk} → desk'.sheet ≡ desk.sheet → desk'.users.items ≡ desk.users.items ++ (at x 0 ∷ []) → NoneOf (line_checks p w before x behind) × Keeping p w (before ++ (x ∷ [])) desk'
      user_accepted prime {desk'} same added = (
        none_by p w before x behind is ((λ no. no (label_same k (kind_of before) keeping.kind (at x 0) prime.known)), ((λ no. no (prime_same k (kind_of before) keeping.kind (at x 0) prime)), tt)),
        keeping_more keeping x (late_by p w before x behind is (omega arith)) desk' (ap (λ (s : SheetOf AnyKind AnyLogic). s.kind) same) (ap (λ (s : SheetOf AnyKind AnyLogic). s.logic) same)
            (rw (same, book_by p w before x behind is) keeping.book)
            (added ∙ ap (λ (ls : List ℕ). ls ++ (at x 0 ∷ [])) keeping.users ∙ sym users_more)
            (λ u i. elim ((in_append u (users_of before) (at x 0 ∷ [])).0 (subst (In u) users_more i)) [
              | inl old ↦ keeping.admitted u old
              | inr (inl new) ↦ subst (JoinPrime (kind_of before)) (sym new) (prime_same k (kind_of before) keeping.kind (at x 0) prime)
              | inr (inr never) ↦ absurd never
            ]),
      )
