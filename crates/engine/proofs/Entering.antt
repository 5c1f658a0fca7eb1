-- Entering an axiom: the three refusals in their order, and the page that is added.
use Rattle.std.proofs.Common.{◌≡◌, ℕ, ◌+◌, ◌<◌, ◌≤◌, true, [], ◌∷◌, ◌++◌, length, Ok, Err, sym, refl, ap, ◌∙◌, inl, inr, arith, length-append}
use Rattle.labels.specs.Order.{LabelOrder, Label}
use Rattle.labels.specs.declared.fault.KindFault.TheVariants.{NotALabel}
use Rattle.logics.specs.Entailment.{Entailment}
use Rattle.logics.specs.declared.LogicFault.TheVariants.{RecordNotTaken}
use Rattle.logics.specs.declared.Record.{Record}
use Rattle.engine.specs.declared.page.Page.{Page}
use Rattle.engine.specs.declared.sheet.Sheet.{Sheet}
use Rattle.engine.specs.declared.call.Call.TheVariants.{Enter}
use Rattle.engine.specs.declared.call.Answer.TheVariants.{Entered}
use Rattle.engine.specs.declared.call.SheetFault.TheVariants.{Full, Kind, Logic}
use Rattle.engine.specs.Book.{Book}
use Rattle.engine.specs.Obeys.{Holds, Obeys}
use Rattle.engine.proofs.Obeying.{refused, accepted, keeps_pages, at_more}

module _ {K L : Type 0} (order : K → LabelOrder) (entails : L → Entailment) (s : Sheet K L) (r : Record) (a : ℕ) where
  -- the book has as many pages as the table
  counted : (b : Book) → Holds order entails s b → length b.pages ≡ length s.axioms
  counted b keeps = ap length keeps.book

  pub enter_full : 64 ≤ length s.axioms → Obeys order entails (Enter r a) (Err Full) s s
  enter_full full = refused order entails (Enter r a) s Full (λ b keeps. inl (omega (arith, counted b keeps), refl))

  module _ (room : length s.axioms < 64) where
    pub enter_record : ((entails s.logic).TakesRecord r → ⊥) → Obeys order entails (Enter r a) (Err (Logic RecordNotTaken)) s s
    enter_record never =
        refused order entails (Enter r a) s (Logic RecordNotTaken) (λ b keeps. inr (λ full. omega (arith, full, counted b keeps), inl (never, refl)))

    module _ (taken : (entails s.logic).TakesRecord r) where
      pub enter_label : (Label (order s.kind) a → ⊥) → Obeys order entails (Enter r a) (Err (Kind NotALabel)) s s
      enter_label never =
          refused order entails (Enter r a) s (Kind NotALabel)
          (λ b keeps. inr (λ full. omega (arith, full, counted b keeps), inr (λ no. no taken, inl (never, refl))))

      pub enter_done : Label (order s.kind) a → (t : Sheet K L) → t.kind ≡ s.kind → t.logic ≡ s.logic
          → t.axioms ≡ s.axioms ++ (record { entry = r; label = a; stands = true } ∷ []) → t.rows ≡ [] → (n : ℕ) → n ≡ length t.axioms
          → Obeys order entails (Enter r a) (Ok (Entered n)) s t
      enter_done label t kind logic pages none n count =
          let page : Page = record { entry = r; label = a; stands = true } in
          let long : length t.axioms ≡ length s.axioms + 1 = ap length pages ∙ length-append s.axioms (page ∷ []) in
          accepted order entails (Enter r a) s (Entered n) t kind logic
          (λ b keeps. (
            (λ full. omega (arith, full, counted b keeps), (λ no. no taken, (λ no. no label, tt))),
            ap Entered (count ∙ long ∙ ap (λ (m : ℕ). m + 1) (sym (counted b keeps))),
            rw (kind, logic) (keeps_pages (order s.kind) (entails s.logic) (b.pages ++ (page ∷ [])) t.axioms (ap (λ ps. ps ++ (page ∷ [])) keeps.book ∙ sym pages)
                (omega (arith, long))
                (rw pages (at_more s.axioms page (λ p. (entails s.logic).TakesRecord p.entry × Label (order s.kind) p.label) keeps.taken (taken, label)))
                t.rows none),
          ))
