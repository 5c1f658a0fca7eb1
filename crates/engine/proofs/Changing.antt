-- Withdrawing and relabelling an axiom: one page changes, and no other.
use Rattle.std.proofs.Common.{◌≡◌, ℕ, ◌+◌, ◌-◌, List, [], ◌∷◌, Ok, Err, sym, refl, ap, ◌∙◌, subst, inl, inr, ⊎_elim, arith}
use Rattle.base.specs.Checks.{FirstOf, NoneOf}
use Rattle.base.proofs.Checks.{first_more}
use Rattle.labels.specs.Order.{LabelOrder, Label}
use Rattle.labels.specs.declared.fault.KindFault.TheVariants.{NotALabel}
use Rattle.logics.specs.Entailment.{Entailment}
use Rattle.engine.specs.declared.page.Page.{Page}
use Rattle.engine.specs.declared.sheet.Sheet.{Sheet}
use Rattle.engine.specs.declared.call.Call.TheVariants.{Withdraw, Relabel}
use Rattle.engine.specs.declared.call.Answer.TheVariants.{Done}
use Rattle.engine.specs.declared.call.SheetFault.{SheetFault}
use Rattle.engine.specs.declared.call.SheetFault.TheVariants.{NoSuchAxiom, WithdrawnAlready, Kind}
use Rattle.engine.specs.Pages.{NoPage, Standing, change, withdrawn, relabelled}
use Rattle.engine.specs.Book.{Book}
use Rattle.engine.specs.Obeys.{Holds, Obeys}
use Rattle.engine.proofs.Obeying.{refused, accepted, keeps_pages, at_change, length_change}

-- the checks of an axiom's number, over the pages
abbrev pub checks_of : List Page → ℕ → List (SheetFault × Type 0)
checks_of ps n = (NoSuchAxiom, NoPage ps n) ∷ (WithdrawnAlready, (Standing ps (n - 1) → ⊥)) ∷ []

-- they are all passed where an axiom in force has the number
passed : (ps : List Page) (n place : ℕ) → n ≡ place + 1 → Standing ps place → NoneOf (checks_of ps n)
passed ps n place is stands =
    let here : n - 1 ≡ place = omega arith in
    let within = stands.1.0 in
    (⊎_elim (λ e. omega arith) (λ lt. omega arith), (λ out. out (rw here stands), tt))

module _ {K L : Type 0} (order : K → LabelOrder) (entails : L → Entailment) (s : Sheet K L) (n : ℕ) where
  pub withdraw_refused : (f : SheetFault) → FirstOf (checks_of s.axioms n) f → Obeys order entails (Withdraw n) (Err f) s s
  withdraw_refused f first =
      refused order entails (Withdraw n) s f (λ b keeps. subst (λ (ps : List Page). FirstOf (checks_of ps n) f) (sym keeps.book) first)

  pub relabel_refused : (a : ℕ) (f : SheetFault) → FirstOf (checks_of s.axioms n) f → Obeys order entails (Relabel n a) (Err f) s s
  relabel_refused a f first =
      refused order entails (Relabel n a) s f (λ b keeps. first_more (checks_of b.pages n) ((Kind NotALabel, (Label (order s.kind) a → ⊥)) ∷ []) f (subst (λ (ps : List Page). FirstOf (checks_of ps n) f) (sym keeps.book) first))

  module _ (place : ℕ) (is : n ≡ place + 1) (stands : Standing s.axioms place) where
    passed_by : (b : Book) → Holds order entails s b → NoneOf (checks_of b.pages n)
    passed_by b keeps = passed b.pages n place is (rw keeps.book stands)

    pub relabel_label : (a : ℕ) → (Label (order s.kind) a → ⊥) → Obeys order entails (Relabel n a) (Err (Kind NotALabel)) s s
    relabel_label a never =
        refused order entails (Relabel n a) s (Kind NotALabel) (λ b keeps. let (there, (up, _)) = passed_by b keeps in inr (there, inr (up, inl (never, refl))))

    -- one page changes, by a change that keeps what is taken
    module _ (t : Sheet K L) (kind : t.kind ≡ s.kind) (logic : t.logic ≡ s.logic) (none : t.rows ≡ []) where
      changed : (f : Page → Page) → ((p : Page) → (entails s.logic).TakesRecord p.entry × Label (order s.kind) p.label → (entails s.logic).TakesRecord (f p).entry × Label (order s.kind) (f p).label)
          → t.axioms ≡ change (place + 1) f s.axioms → (b : Book) → Holds order entails s b → Holds order entails t (record { pages = change n f b.pages; published = [] })
      changed f fine pages b keeps =
          rw (kind, logic, is) (keeps_pages (order s.kind) (entails s.logic) (change (place + 1) f b.pages) t.axioms (ap (change (place + 1) f) keeps.book ∙ sym pages)
          (rw pages (omega (arith, length_change f (place + 1) s.axioms, keeps.few)))
          (rw pages (at_change f (place + 1) s.axioms (λ p. (entails s.logic).TakesRecord p.entry × Label (order s.kind) p.label) (λ i p at. let taken = keeps.taken i p at in (taken, fine p taken))))
          t.rows none)

      pub withdraw_done : t.axioms ≡ change (place + 1) withdrawn s.axioms → Obeys order entails (Withdraw n) (Ok Done) s t
      withdraw_done pages =
          accepted order entails (Withdraw n) s Done t kind logic (λ b keeps. (passed_by b keeps, refl, changed withdrawn (λ p taken. taken) pages b keeps))

      pub relabel_done : (a : ℕ) → Label (order s.kind) a → t.axioms ≡ change (place + 1) (relabelled a) s.axioms → Obeys order entails (Relabel n a) (Ok Done) s t
      relabel_done a label pages =
          accepted order entails (Relabel n a) s Done t kind logic
          (λ b keeps.
          let (there, (up, _)) = passed_by b keeps in
          ((there, (up, (λ no. no label, tt))), refl, changed (relabelled a) (λ p taken. (taken.0, label)) pages b keeps))
