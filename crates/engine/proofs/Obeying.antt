-- A call that is refused leaves the book; one that changes a page empties the published goals.
use Rattle.std.proofs.Common.{◌≡◌, ℕ, zero, suc, ◌-◌, ◌≤◌, Bool, true, false, cond, eqb, List, [], ◌∷◌, ◌++◌, length, Ok, Err, refl, ap, subst, inl, inr, arith}
use Rattle.base.specs.Words.{In}
use Rattle.labels.specs.Order.{LabelOrder, Label}
use Rattle.logics.specs.Entailment.{Entailment}
use Rattle.engine.specs.declared.page.Page.{Page}
use Rattle.engine.specs.declared.page.Row.{Row}
use Rattle.engine.specs.declared.sheet.Sheet.{Sheet}
use Rattle.engine.specs.declared.call.Call.{Call}
use Rattle.engine.specs.declared.call.Answer.{Answer}
use Rattle.engine.specs.declared.call.SheetFault.{SheetFault}
use Rattle.engine.specs.Pages.{At, change}
use Rattle.engine.specs.Book.{Book, after}
use Rattle.engine.specs.Law.{RefusedBy, Accepted, Answered}
use Rattle.engine.specs.Keeps.{Keeps}
use Rattle.engine.specs.Obeys.{Holds, Obeys}

module _ {K L : Type 0} (order : K → LabelOrder) (entails : L → Entailment) (c : Call) (s : Sheet K L) where
  pub refused : (f : SheetFault) → ((b : Book) → Holds order entails s b → RefusedBy (order s.kind) (entails s.logic) b c f) → Obeys order entails c (Err f) s s
  refused f why = record { law = λ b keeps. let by = why b keeps in (by, (b, inl (f, by, refl), keeps)); kind = refl; logic = refl }

  pub accepted : (x : Answer) (t : Sheet K L) → t.kind ≡ s.kind → t.logic ≡ s.logic
      → ((b : Book) → Holds order entails s b → Accepted (order s.kind) (entails s.logic) b c × Answered (order s.kind) (entails s.logic) b c x × Holds order entails t (after c b))
      → Obeys order entails c (Ok x) s t
  accepted x t kind logic how = record {
    law = λ b keeps. let (ok, answer, kept) = how b keeps in ((ok, answer), (after c b, inr (ok, refl), kept));
    kind = kind;
    logic = logic;
  }

-- pages of taken records and labels, and no row
pub keeps_pages : (k : LabelOrder) (l : Entailment) (pages pages' : List Page) → pages ≡ pages' → length pages' ≤ 64
    → ((i : ℕ) (p : Page) → At pages' i p → l.TakesRecord p.entry × Label k p.label) → (rows : List Row) → rows ≡ []
    → Keeps k l (record { pages = pages; published = [] }) pages' rows
keeps_pages k l pages pages' same few taken rows none = record {
  book = same;
  few = few;
  taken = taken;
  goals = λ g. rw none (λ h. h, λ h. h);
  once = rw none refl;
  ascending = rw none tt;
  right = λ r h. absurd (subst (In r) none h);
}

-- each page of a list with one page more
pub at_more : (ps : List Page) (p : Page) (P : Page → Type 0) → ((i : ℕ) (q : Page) → At ps i q → P q) → P p → (i : ℕ) (q : Page) → At (ps ++ (p ∷ [])) i q → P q
at_more [] p P old new zero q (lt, here) = subst P here new
at_more [] p P old new (suc i) q (lt, here) = absurd (omega arith)
at_more (x ∷ xs) p P old new zero q (lt, here) = old 0 q (omega arith, here)
at_more (x ∷ xs) p P old new (suc i) q (lt, here) =
    at_more xs p P (λ j r h. old (suc j) r (omega (arith, h.0), h.1)) new i q (omega arith, here)

-- each page of a list with one page changed
pub at_change : (f : Page → Page) (n : ℕ) (ps : List Page) (P : Page → Type 0) → ((i : ℕ) (q : Page) → At ps i q → P q × P (f q)) → (i : ℕ) (q : Page) → At (change n f ps) i q → P q
at_change f n [] P old i q (lt, here) = absurd (omega arith)
at_change f n (x ∷ xs) P old i q at = cases (at_change f (n - 1) xs P (λ j r h. old (suc j) r (omega (arith, h.0), h.1))) (eqb n 1) i at
  where
    first : P x × P (f x)
    first = old 0 x (omega arith, refl)

    cases : ((i : ℕ) (q : Page) → At (change (n - 1) f xs) i q → P q) → (t : Bool) (i : ℕ) → At (cond t (f x ∷ xs) (x ∷ change (n - 1) f xs)) i q → P q
    cases rest true zero (lt, here) = subst P here first.1
    cases rest true (suc i) (lt, here) = (old (suc i) q (omega arith, here)).0
    cases rest false zero (lt, here) = subst P here first.0
    cases rest false (suc i) (lt, here) = rest i q (omega arith, here)

pub length_change : (f : Page → Page) (n : ℕ) (ps : List Page) → length (change n f ps) ≡ length ps
length_change f n [] = refl
length_change f n (p ∷ ps) = cases (length_change f (n - 1) ps) (eqb n 1)
  where
    cases : length (change (n - 1) f ps) ≡ length ps → (t : Bool) → length (cond t (f p ∷ ps) (p ∷ change (n - 1) f ps)) ≡ suc (length ps)
    cases rest true = refl
    cases rest false = ap suc rest
