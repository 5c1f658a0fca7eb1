-- What the sheet answers about a goal that is taken and published.
use Rattle.std.proofs.Common.{◌≡◌, ℕ, Bool, T, List, [], ◌∷◌, ◌++◌, Ok, Err, Option, sym, refl, ap, ◌∙◌, subst, append-nil}
use Rattle.std.proofs.lemmas.Grind.{flat_map-append}
use Rattle.base.specs.Words.{Iff, In}
use Rattle.base.proofs.Checks.{none_first}
use Rattle.labels.specs.Order.{LabelOrder, JoinPrime, Same}
use Rattle.labels.proofs.Orders.{same_sym}
use Rattle.logics.specs.Entailment.{Entailment, Goal}
use Rattle.engine.specs.Book.{Book}
use Rattle.engine.specs.Law.{checks, Accepted}
use Rattle.engine.specs.Obeys.{Obeys}
use Rattle.engine.specs.Sight.{IsBoundary, Sees}
use Rattle.engine.specs.declared.call.SheetFault.{SheetFault}
use Rattle.engine.specs.declared.call.Call.TheVariants.{Boundary, See}
use Rattle.engine.specs.declared.call.Answer.TheVariants.{Bound, Seen as SeenAnswer}
use Rattle.prints.specs.Print.{sight_line, sight_lines}
use Rattle.lines.specs.declared.form.Line.{Line}
use Rattle.report.specs.declared.desk.Desk.{Desk}
use Rattle.report.specs.Any.{any_kind, any_logic}
use Rattle.report.specs.Meaning.{kind_of, logic_of, book_of, users_of}
use Rattle.report.specs.Report.{Seen}
use Rattle.report.specs.Stands.{Keeping, Shows}
use Rattle.report.proofs.Sames.{prime_same, sees_same, boundary_same}
use Rattle.report.proofs.Stepping.{logic_is}

-- one user more
pub seen_more : (k : LabelOrder) (l : Entailment) (b : Book) (g : Goal) (us : List ℕ) (seen : List (ℕ × Bool)) (u : ℕ) (told : Bool) → Seen k l b g us seen → Iff (T told) (Sees k l b u g)
    → Seen k l b g (us ++ (u ∷ [])) (seen ++ ((u, told) ∷ []))
seen_more k l b g [] seen u told none sees = (told, [], sees, refl, ap (λ (s : List (ℕ × Bool)). s ++ ((u, told) ∷ [])) none)
seen_more k l b g (v ∷ us) seen u told (r, rest, first, others, e) sees =
    (r, rest ++ ((u, told) ∷ []), first, seen_more k l b g us rest u told others sees, ap (λ (s : List (ℕ × Bool)). s ++ ((u, told) ∷ [])) e)

pub sight_lines_more : (g : Goal) (seen : List (ℕ × Bool)) (u : ℕ) (told : Bool) → sight_lines g (seen ++ ((u, told) ∷ [])) ≡ sight_lines g seen ++ sight_line g u told
sight_lines_more g seen u told = flat_map-append (λ user. sight_line g user.0 user.1) seen ((u, told) ∷ []) ∙ ap (λ (t : List ℕ). sight_lines g seen ++ t) (append-nil (sight_line g u told))

module _ {p w : ℕ} {ls : List Line} {desk : Desk} (keeping : Keeping p w ls desk) where
  -- the desk's kind and logic, and the book
  abbrev k : LabelOrder
  k = any_kind desk.sheet.kind

  abbrev l : Entailment
  l = any_logic desk.sheet.logic

  abbrev b : Book
  b = book_of p w ls

  back : Same (kind_of ls) k
  back = same_sym k (kind_of ls) keeping.kind

  module _ (g : Goal) (shows : Shows p w ls g) where
    takes : l.TakesGoal g
    takes = subst (λ (h : Entailment). h.TakesGoal g) (sym (logic_is keeping)) shows.0

    module _ {u : ℕ} (i : In u (users_of ls)) where
      see_none : Accepted k l b (See u g)
      see_none =
          let prime : JoinPrime k u = prime_same (kind_of ls) k back u (keeping.admitted u i) in
          ((λ no. no takes), ((λ no. no prime.known), ((λ no. no prime), ((λ no. no shows.1), tt))))

      pub see_refused : {f : SheetFault} → Obeys any_kind any_logic (See u g) (Err f) desk.sheet desk.sheet → ⊥
      see_refused {f} obeys = none_first (checks k l b (See u g)) f see_none (obeys.law b keeping.book).0

      pub see_answered : {told : Bool} → Obeys any_kind any_logic (See u g) (Ok (SeenAnswer told)) desk.sheet desk.sheet → Iff (T told) (Sees (kind_of ls) (logic_of ls) b u g)
      see_answered {told} obeys =
          let (_, (r, (to, from), e)) = (obeys.law b keeping.book).0 in
          let same : r ≡ told = cc in
          let mine : Iff (T r) (Sees (kind_of ls) l b u g) = ((λ t. sees_same k (kind_of ls) keeping.kind l b u g (to t)), (λ s. from (sees_same (kind_of ls) k back l b u g s))) in
          subst (λ (h : Entailment). Iff (T told) (Sees (kind_of ls) h b u g)) (logic_is keeping) (subst (λ (q : Bool). Iff (T q) (Sees (kind_of ls) l b u g)) same mine)

    bound_none : Accepted k l b (Boundary g)
    bound_none = ((λ no. no takes), ((λ no. no shows.1), tt))

    pub boundary_refused : {f : SheetFault} → Obeys any_kind any_logic (Boundary g) (Err f) desk.sheet desk.sheet → ⊥
    boundary_refused {f} obeys = none_first (checks k l b (Boundary g)) f bound_none (obeys.law b keeping.book).0

    pub boundary_answered : {v : Option ℕ} → Obeys any_kind any_logic (Boundary g) (Ok (Bound v)) desk.sheet desk.sheet → IsBoundary (kind_of ls) (logic_of ls) b g v
    boundary_answered {v} obeys =
        let (_, (u, is, e)) = (obeys.law b keeping.book).0 in
        let same : u ≡ v = cc in
        subst (λ (h : Entailment). IsBoundary (kind_of ls) h b g v) (logic_is keeping) (boundary_same k (kind_of ls) keeping.kind l b g v (subst (IsBoundary k l b g) same is))
