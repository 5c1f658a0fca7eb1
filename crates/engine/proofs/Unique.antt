-- Supports, boundary, rows, answer and book are determined by the book before the call.
use Rattle.std.proofs.Common.{◌≡◌, ℕ, ◌-◌, Bool, true, false, T, List, ◌++◌, length, get_or, take, drop, replicate, Option, Ok, Err, Result, sym, refl, ap, ◌∙◌, subst, ap₂, inl, inr, take-append-drop}
use Rattle.base.proofs.Checks.{first_unique, none_first}
use Rattle.labels.specs.Order.{LabelOrder, Lawful}
use Rattle.logics.specs.Entailment.{Entailment, Goal}
use Rattle.ordered.proofs.Lists.{ascending_unique}
use Rattle.engine.specs.declared.call.Call.{Call}
use Rattle.engine.specs.declared.call.Call.TheVariants.{Enter, Withdraw, Relabel, Supports, Publish, Boundary, Row, See}
use Rattle.engine.specs.declared.call.Answer.{Answer}
use Rattle.engine.specs.declared.call.Answer.TheVariants.{Entered, Done, Count, Bound, RowAt, Seen}
use Rattle.engine.specs.declared.call.SheetFault.{SheetFault}
use Rattle.engine.specs.Book.{Book}
use Rattle.engine.specs.Sight.{AllSupports, IsBoundary}
use Rattle.engine.specs.Law.{RowGoals, Buffers, front, back, SearchLeaves, Leaves, Answered, Lawfully, Next, checks}
use Rattle.engine.specs.Determined.{Determined}
use Rattle.engine.specs.GoalOrder.{smaller_ranking}
use Rattle.engine.proofs.Boundaries.{boundary_unique}
use Rattle.engine.proofs.Supporting.{supports_unique}

same_answer : (r q : Bool) → (T r → T q) → (T q → T r) → r ≡ q
same_answer true true there back = refl
same_answer true false there back = absurd (there tt)
same_answer false true there back = absurd (back tt)
same_answer false false there back = refl

rows_unique : (b : Book) (gs hs : List Goal) → RowGoals b gs → RowGoals b hs → gs ≡ hs
rows_unique b gs hs is js =
    ascending_unique smaller_ranking gs hs is.ascending js.ascending (λ g. (λ h. (js.same g).1 ((is.same g).0 h), λ h. (is.same g).1 ((js.same g).0 h)))

-- what lies before a place and from it on make the list
halves : (p : ℕ) (xs ys : List ℕ) → take p xs ≡ take p ys → drop p xs ≡ drop p ys → xs ≡ ys
halves p xs ys first rest = sym (take-append-drop p xs) ∙ ap₂ (λ (us vs : List ℕ). us ++ vs) first rest ∙ take-append-drop p ys

-- places and bytes whose first ones and later ones agree are the same
whole : (p w : ℕ) (d e : Buffers) → front p w d ≡ front p w e → back p w d ≡ back p w e → d ≡ e
whole p w d e first rest =
    ap₂ (λ (us vs : List ℕ). record { places = us; area = vs })
    (halves p d.places e.places (ap (λ (x : Buffers). x.places) first) (ap (λ (x : Buffers). x.places) rest))
    (halves w d.area e.area (ap (λ (x : Buffers). x.area) first) (ap (λ (x : Buffers). x.area) rest))

module _ (k : LabelOrder) (laws : Lawful k) (l : Entailment) (b : Book) where
  counted_once : (g : Goal) (x y : Answer) → ((ss : List ℕ) × AllSupports l b g ss × (x ≡ Count (length ss))) → ((ss : List ℕ) × AllSupports l b g ss × (y ≡ Count (length ss))) → x ≡ y
  counted_once g x y (ss, is, e) (ts, js, e') = e ∙ ap (λ (us : List ℕ). Count (length us)) (supports_unique l b g ss ts is js) ∙ sym e'

  answered_unique : (c : Call) (x y : Answer) → Answered k l b c x → Answered k l b c y → x ≡ y
  answered_unique (Enter r a) x y e e' = e ∙ sym e'
  answered_unique (Withdraw n) x y e e' = e ∙ sym e'
  answered_unique (Relabel n a) x y e e' = e ∙ sym e'
  answered_unique (Supports g p w) x y is js = counted_once g x y is js
  answered_unique (Publish g p w) x y is js = counted_once g x y is js
  answered_unique (Boundary g) x y (v, is, e) (w, js, e') = e ∙ ap (λ (u : Option ℕ). Bound u) (boundary_unique k l b g laws v w is js) ∙ sym e'
  answered_unique (Row i) x y (gs, is, (v, bound, e)) (hs, js, (w, other, e')) =
      let same : gs ≡ hs = rows_unique b gs hs is js in
      let at : IsBoundary k l b (get_or gs i (0, 0)) w = subst (λ (us : List Goal). IsBoundary k l b (get_or us i (0, 0)) w) (sym same) other in
      e ∙ ap₂ (λ (us : List Goal) (u : Option ℕ). RowAt (get_or us i (0, 0), u)) same (boundary_unique k l b (get_or gs i (0, 0)) laws v w bound at) ∙ sym e'
  answered_unique (See u g) x y (r, is, e) (q, js, e') =
      e ∙ ap (λ (t : Bool). Seen t) (same_answer r q (λ t. js.1 (is.0 t)) (λ t. is.1 (js.0 t))) ∙ sym e'

  lawful_unique : (c : Call) (x y : Result Answer SheetFault) → Lawfully k l b c x → Lawfully k l b c y → x ≡ y
  lawful_unique c (Ok x) (Ok y) (_, is) (_, js) = ap Ok (answered_unique c x y is js)
  lawful_unique c (Ok x) (Err h) (ok, _) by = absurd (none_first (checks k l b c) h ok by)
  lawful_unique c (Err f) (Ok y) by (ok, _) = absurd (none_first (checks k l b c) f ok by)
  lawful_unique c (Err f) (Err h) by other = ap Err (first_unique (checks k l b c) f h by other)

  next_unique : (c : Call) (d e : Book) → Next k l b c d → Next k l b c e → d ≡ e
  next_unique c d e (inl (f, by, is)) (inl (h, other, js)) = is ∙ sym js
  next_unique c d e (inl (f, by, is)) (inr (ok, js)) = absurd (none_first (checks k l b c) f ok by)
  next_unique c d e (inr (ok, is)) (inl (f, by, js)) = absurd (none_first (checks k l b c) f ok by)
  next_unique c d e (inr (_, is)) (inr (_, js)) = is ∙ sym js

  search_leaves_unique : (g : Goal) (x : Result Answer SheetFault) (d e f : Buffers) → SearchLeaves k l b g x d e → SearchLeaves k l b g x d f → e ≡ f
  search_leaves_unique g (Ok (Count n)) d e f ((ss, is, left), bytes) ((ts, js, left'), bytes') =
      let same : ss ≡ ts = supports_unique l b g ss ts is js in
      ap₂ (λ (us vs : List ℕ). record { places = us; area = vs })
      (left ∙ ap (λ (us : List ℕ). us ++ replicate (length d.places - length us) 0) same ∙ sym left') (bytes ∙ sym bytes')
  search_leaves_unique g (Err h) d e f (inl (_, left, bytes)) (inl (_, left', bytes')) =
      ap₂ (λ (us vs : List ℕ). record { places = us; area = vs }) (left ∙ sym left') (bytes ∙ sym bytes')
  search_leaves_unique g (Err h) d e f (inl (more, _, _)) (inr (other, _)) = absurd (other more)
  search_leaves_unique g (Err h) d e f (inr (other, _)) (inl (more, _, _)) = absurd (other more)
  search_leaves_unique g (Err h) d e f (inr (_, is)) (inr (_, js)) = is ∙ sym js
  search_leaves_unique g (Ok (Entered n)) d e f left other = absurd left
  search_leaves_unique g (Ok Done) d e f left other = absurd left
  search_leaves_unique g (Ok (Bound v)) d e f left other = absurd left
  search_leaves_unique g (Ok (RowAt r)) d e f left other = absurd left
  search_leaves_unique g (Ok (Seen r)) d e f left other = absurd left

  leaves_unique : (c : Call) (x : Result Answer SheetFault) (d e f : Buffers) → Leaves k l b c x d e → Leaves k l b c x d f → e ≡ f
  leaves_unique (Enter r a) x d e f is js = is ∙ sym js
  leaves_unique (Withdraw n) x d e f is js = is ∙ sym js
  leaves_unique (Relabel n a) x d e f is js = is ∙ sym js
  leaves_unique (Supports g p w) x d e f is js =
      whole p w e f (search_leaves_unique g x (front p w d) (front p w e) (front p w f) is.0 js.0) (is.1 ∙ sym js.1)
  leaves_unique (Publish g p w) x d e f is js =
      whole p w e f (search_leaves_unique g x (front p w d) (front p w e) (front p w f) is.0 js.0) (is.1 ∙ sym js.1)
  leaves_unique (Boundary g) x d e f is js = is ∙ sym js
  leaves_unique (Row i) x d e f is js = is ∙ sym js
  leaves_unique (See u g) x d e f is js = is ∙ sym js

pub determined : (k : LabelOrder) → Lawful k → (l : Entailment) → Determined k l
determined k laws l = record {
  supports = λ b g ss ts. supports_unique l b g ss ts;
  boundary = λ b g v w. boundary_unique k l b g laws v w;
  rows = rows_unique;
  answer = lawful_unique k laws l;
  book = next_unique k laws l;
  buffers = leaves_unique k laws l;
}
