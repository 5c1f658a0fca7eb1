-- Going through some records, one after another.
use Rattle.std.proofs.Common.{◌≡◌, ℕ, zero, suc, ◌<◌, Bool, true, false, T, List, [], ◌∷◌, ◌++◌, length, get_or, refl, sym, ap, ◌∙◌, subst, inl, inr, arith}
use Rattle.std.proofs.lemmas.List.{append-nil}
use Rattle.std.proofs.lemmas.List.Elements.{All-contains, All-from_all_within}
use Rattle.std.specs.Bool.{MatchBool}
use Rattle.std.specs.List.{AllWithin, Contains, HoldsAt}
use Rattle.std.specs.Iterator.{Yields, YieldsFirst}
use Rattle.base.specs.Words.{Iff, In}
use Rattle.logics.specs.Entailment.{Each}
use Rattle.logics.specs.Marked.{in_between}
use Rattle.logics.specs.declared.Record.{Record}

walked : (from xs left : List Record) → Yields (YieldsFirst (λ rest. rest)) from xs left → from ≡ xs ++ left
walked from [] left y = y
walked from (x ∷ xs) left y = y.1 ∙ ap (λ l. x ∷ l) (walked y.0 xs left y.2)

module _ {all from : List Record} (xs : List Record) {left : List Record} (is : from ≡ all) (by : Yields (YieldsFirst (λ rest. rest)) from xs left) where
  -- a record on the way is one of all
  pub on_the_way : {r : Record} {next : List Record} → left ≡ r ∷ next → In r all
  on_the_way {r} {next} here = subst (In r) (sym (sym is ∙ walked from xs left by ∙ ap (λ l. xs ++ l) here)) (in_between xs r next)

  -- in the end there were all
  pub in_the_end : left ≡ [] → xs ≡ all
  in_the_end none = sym (append-nil xs) ∙ ap (λ l. xs ++ l) (sym none) ∙ sym (walked from xs left by) ∙ is

contains : (x : Record) (xs : List Record) → In x xs → Contains xs x
contains x [] i = absurd i
contains x (y ∷ ys) (inl e) = (0, omega arith, sym e)
contains x (y ∷ ys) (inr i) = let (k, lt, is) = contains x ys i in (suc k, omega (arith, lt), is)

in_place : (xs : List Record) (k : ℕ) (d : Record) → k < length xs → In (get_or xs k d) xs
in_place [] k d lt = absurd (omega arith)
in_place (x ∷ xs) zero d lt = inl refl
in_place (x ∷ xs) (suc k) d lt = inr (in_place xs k d (omega arith))

-- a test that passes where P holds, made of each record
pub each_tested : (P : Record → Type 0) (xs : List Record) (b : Bool) → MatchBool b (AllWithin P xs 0 (length xs)) ((k : ℕ) × (k < length xs) × HoldsAt (λ x. P x → ⊥) xs k) → Iff (T b) (Each P xs)
each_tested P xs true all = (λ _ x i. All-contains P xs x (All-from_all_within P xs all) (contains x xs i), λ _. tt)
each_tested P xs false (k, lt, fails) =
    let d : Record = record { form = 0; a = 0; b = 0; c = 0 } in
    (absurd, λ all. fails d (all _ (in_place xs k d lt)))
