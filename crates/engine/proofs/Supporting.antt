-- Asking for supports: the refusals in their order, the answer, and every place and byte that is left.
use Rattle.std.proofs.Common.{◌≡◌, ℕ, ◌+◌, ◌-◌, ◌≤◌, List, ◌++◌, length, replicate, Some, Ok, Err, Result, refl, ap, ◌∙◌, inl, inr, arith, length-append}
use native.Mathlib.Decide.{dec_lt}
use lib.ListN.{length-replicate}
use Rattle.labels.specs.Order.{LabelOrder}
use Rattle.logics.specs.Entailment.{Entailment, Goal, Askable}
use Rattle.logics.specs.declared.Record.{Record}
use Rattle.logics.specs.declared.LogicFault.TheVariants.{GoalNotTaken}
use Rattle.supports.specs.Found.{Found}
use Rattle.ordered.proofs.Lists.{ascending_fewer, ascending_unique}
use Rattle.ordered.specs.SetsLemmas.{before_ranking}
use Rattle.engine.specs.declared.sheet.Sheet.{Sheet}
use Rattle.engine.specs.declared.call.Call.TheVariants.{Supports}
use Rattle.engine.specs.declared.call.Answer.TheVariants.{Count}
use Rattle.engine.specs.declared.call.SheetFault.{SheetFault}
use Rattle.engine.specs.declared.call.SheetFault.TheVariants.{ShortArea, MoreSupports, Logic}
use Rattle.engine.specs.Book.{Book}
use Rattle.engine.specs.Sight.{AllSupports}
use Rattle.engine.specs.Law.{MoreThan}
use Rattle.engine.specs.Keeps.{answer}
use Rattle.engine.specs.Obeys.{Obeys, Searches}
use Rattle.engine.proofs.Obeying.{refused, accepted}

-- the two refusals that come before the search are not the one that comes after it
pub goal_first : Logic GoalNotTaken ≡ MoreSupports → ⊥
goal_first e = let z : ◌≡◌ {A = ℕ} 0 1 = cc in omega arith

pub short_first : ShortArea ≡ MoreSupports → ⊥
short_first e = let z : ◌≡◌ {A = ℕ} 0 1 = cc in omega arith

-- a goal has its supports in one list
pub supports_unique : (l : Entailment) (b : Book) (g : Goal) (ss ts : List ℕ) → AllSupports l b g ss → AllSupports l b g ts → ss ≡ ts
supports_unique l b g ss ts is js =
    ascending_unique before_ranking ss ts is.ascending js.ascending (λ s. (λ h. js.complete s (is.sound s h), λ h. is.complete s (js.sound s h)))

module _ (k : LabelOrder) (l : Entailment) where
  -- where all supports found a place, there are not more than places
  pub enough : (b : Book) (g : Goal) (ss : List ℕ) (places : ℕ) → AllSupports l b g ss → length ss ≤ places → MoreThan k l b g places → ⊥
  enough b g ss places is le (ts, some, many) =
      omega (arith, ascending_fewer before_ranking ts ss some.ascending is.ascending (λ t h. is.complete t (some.sound t h)))

  -- the supports fit the places that they were put into
  pub fits : (ss : List ℕ) (n : ℕ) (places places' : List ℕ) → n ≡ length ss → places' ≡ ss ++ replicate (length places - n) 0 → length places' ≡ length places → n ≤ length places
  fits ss n places places' count filled long =
      let size : length places' ≡ length ss + (length places - n) = ap length filled ∙ simp (length-append, length-replicate) in
      omega arith

  -- whether or not the question could be asked, no more are counted than there are places
  pub found_within : (records : List Record) (all : ℕ) (g : Goal) (room : ℕ) (places area : List ℕ) (n : ℕ) (places' area' : List ℕ) → length places' ≡ length places
      → (Askable l records all g room → Found l records all g places area (Some n) places' area') → ((Askable l records all g room → ⊥) → Some n ≡ Some 0) → n ≤ length places
  found_within records all g room places area n places' area' long found declined =
      elim (dec_lt (length places) n) [
        | yes gt ↦
            let never : Askable l records all g room → ⊥ = λ ask. let ((ss, _, count, filled), _) = found ask in omega (arith, fits ss n places places' count filled long) in
            let e : Some n ≡ Some 0 = declined never in
            let z : n ≡ 0 = cc in
            omega arith
        | no le ↦ omega arith
      ]

module _ {K L : Type 0} (order : K → LabelOrder) (entails : L → Entailment) (s : Sheet K L) (g : Goal) (p w : ℕ) where
  pub supports_goal : ((entails s.logic).TakesGoal g → ⊥) → Obeys order entails (Supports g p w) (Err (Logic GoalNotTaken)) s s
  supports_goal never = refused order entails (Supports g p w) s (Logic GoalNotTaken) (λ b keeps. inl (never, refl))

  -- what is found is the answer
  pub supports_found : (entails s.logic).TakesGoal g → (r : Result ℕ SheetFault) → Searches order entails s g p w r → Obeys order entails (Supports g p w) (answer Count r) s s
  supports_found taken (Ok n) found =
      accepted order entails (Supports g p w) s (Count n) s refl refl
      (λ b keeps. let (none, (ss, is, count)) = found b keeps in ((λ never. never taken, none), (ss, is, ap Count count), keeps))
  supports_found taken (Err f) found = refused order entails (Supports g p w) s f (λ b keeps. inr (λ never. never taken, found b keeps))
