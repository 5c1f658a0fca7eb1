-- Supports: the minimal sets of axioms in force that yield a goal. A set of axioms is a number: axiom i + 1 is bit i.
use Rattle.std.specs.Prelude.{ℕ, ◌<◌, List, length}
use Rattle.base.specs.Bits.{Has, Subset}
use Rattle.base.specs.Words.{In}
use Rattle.logics.specs.Entailment.{Entailment, Goal, marked}
use Rattle.logics.specs.declared.Record.{Record}
use Rattle.ordered.specs.Lists.{Ascending}
use Rattle.ordered.specs.Sets.{Before}

module _ (l : Entailment) (records : List Record) (InForce : ℕ → Type 0) (g : Goal) where
  -- the goal follows from the axioms of s
  abbrev pub Yields : ℕ → Type 0
  Yields s = l.Follows (marked records s) g

  -- a minimal set of axioms in force that yields the goal
  pub record Support (s : ℕ) : Type 0 where
    pub in_force : (i : ℕ) → Has s i → InForce i
    pub yields : Yields s
    pub minimal : (t : ℕ) → Subset t s → Yields t → Subset s t

  -- every support once, ascending
  pub record AllSupports (ss : List ℕ) : Type 0 where
    pub sound : (s : ℕ) → In s ss → Support s
    pub complete : (s : ℕ) → Support s → In s ss
    pub ascending : Ascending Before ss

  -- some supports, once each, ascending
  pub record SomeSupports (ss : List ℕ) : Type 0 where
    pub sound : (s : ℕ) → In s ss → Support s
    pub ascending : Ascending Before ss

  -- there are more supports than places
  abbrev pub MoreThan : ℕ → Type 0
  MoreThan places = (ss : List ℕ) × SomeSupports ss × (places < length ss)
