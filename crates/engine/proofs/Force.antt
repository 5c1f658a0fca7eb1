-- Supports within the set of the axioms in force are the supports of the book.
use Rattle.std.proofs.Common.{ℕ, List}
use Rattle.base.specs.Bits.{Has}
use Rattle.base.specs.Words.{Iff}
use Rattle.labels.specs.Order.{LabelOrder}
use Rattle.logics.specs.Entailment.{Entailment, Goal}
use Rattle.supports.specs.Supports as supports
use Rattle.engine.specs.Book.{Book}
use Rattle.engine.specs.Sight.{entries, InForce, Support, AllSupports}
use Rattle.engine.specs.Law.{MoreThan}

module _ (l : Entailment) (b : Book) (g : Goal) (all : ℕ) (force : (i : ℕ) → Iff (Has all i) (InForce b i)) where
  -- one of the set is one of the book
  pub support_of_book : (s : ℕ) → supports.Support l (entries b) (Has all) g s → Support l b g s
  support_of_book s is = record { in_force = λ i h. (force i).0 (is.in_force i h); yields = is.yields; minimal = is.minimal }

  -- and back
  pub support_of_set : (s : ℕ) → Support l b g s → supports.Support l (entries b) (Has all) g s
  support_of_set s is = record { in_force = λ i h. (force i).1 (is.in_force i h); yields = is.yields; minimal = is.minimal }

  -- all of the set are all of the book
  pub all_of_book : (ss : List ℕ) → supports.AllSupports l (entries b) (Has all) g ss → AllSupports l b g ss
  all_of_book ss is = record {
    sound = λ s h. support_of_book s (is.sound s h);
    complete = λ s h. is.complete s (support_of_set s h);
    ascending = is.ascending;
  }

  -- where the set has more than there are places, so has the book
  pub more_of_book : (k : LabelOrder) (places : ℕ) → supports.MoreThan l (entries b) (Has all) g places → MoreThan k l b g places
  more_of_book k places (ss, some, many) = (ss, record { sound = λ s h. support_of_book s (some.sound s h); ascending = some.ascending }, many)
