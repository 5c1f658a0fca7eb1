-- What a search for supports is about, and what it begins with.
use Rattle.std.specs.Prelude.{◌≡◌, ℕ, ◌≤◌, List, ◌++◌, length, take, drop, replicate}
use Rattle.base.specs.Bits.{Has}
use Rattle.logics.specs.Entailment.{Entailment, Goal, Askable}
use Rattle.logics.specs.declared.Record.{Record}
use Rattle.supports.specs.declared.question.Question.{Question}
use Rattle.supports.specs.Supports as words

-- a logic, its records, which of them are in force, and the goal
pub record Asked : Type 1 where
  pub logic : Entailment
  pub records : List Record
  pub all : ℕ
  pub goal : Goal

-- what a question of the code asks, of a logic by its meaning
abbrev pub asked : {L : Type 0} → (L → Entailment) → Question L → Asked
asked meaning q = record { logic = meaning q.logic.now; records = q.records.now; all = q.all; goal = q.goal }

-- the first n bytes of the work area are zero
abbrev pub Clean : ℕ → List ℕ → Type 0
Clean n area = area ≡ replicate n 0 ++ drop n area

module _ (q : Asked) where
  -- the goal follows from the axioms of a set
  abbrev pub Yields : ℕ → Type 0
  Yields = words.Yields q.logic q.records (Has q.all) q.goal

  -- a minimal set of axioms in force that yields it
  abbrev pub Support : ℕ → Type 0
  Support = words.Support q.logic q.records (Has q.all) q.goal

  -- some supports, or all of them, once each, ascending
  abbrev pub SomeSupports : List ℕ → Type 0
  SomeSupports = words.SomeSupports q.logic q.records (Has q.all) q.goal

  abbrev pub AllSupports : List ℕ → Type 0
  AllSupports = words.AllSupports q.logic q.records (Has q.all) q.goal

  -- there are more supports than places
  abbrev pub MoreThan : ℕ → Type 0
  MoreThan = words.MoreThan q.logic q.records (Has q.all) q.goal

  -- the logic answers the question, and finds its part of the work area clean
  pub record Ready (area : List ℕ) : Type 0 where
    pub askable : Askable q.logic q.records q.all q.goal (length area)
    pub clean : Clean q.logic.bytes area

  -- the first `count` places hold supports that are known
  pub record Known (places : List ℕ) (count : ℕ) : Type 0 where
    pub few : count ≤ length places
    pub supports : SomeSupports (take count places)
