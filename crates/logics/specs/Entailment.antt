-- What a logic means: which records and goals it takes, how many bytes it works in, and what follows.
use Rattle.std.specs.Prelude.{◌≡◌, ℕ, ◌/◌, ◌%◌, ◌^◌, ◌<◌, ◌≤◌, cond, List, [], ◌∷◌, ◌++◌, length, drop, replicate, ◌==◌}
use Rattle.base.specs.Words.{In}
use Rattle.logics.specs.declared.Record.{Record}

-- a goal is a pair of numbers
abbrev pub Goal : Type 0
Goal = ℕ × ℕ

-- the meaning of a logic
pub record Entailment : Type 1 where
  pub TakesRecord : Record → Type 0
  pub TakesGoal : Goal → Type 0
  pub bytes : ℕ
  pub Follows : List Record → Goal → Type 0

-- what holds of each of a list
abbrev pub Each : (Record → Type 0) → List Record → Type 0
Each P xs = (x : Record) → In x xs → P x

-- all that follows from a list follows from every list that has its records
abbrev pub Monotone : Entailment → Type 0
Monotone l =
    (xs ys : List Record) → ((x : Record) → In x xs → In x ys) → (g : Goal) → l.Follows xs g → l.Follows ys g

-- the records whose bits are set, the first by bit 0
abbrev pub marked : List Record → ℕ → List Record
marked [] m = []
marked (x ∷ xs) m = cond (m % 2 == 1) (x ∷ marked xs (m / 2)) (marked xs (m / 2))

-- at most 64 records, with no mark beyond them
abbrev pub Markable : List Record → ℕ → Type 0
Markable records marks = (length records ≤ 64) × (marks < 2 ^ length records)

-- a question that the logic answers by its meaning; to any other it says no and touches nothing
pub record Askable (l : Entailment) (records : List Record) (marks : ℕ) (goal : Goal) (room : ℕ) : Type 0 where
  pub few : length records ≤ 64
  pub within : marks < 2 ^ length records
  pub taken : Each l.TakesRecord (marked records marks)
  pub posed : l.TakesGoal goal
  pub wide : l.bytes ≤ room

-- the first bytes of the work area are zero afterwards, and the others as they were
abbrev pub Scrubbed : ℕ → List ℕ → List ℕ → Type 0
Scrubbed n before after = after ≡ replicate n 0 ++ drop n before
