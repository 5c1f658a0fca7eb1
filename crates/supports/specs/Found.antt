-- What a search for supports answers, and what it leaves in every place and byte.
use Rattle.std.specs.Prelude.{◌≡◌, ℕ, ◌-◌, List, ◌++◌, length, replicate, Some, None, Option}
use Rattle.base.specs.Bits.{Has}
use Rattle.logics.specs.Entailment.{Entailment, Goal, Scrubbed}
use Rattle.logics.specs.declared.Record.{Record}
use Rattle.supports.specs.Supports.{AllSupports, MoreThan}

module _ (l : Entailment) (records : List Record) (all : ℕ) (g : Goal) (places area : List ℕ) where
  -- all supports and then zeros; or nothing but zeros, since there are more supports than places
  abbrev pub Found : Option ℕ → List ℕ → List ℕ → Type 0
  Found (Some n) places' area' =
      ((ss : List ℕ) × AllSupports l records (Has all) g ss × (n ≡ length ss) × (places' ≡ ss ++ replicate (length places - n) 0))
      × Scrubbed l.bytes area area'
  Found None places' area' =
      MoreThan l records (Has all) g (length places) × (places' ≡ replicate (length places) 0) × Scrubbed l.bytes area area'
