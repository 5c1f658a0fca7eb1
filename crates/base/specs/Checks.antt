-- Checks that are made in their order, each a fault and the case in which it is given.
use Rattle.std.specs.Prelude.{◌≡◌, ◌⊎◌, List, [], ◌∷◌}

-- the first case that holds gives the fault
abbrev pub FirstOf : {F : Type 0} → List (F × Type 0) → F → Type 0
FirstOf [] f = ⊥
FirstOf (c ∷ cs) f = (c.1 × (c.0 ≡ f)) ⊎ ((c.1 → ⊥) × FirstOf cs f)

-- no case holds
abbrev pub NoneOf : {F : Type 0} → List (F × Type 0) → Type 0
NoneOf [] = Unit {0}
NoneOf (c ∷ cs) = (c.1 → ⊥) × NoneOf cs
