-- What a report says of a goal: lines of fields, each line ended by the byte 10, with a comma, 44, before each field after the first.
use Rattle.std.specs.Prelude.{ℕ, zero, suc, ◌+◌, ◌/◌, ◌%◌, ◌^◌, Bool, true, false, cond, List, [], ◌∷◌, ◌++◌, map, Some, None, codes, decimal, Option, ◌==◌}
use Rattle.std.specs.List.{flat_map}
use Rattle.base.specs.Commas.{tails}

-- a goal is two numbers
abbrev pub Goal : Type 0
Goal = ℕ × ℕ

-- numbers, each with a comma before it
abbrev pub numbers : List ℕ → List ℕ
numbers ns = tails (map decimal ns)

-- the axioms of a set among the first n, ascending: axiom k is bit k − 1
unfoldable pub upto : ℕ → ℕ → List ℕ
upto s zero = []
upto s (suc n) = upto s n ++ cond ((s / 2 ^ n) % 2 == 1) ((n + 1) ∷ []) []

-- the axioms of a set
abbrev pub axioms : ℕ → List ℕ
axioms s = upto s 64

-- a boundary, or that there is none
abbrev pub bound : Option ℕ → List ℕ
bound None = codes "none"
bound (Some v) = decimal v

-- an answer in one word
abbrev pub word : Bool → List ℕ
word true = codes "yes"
word false = codes "no"

-- the line of a goal's boundary
abbrev pub boundary_line : Goal → Option ℕ → List ℕ
boundary_line g v = codes "B" ++ (numbers (g.0 ∷ g.1 ∷ []) ++ (44 ∷ (bound v ++ (10 ∷ []))))

-- the line of one support of a goal
abbrev pub support_line : Goal → ℕ → List ℕ
support_line g s = codes "M" ++ (numbers (g.0 ∷ g.1 ∷ axioms s) ++ (10 ∷ []))

-- the line that says whether a user sees a goal
abbrev pub sight_line : Goal → ℕ → Bool → List ℕ
sight_line g u seen = codes "V" ++ (numbers (u ∷ g.0 ∷ g.1 ∷ []) ++ (44 ∷ (word seen ++ (10 ∷ []))))

-- the lines of a goal's supports
abbrev pub support_lines : Goal → List ℕ → List ℕ
support_lines g = flat_map (support_line g)

-- the lines of the users, each with whether it sees the goal
abbrev pub sight_lines : Goal → List (ℕ × Bool) → List ℕ
sight_lines g = flat_map (λ user. sight_line g user.0 user.1)

-- what is printed for a goal
abbrev pub block : Goal → Option ℕ → List ℕ → List (ℕ × Bool) → List ℕ
block g v ss seen = boundary_line g v ++ (support_lines g ss ++ sight_lines g seen)
