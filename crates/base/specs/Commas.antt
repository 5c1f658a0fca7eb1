-- Fields of text.
use Rattle.std.specs.Prelude.{ℕ, List, [], ◌∷◌, ◌++◌}

-- fields, each behind a comma
abbrev pub tails : List (List ℕ) → List ℕ
tails [] = []
tails (f ∷ fs) = 44 ∷ (f ++ tails fs)
