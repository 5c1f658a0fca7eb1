-- Sets of small numbers, each stored as one number: i is in s when bit i of s is 1.
use Rattle.std.specs.Prelude.{◌≡◌, ℕ, ◌/◌, ◌%◌, ◌^◌, ◌<◌, Bool, true, false, ◌⊎◌, List, length}
use Rattle.std.specs.List.{HoldsAt}

-- i is in s
abbrev pub Has : ℕ → ℕ → Type 0
Has s i = (s / 2 ^ i) % 2 ≡ 1

-- s has at most one place
abbrev pub AtMostOne : ℕ → Type 0
AtMostOne s = (i j : ℕ) → Has s i → Has s j → i ≡ j

-- whatever is in s is in t
abbrev pub Subset : ℕ → ℕ → Type 0
Subset s t = (i : ℕ) → Has s i → Has t i

-- a test answers yes for the things at the places in s, and no for the others; R says what it may answer
abbrev pub Answered : {A : Type 0} → (A → Bool → Type 0) → List A → ℕ → Type 0
Answered R things s =
    (i : ℕ) → i < length things → (Has s i × HoldsAt (λ x. R x true) things i) ⊎ ((Has s i → ⊥) × HoldsAt (λ x. R x false) things i)
