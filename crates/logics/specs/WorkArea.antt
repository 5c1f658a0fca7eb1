-- What is done to the cells of a work area: cell k is its byte at k, and is ticked when that is not 0.
use Rattle.std.specs.Prelude.{count_by, ◌≡◌, ℕ, ◌<◌, Bool, true, false, List, drop, ◌==◌, slice_index, slice_index_or, slice_set}

-- cell k is ticked
abbrev pub Ticked : List ℕ → ℕ → Type 0
Ticked cells k = 0 < slice_index cells k

-- cell k is ticked if p and q are
abbrev pub Settled : ℕ → ℕ → ℕ → List ℕ → Type 0
Settled p q k cells = Ticked cells p → Ticked cells q → Ticked cells k

-- cell k was blank, with p and q ticked, and is ticked now
pub record Inferred (p q k : ℕ) (before after : List ℕ) : Type 0 where
  pub first : Ticked before p
  pub second : Ticked before q
  pub blank : slice_index_or before k 0 ≡ 0
  pub is : after ≡ slice_set before k 1

-- how many cells are not ticked
abbrev pub blanks : List ℕ → ℕ
blanks = count_by (λ x. x == 0)

-- of the first cells only those are ticked that may be
abbrev pub Sound : ℕ → (ℕ → Type 0) → List ℕ → Type 0
Sound bytes May cells = (k : ℕ) → k < bytes → Ticked cells k → May k

-- some of the first cells, that may be, were ticked; if none was, then nothing is left to do
pub record Ticking (bytes : ℕ) (May : ℕ → Type 0) (Done : List ℕ → Type 0) (before after : List ℕ) (changed : Bool) : Type 0 where
  pub others : drop bytes after ≡ drop bytes before
  pub kept : (k : ℕ) → Ticked before k → Ticked after k
  pub sound : Sound bytes May before → Sound bytes May after
  pub fewer : changed ≡ true → blanks after < blanks before
  pub done : changed ≡ false → (after ≡ before) × Done after
