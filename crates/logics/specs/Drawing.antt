-- The concepts and roles that the cells of a work area draw: the elements are the rows that are reached.
use Rattle.std.specs.Prelude.{ℕ, Bool, ◌&&◌, List, ◌==◌, nat_lt, slice_index}
use Rattle.std.specs.List.{list_any}
use Rattle.base.specs.Words.{In}
use Rattle.logics.specs.Plan.{cell}
use Rattle.logics.specs.Interpretation.{HoldsAt}
use Rattle.logics.specs.declared.Record.{Record}

module _ (n : ℕ) (cells : List ℕ) where
  -- is a in the row of x?
  abbrev pub in_row : ℕ → ℕ → Bool
  in_row x a = nat_lt 0 (slice_index cells (cell n (x, a)))

  -- is the row of x reached?
  abbrev pub row : ℕ → Bool
  row x = nat_lt x n && in_row x 0

  -- an element lies in the concepts of its row
  abbrev pub drawn_concept : ℕ → ℕ → Bool
  drawn_concept c x = row x && in_row x c

  -- does the record make y a partner of x by the role?
  abbrev pub pairs : ℕ → ℕ → ℕ → Record → Bool
  pairs role x y r = r.form == 3 && (r.b == role && (r.c == y && in_row x r.a))

  -- does one of the records?
  abbrev pub partner : ℕ → ℕ → ℕ → List Record → Bool
  partner role x y = list_any (pairs role x y)

  -- two elements are related as a record makes them partners
  abbrev pub drawn_role : List Record → ℕ → ℕ → ℕ → Bool
  drawn_role rs role x y = row x && (row y && partner role x y rs)

-- what a record says of x holds in the drawing
abbrev pub DrawnAt : ℕ → List Record → ℕ → Record → List ℕ → Type 0
DrawnAt n rs x r cells = HoldsAt (drawn_concept n cells) (drawn_role n cells rs) r x

-- what each of the records says of x holds in the drawing
abbrev pub AllDrawn : ℕ → List Record → ℕ → List ℕ → Type 0
AllDrawn n rs x cells = (r : Record) → In r rs → DrawnAt n rs x r cells
