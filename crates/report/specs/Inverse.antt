-- Reading is the inverse of writing.
use Rattle.std.specs.Prelude.{◌≡◌, ℕ, ◌<◌, List, [], ◌∷◌, ◌++◌, length}
use Rattle.lines.specs.declared.fault.TextFault.{TextFault}
use Rattle.lines.specs.declared.form.Line.{Line}
use Rattle.lines.specs.Forms.{May}
use Rattle.lines.specs.Lines.{written, Whole, last_form}
use Rattle.lines.specs.Reading.{TextFails}
use Rattle.report.specs.declared.fault.Cause.{Cause}
use Rattle.report.specs.Checks.{user_count, Refuses, Accepts}

-- a sheet of lines, each of which may stand where it stands
abbrev pub InOrder : List Line → List Line → Type 0
InOrder before [] = Unit {0}
InOrder before (x ∷ xs) = Whole x × May (last_form before) (user_count before) x.form × InOrder (before ++ (x ∷ [])) xs

-- a file that was written from a sheet is read back as that sheet: what is accepted is the sheet; what is refused was read up
-- to its refusal as the sheet's first lines, and no line of it is refused for its text
abbrev pub ReadBack : ℕ → ℕ → Type 0
ReadBack p w =
    (xs : List Line) → InOrder [] xs
    → ((ls : List Line) → Accepts p w (written xs) ls → ls ≡ xs)
    × ((n : ℕ) (c : Cause) (r : Refuses p w (written xs) n c)
    → (ys : List Line) × (xs ≡ r.before ++ ys) × (r.rest ≡ written ys) × ((f : TextFault) → 0 < length r.rest → TextFails (last_form r.before) (user_count r.before) r.rest f → ⊥))
