-- How a line and a sheet of lines are written, and what a sheet has of each section.
use Rattle.std.specs.Prelude.{◌≡◌, ℕ, ◌-◌, ◌^◌, ◌<◌, cond, List, [], ◌∷◌, ◌++◌, map, length, take, drop, replicate, Some, None, decimal, Option, ◌==◌}
use Rattle.base.specs.Words.{In}
use Rattle.base.specs.Commas.{tails}
use Rattle.lines.specs.declared.form.Form.{Form}
use Rattle.lines.specs.declared.form.Line.{Line}
use Rattle.lines.specs.Forms.{opening, arity, section}

-- the numbers that the line's form asks for
abbrev pub numbers_of : Line → List ℕ
numbers_of x = take (arity x.form) x.numbers

-- the line without its end
abbrev pub body : Line → List ℕ
body x = opening x.form ++ tails (map decimal (numbers_of x))

-- a line is closed by a line feed
abbrev pub text : Line → List ℕ
text x = body x ++ (10 ∷ [])

-- a sheet of lines as a file
abbrev pub written : List Line → List ℕ
written [] = []
written (x ∷ xs) = text x ++ written xs

-- a line has 32-bit numbers, and zeros behind those of its form
pub record Whole (x : Line) : Type 0 where
  pub four : length x.numbers ≡ 4
  pub small : (n : ℕ) → In n x.numbers → n < 2 ^ 32
  pub rest : drop (arity x.form) x.numbers ≡ replicate (4 - arity x.form) 0

-- the lines of a section
abbrev pub lines_of : ℕ → List Line → List Line
lines_of s [] = []
lines_of s (x ∷ xs) = cond (section x.form == s) (x ∷ lines_of s xs) (lines_of s xs)

-- the form of the last line
abbrev pub last_form : List Line → Option Form
last_form [] = None
last_form (x ∷ []) = Some x.form
last_form (x ∷ y ∷ ys) = last_form (y ∷ ys)
