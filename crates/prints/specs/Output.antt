-- An output that a text is printed into.
use Rattle.std.specs.Prelude.{◌≡◌, ℕ, ◌<◌, ◌≤◌, List, ◌++◌, length, drop, Some, None, Option}
use Rattle.std.specs.Borrow.{MutBor}
use Rattle.prints.specs.declared.Printer.{Printer}

-- the text t has been printed into an output that held `before`: it stands at the front, or it is longer than the output
abbrev pub Printed : List ℕ → List ℕ → Option ℕ → List ℕ → Type 0
Printed t before (Some n) now = (n ≡ length t) × (length t ≤ length before) × (now ≡ t ++ drop n before)
Printed t before None now = (length before < length t) × (length now ≡ length before)

-- the printer has printed the text t into the output that it was given
pub record PrintedBy (t : List ℕ) (out : MutBor (List ℕ)) (p : Printer) : Type 0 where
  pub same_reference : p.out.ghost_name ≡ out.ghost_name
  pub printed : Printed t out.now p.print.length p.out.now

-- whatever text was printed, the piece stands behind it now
pub record Adds (piece : List ℕ) (p q : Printer) : Type 0 where
  pub behind : (t : List ℕ) (out : MutBor (List ℕ)) → PrintedBy t out p → PrintedBy (t ++ piece) out q
