use Rattle.std.proofs.Common.{◌≡◌, ℕ, List, [], length}
use Rattle.lines.specs.declared.form.Form.TheVariants.{Kind}
use Rattle.lines.specs.declared.form.KindForm.TheVariants.{Table}
use Rattle.lines.specs.declared.form.Line.{Line}
use Rattle.report.specs.Stands.{Gets, Stands, TableRead}
use Rattle.report.proofs.file.read_table.Given as goal

-- the line that was found last is the next one, and the pairs up to it are kept
abbrev pub invariant-loop-reader : goal.invariant-loop-reader
invariant-loop-reader l =
    Gets l.reader l.found
    × ((p w : ℕ) (file : List ℕ) → Stands p w file l.initial.reader [] → l.initial.found.line.form ≡ Kind Table → (before : List Line) × TableRead p w file l.reader l.found.line l.builder.order.labels l.builder.order.rows before)

abbrev pub decreases-loop-reader : goal.decreases-loop-reader
decreases-loop-reader l = length l.reader.rest.now
