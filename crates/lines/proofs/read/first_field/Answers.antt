use Rattle.lines.proofs.Fields.{first_field, no_fields}
use Rattle.lines.proofs.read.first_field.Goals as goal

pub returns-in_err-behind : goal.returns-in_err-behind
returns-in_err-behind c = λ parts p. rw c.from_residual.ensures (no_fields parts c.args.fields.now p c.in_err-behind.ensures.cases)

pub returns : goal.returns
returns c = λ parts p.
    rw (c.split_at.ensures.front, c.split_at.ensures.back, c.unwrap_or.ensures) (first_field _ c.in_ok-behind.behind.now c.find.result c.find.ensures parts (rw c.in_ok-behind.ensures.cases.0 at p))
