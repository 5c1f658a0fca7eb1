use Rattle.lines.proofs.Numbers.{padded_number, text_of, parsed_number}
use Rattle.lines.proofs.number.read_number.Goals as goal

pub returns-then-is_padded : goal.returns-then-is_padded
returns-then-is_padded c = padded_number c.args.field.now (c.if-is_padded.ensures.0 tt)

pub returns-in_err-ok : goal.returns-in_err-ok
returns-in_err-ok c = rw c.from_residual.ensures (text_of _ c.args.field.now _ _ c.in_err-ok.ensures.value c.from_utf8.ensures.cases)

pub returns : goal.returns
returns c =
    let text = text_of _ c.args.field.now _ _ c.in_ok-ok.ensures.value c.from_utf8.ensures.cases in
    rw c.ok-2.ensures.value (parsed_number c.args.field.now _ (rw text at c.parse.ensures.value.0) c.if-is_padded.ensures.1)
