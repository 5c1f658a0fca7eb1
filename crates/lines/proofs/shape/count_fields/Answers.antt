use Rattle.std.proofs.Common.{◌≡◌, ◌<◌, length, get_or, count_by, sym, ◌∙◌, arith, rules}
use Rattle.lines.proofs.Fields.{comma, parted_of, begins_parted}
use Rattle.lines.proofs.shape.count_fields.Goals as goal

pub returns-in_default : goal.returns-in_default
returns-in_default c = λ fields p.
    let comma_first = begins_parted c.args.rest.now fields p (omega arith) in grind (arith, comma_first)

pub returns-in-empty : goal.returns-in-empty
returns-in-empty c =
    let bs = c.args.rest.now in
    let begins : 0 < length bs → get_or bs 0 0 ≡ 44 = λ some. grind arith in
    let counted : c.count.result ≡ count_by comma bs = search rules in
    let (fields, parted, count) = parted_of bs begins in
    (fields, parted, count ∙ sym counted)
