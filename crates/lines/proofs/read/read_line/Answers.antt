use Rattle.std.proofs.Common.{Ok, Err, arith}
use Rattle.lines.specs.declared.fault.TextFault.TheVariants.{Misplaced}
use Rattle.lines.specs.Reading.{endless, shapeless, misplaced, unreadable}
use Rattle.lines.proofs.Ends.{no_end, end_found, refused, line_next}
use Rattle.lines.proofs.Inverse.{read_as}
use Rattle.lines.proofs.read.read_line.Goals as goal

pub returns-in_err-end : goal.returns-in_err-end
returns-in_err-end c =
    let told = refused _ _ _ c.in_err-end.ensures.value _ c.from_residual.ensures.1 _ _ (endless (no_end c.args.rest.now (rw c.in_err-end.ensures.ok_part at c.find.ensures))) in
    record { told = told; inverse = read_as _ _ _ _ told }

pub returns-in_err-form : goal.returns-in_err-form
returns-in_err-form c =
    let ended = end_found c.args.rest.now _ (rw c.in_ok-end.ensures.ok_part at c.find.ensures) in
    let told = refused _ _ _ c.in_err-form.ensures.value _ c.from_residual-in_err-form.ensures.1 _ _ (shapeless _ _ ended (rw c.in_err-form.ensures.ok_part at c.shape_of.ensures)) in
    record { told = told; inverse = read_as _ _ _ _ told }

pub returns-then-not-may_stand : goal.returns-then-not-may_stand
returns-then-not-may_stand c =
    let ended = end_found c.args.rest.now _ (rw c.in_ok-end.ensures.ok_part at c.find.ensures) in
    let (fields, shaped, parted, few) = rw c.in_ok-form.ensures.ok_part at c.shape_of.ensures in
    let told = misplaced _ _ ended c.in_ok-form.form fields shaped c.if-not-may_stand.ensures.1 in
    record { told = told; inverse = read_as _ _ _ (Err Misplaced) told }

pub returns-in_err-numbers : goal.returns-in_err-numbers
returns-in_err-numbers c =
    let ended = end_found c.args.rest.now _ (rw c.in_ok-end.ensures.ok_part at c.find.ensures) in
    let (fields, shaped, parted, few) = rw c.in_ok-form.ensures.ok_part at c.shape_of.ensures in
    let (field, within, none) = rw c.in_err-numbers.ensures.ok_part at c.read_numbers.ensures fields parted few in
    let told = refused _ _ _ c.in_err-numbers.ensures.value _ c.from_residual-in_err-numbers.ensures.1 _ _ (unreadable _ _ ended c.in_ok-form.form fields shaped (c.if-not-may_stand.ensures.0 tt) field within none) in
    record { told = told; inverse = read_as _ _ _ _ told }

pub returns : goal.returns
returns c =
    let first = rw c.in_ok-end.ensures.ok_part at c.find.ensures in
    let (fields, shaped, parted, few) = rw c.in_ok-form.ensures.ok_part at c.shape_of.ensures in
    let numbered = rw c.in_ok-numbers.ensures.ok_part at c.read_numbers.ensures fields parted few in
    let next = line_next c.args.last c.args.users c.args.rest.now _ _ (end_found c.args.rest.now _ first) c.in_ok-form.form fields shaped (c.if-not-may_stand.ensures.0 tt) c.in_ok-numbers.numbers numbered in
    record {
      told = (omega arith, omega (arith, first.0), next);
      inverse = read_as c.args.last c.args.users c.args.rest.now (Ok _) (omega arith, omega (arith, first.0), next);
    }
