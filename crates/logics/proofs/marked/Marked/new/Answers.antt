use Rattle.std.proofs.Common.{◌/◌, ◌^◌, ◌≡◌, length, rules}
use native.Mathlib.Nat.{div-eq_of_lt}
use Rattle.logics.proofs.marked.Marked.new.Goals as goal

pub returns-else-marks-len-eq0 : goal.returns-else-marks-len-eq0
returns-else-marks-len-eq0 c ok =
    let high : c.args.marks / 2 ^ length c.args.records.now ≡ 0 = div-eq_of_lt ok.1 in
    search rules
