use Rattle.std.proofs.Common.{◌≡◌, ◌≤◌, length, take, refl, arith, length-take}
use native.Mathlib.Decide.{dec_lt}
use Rattle.std.proofs.lemmas.Result.{MatchResult-from_err}
use Rattle.supports.proofs.Joining.{joined_there, joined_gap, joined_opened}
use Rattle.supports.proofs.known.add.Goals as goal

pub returns-in_default : goal.returns-in_default
returns-in_default c =
    let found = c.in_default.ensures.found in
    record { added = (c.requires.few, joined_there _ _ _ c.requires.ascending found.0 found.1) }

pub returns-in_err-insert : goal.returns-in_err-insert
returns-in_err-insert c =
    let places = c.args.places.now in
    let within : c.in-Err.place ≤ length (take c.args.count places) = c.in-Err.ensures.found in
    let used : length (take c.args.count places) ≡ c.args.count = simp length-take (omega arith) in
    let full : c.args.count ≡ length places =
    elim (dec_lt c.args.count (length places)) [ yes lt ↦ cc (c.in_err-insert.ensures.room.1 (lt, omega arith)) | no ge ↦ omega arith ] in
    let (more, joined, long) = joined_gap (take c.args.count places) c.args.set c.in-Err.place within c.requires.ascending (c.in-Err.ensures.gap c.requires.ascending) in
    record { added = MatchResult-from_err _ _ _ c.from_residual.ensures.0 (λ _. (full, (more, joined, omega arith))) }

pub returns : goal.returns
returns c =
    let (room, used) = c.in_ok-insert.ensures.room.0 refl in
    record {
      added = (
        omega arith,
        rw c.in_ok-insert.ensures.put (joined_opened c.args.places.now c.args.count c.in-Err.place c.args.set room used c.requires.ascending (c.in-Err.ensures.gap c.requires.ascending)),
      );
    }
