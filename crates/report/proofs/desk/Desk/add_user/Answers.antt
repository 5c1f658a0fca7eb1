use Rattle.std.proofs.Common.{◌≡◌, Ok, Err, Result, IsOk, OnOk, MatchResult, subst, refl, arith}
use Rattle.labels.specs.Order.{JoinPrime}
use Rattle.labels.specs.Fault.{UserRefused}
use Rattle.report.specs.declared.any.AnyKind.{AnyKind}
use Rattle.report.specs.declared.fault.Cause.{Cause}
use Rattle.report.specs.Any.{any_kind}
use Rattle.report.specs.Meaning.{at}
use Rattle.report.proofs.Stepping.{users_counted}
use Rattle.report.proofs.Files.{passed_on}
use Rattle.report.proofs.Entering.{user_refused, user_accepted}
use Rattle.report.proofs.desk.Desk.add_user.Goals as goal

pub returns-in_err-check_user : goal.returns-in_err-check_user
returns-in_err-check_user c = λ p w before behind is few keeping.
    rw (passed_on c.from_residual.ensures.1) (user_refused keeping c.args.line.now behind is c.in_err-check_user.field-0.0
    (subst (λ (k : AnyKind). UserRefused (any_kind k) (at c.args.line.now 0) c.in_err-check_user.field-0.0) c.kind.ensures c.in_err-check_user.ensures))

-- a user that finds room is taken, whatever would be told without
taken : {E : Type 0} (r : Result (Unit {0}) E) (m : Result (Unit {0}) Cause) (Told : E → Type 0) (Done : Type 0) → IsOk r → MatchResult r (λ x. m ≡ Ok x) Told → OnOk r Done → (m ≡ Ok tt) × Done
taken (Ok x) m Told Done some is done = (is, done)
taken (Err e) m Told Done some is done = cc

pub returns : goal.returns
returns c = λ p w before behind is few keeping.
    let room = users_counted keeping in
    let (same, added) = taken c.try_push.result c.map_err.result _ _ (c.try_push.ensures.variant.1 (omega arith)) c.map_err.ensures.cases c.try_push.ensures.ok in
    rw same (user_accepted keeping c.args.line.now behind is (subst (λ (k : AnyKind). JoinPrime (any_kind k) (at c.args.line.now 0)) c.kind.ensures c.in_ok-check_user.ensures) refl added)
