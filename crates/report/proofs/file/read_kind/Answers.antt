use Rattle.std.proofs.Common.{[], ◌∷◌, refl, rules}
use Rattle.report.proofs.Files.{passed_on, refused_check}
use Rattle.report.proofs.Openings.{stops_early}
use Rattle.report.proofs.Tabling.{first_kind, plain_read}
use Rattle.report.proofs.file.read_kind.Goals as goal

pub returns-in_err-found : goal.returns-in_err-found
returns-in_err-found c = λ p w file stands. rw (passed_on c.from_residual.ensures.1) (stops_early stands refl c.in_err-found.ensures)

pub returns-in_err-kind : goal.returns-in_err-kind
returns-in_err-kind c = λ p w file stands.
    let gets = c.in_ok-found.ensures in
    rw (passed_on c.from_residual-in_err-kind.ensures.1) (refused_check stands gets (c.in_err-kind.ensures p w _ (first_kind stands gets) (λ e. search rules)))

pub returns : goal.returns
returns c = λ p w file stands.
    let gets = c.in_ok-found.ensures in
    let (same, none) = c.in_ok-kind.ensures p w _ (first_kind stands gets) (λ e. search rules) in
    (c.in_ok-found.found.line ∷ [], plain_read stands gets (λ e. search rules) same none c.advance.ensures)
