use Rattle.std.proofs.Common.{ℕ, Bool, List, ◌∷◌, [], ◌++◌, get_or, take, sym, ◌∙◌, subst, arith}
use Rattle.std.proofs.lemmas.List.{take_more}
use Rattle.base.specs.Words.{In}
use Rattle.ordered.proofs.Lists.{get_or_in}
use Rattle.prints.proofs.Adding.{adds_both, adds_same}
use Rattle.report.specs.Meaning.{kind_of, logic_of, book_of, users_of}
use Rattle.report.specs.Report.{Seen}
use Rattle.report.proofs.Sighting.{seen_more, sight_lines_more, see_refused, see_answered}
use Rattle.report.proofs.desk.Desk.print_sights.Goals as goal

-- no user of the file is refused
pub returns-in_err-yes : goal.returns-in_err-yes
returns-in_err-yes c = λ p w before keeping shows.
    let us = c.as_slice-user-items.result.now in
    let i = c.loop-user.user-index in
    let within : In (get_or us i 0) (users_of before) = subst (In (get_or us i 0)) (c.as_slice-user-items.ensures.value ∙ keeping.users) (get_or_in us i 0 (omega arith)) in
    absurd (see_refused keeping c.args.goal shows within c.in_err-yes.ensures)

pub loop-user-preserved : goal.loop-user-preserved
loop-user-preserved c = λ p w before keeping shows.
    let us = c.as_slice-user-items.result.now in
    let i = c.loop-user.user-index in
    let g = c.args.goal in
    let told = c.in_ok-yes.yes in
    let (seen, sights, adds) = c.loop-user.invariant p w before keeping shows in
    let within : In (get_or us i 0) (users_of before) = subst (In (get_or us i 0)) (c.as_slice-user-items.ensures.value ∙ keeping.users) (get_or_in us i 0 (omega arith)) in
    let sees = see_answered keeping g shows within c.in_ok-yes.ensures in
    let more = seen_more (kind_of before) (logic_of before) (book_of p w before) g (take i us) seen (get_or us i 0) told sights sees in
    let all : List (ℕ × Bool) = seen ++ ((get_or us i 0, told) ∷ []) in (
      all,
      subst (λ (vs : List ℕ). Seen (kind_of before) (logic_of before) (book_of p w before) g vs all) (sym (take_more us i 0 (omega arith))) more,
      adds_same (sym (sight_lines_more g seen (get_or us i 0) told)) (adds_both adds c.sight_line.ensures),
    )
