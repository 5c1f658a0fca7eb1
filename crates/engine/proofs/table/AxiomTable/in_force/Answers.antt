use Rattle.std.proofs.Common.{rules, ℕ, T, List, subst}
use Rattle.base.specs.Bits.{Has}
use Rattle.base.specs.Words.{Iff}
use Rattle.base.proofs.Places.{places_Gathered}
use Rattle.engine.specs.Pages.{Standing}
use Rattle.engine.specs.declared.page.Page.{Page}
use Rattle.engine.proofs.Paging.{no_page, gathered_standing}
use Rattle.engine.proofs.table.AxiomTable.in_force.Goals as goal

pub returns : goal.returns
returns c =
    let pages = c.pages.result.now in
    let force = c.places_where in
    let gathered = places_Gathered (λ (p : Page). T p.stands) pages no_page force.result force.ensures.within force.ensures.answered (λ p r k. search rules) in
    subst (λ (ps : List Page). (i : ℕ) → Iff (Has force.result i) (Standing ps i)) c.pages.ensures.is (gathered_standing pages force.result gathered)
