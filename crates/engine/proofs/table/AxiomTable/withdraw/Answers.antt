use Rattle.std.proofs.Common.{◌∙◌, ap, length, length-set}
use Rattle.engine.specs.Pages.{withdrawn}
use Rattle.engine.proofs.Paging.{change_at, no_page}
use Rattle.arrayvec.proofs.ArrayVecLemmas.{items-with_items}
use Rattle.engine.proofs.table.AxiomTable.withdraw.Goals as goal

pub returns : goal.returns
returns c =
    let pages = c.self.inside.pages in
    items-with_items pages _ (length-set _ c.args.place _ ∙ ap length c.as_mut_slice.ensures.value)
    ∙ rw (c.as_mut_slice.ensures.value, c.self.view_is) (change_at withdrawn c.args.place c.args.self.now no_page c.requires)
