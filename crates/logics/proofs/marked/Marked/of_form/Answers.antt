use Rattle.std.proofs.Common.{rules, ◌≡◌, filter, eqb, ap, ◌∙◌}
use Rattle.base.proofs.Places.{places_Gathered}
use Rattle.logics.specs.declared.Record.{Record}
use Rattle.logics.proofs.Selections.{selects}
use Rattle.logics.proofs.marked.Marked.of_form.Goals as goal

blank : Record
blank = record { form = 0; a = 0; b = 0; c = 0 }

pub returns : goal.returns
unfolding blank
returns c =
    let number = c.from-number.result in
    let records = c.self.inside.records.now in
    let places = c.places_where-places in
    let found = places_Gathered (λ (r : Record). r.form ≡ number) records blank places.result places.ensures.within places.ensures.answered (λ p r k. search rules) in
    let is = selects number records blank places.result c.self.inside.marks (λ k lt. (λ h. ((found k).0 h).1, λ e. (found k).1 (lt, e))) in
    rw (← c.from-number.ensures) (is ∙ ap (filter (λ (r : Record). eqb r.form number)) c.self.view_is)
