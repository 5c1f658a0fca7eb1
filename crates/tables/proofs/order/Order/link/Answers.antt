use Rattle.std.proofs.Common.{◌≡◌, ℕ, ◌+◌, ◌<◌, ◌++◌, List, length, get_or, set, take, drop, sym, subst, refl, ◌∙◌, ap, arith, take-append-drop, length-take-le, rules}
use Rattle.std.proofs.lemmas.List.{get_or_append_left, set-append_left, set-get_or}
use lib.Bits.{bit_or}
use Rattle.base.specs.Bits.{Has}
use Rattle.tables.proofs.Matrix.{linked_inside, linked_ordered}
use Rattle.tables.proofs.Links.{LinkedTo, link_row, skip_row, linked_all}
use Rattle.tables.proofs.order.Order.link.Goals as goal
use Rattle.tables.proofs.order.Order.link.Goals.{then-contains, else-contains}

pub loop-row-init : goal.loop-row-init
loop-row-init c = rw take-append-drop (search rules, λ a b h. absurd (omega arith), λ a h. refl)

pub loop-row-preserved : goal.loop-row-preserved
loop-row-preserved c =
    let self = c.args.self.now in
    let rest = drop self.labels self.rows in
    let items = c.loop-row.row-items in
    let i = c.loop-row.row-index in
    let P : List ℕ → Type 0 = λ rows. LinkedTo self.rows c.args.low c.args.high (rows ++ rest) (i + 1) in
    let wide : length self.rows ≡ 32 = search rules in
    let front : length (take self.labels self.rows) ≡ self.labels = length-take-le self.labels self.rows (omega (arith, self.sized.1)) in
    let here : i < length items = omega (arith, c.loop-row.auto.row-items, c.loop-row-test.true) in
    let within : i < 32 = omega (arith, self.sized.1) in
    let done = c.loop-row.invariant in
    let at : get_or items i 0 ≡ get_or self.rows i 0 = sym (get_or_append_left items rest 0 i here) ∙ done.2 i (omega arith) in
    let row = c.from.ensures ∙ at in
    elim c.if-contains.branch [
      | then-contains w ↦
          let under = subst (λ (x : ℕ). Has x c.args.low) row (w.if-contains.ensures.0 tt) in
          subst P (sym w.row-items-is)
          (subst (λ (rows : List ℕ). LinkedTo self.rows c.args.low c.args.high rows (i + 1)) (set-append_left items rest i _ here)
          (link_row _ _ _ _ _ within done _ (ap (λ (x : ℕ). bit_or x (get_or self.rows c.args.high 0)) at) under))
      | else-contains w ↦
          subst P (sym (w.row-items-is ∙ set-get_or items i 0)) (skip_row _ _ _ _ _ within done (λ h. w.if-contains.ensures.1 (subst (λ (x : ℕ). Has x c.args.low) (sym row) h)))
    ]

pub invariant_of-self : goal.invariant_of-self
invariant_of-self c =
    let self = c.args.self.now in
    let wide : length self.rows ≡ 32 = search rules in
    let front : length (take self.labels self.rows) ≡ self.labels = length-take-le self.labels self.rows (omega (arith, self.sized.1)) in
    let linked = linked_all _ _ _ _ _ self.inside c.loop-row.row-index (omega (arith, front, c.loop-row-test.false, c.loop-row.auto.row-items)) c.loop-row.invariant in
    record {
      sized = self.sized;
      inside = linked_inside _ _ _ _ _ self.inside self.ordered linked;
      ordered = linked_ordered _ _ _ _ _ self.inside self.ordered linked c.requires.no_loop;
    }

pub returns-clause-linked : goal.returns-clause-linked
returns-clause-linked c =
    let self = c.args.self.now in
    let wide : length self.rows ≡ 32 = search rules in
    let front : length (take self.labels self.rows) ≡ self.labels = length-take-le self.labels self.rows (omega (arith, self.sized.1)) in
    linked_all _ _ _ _ _ self.inside c.loop-row.row-index (omega (arith, front, c.loop-row-test.false, c.loop-row.auto.row-items)) c.loop-row.invariant
