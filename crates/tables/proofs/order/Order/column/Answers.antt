use Rattle.std.proofs.Common.{rules, ℕ, ◌≡◌, length, get_or, take, ap, arith, length-take-le}
use Rattle.std.proofs.lemmas.List.{get_or-take}
use Rattle.base.specs.Bits.{Has}
use Rattle.base.proofs.Places.{places_Gathered}
use Rattle.tables.proofs.order.Order.column.Goals as goal

pub returns : goal.returns
returns c =
    let self = c.args.self.now in
    let b = c.args.b in
    let set = c.places_where in
    let front = take self.labels self.rows in
    let long : length front ≡ self.labels = length-take-le self.labels self.rows (omega (arith, self.sized.1)) in
    let found = places_Gathered (λ (row : ℕ). Has row b) front 0 set.result set.ensures.within set.ensures.answered (λ p r k. search rules) in
    record {
      marks = λ a. (
        λ h. let p = (found a).0 h in rw (get_or-take self.labels self.rows a 0 (omega arith)) at p.1,
        λ m. let p = self.inside a b m in (found a).1 (omega arith, rw (get_or-take self.labels self.rows a 0 p.0) m),
      );
    }
