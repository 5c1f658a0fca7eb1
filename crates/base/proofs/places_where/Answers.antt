use Rattle.std.proofs.Common.{◌≡◌, ℕ, ◌+◌, Bool, sym, subst, arith}
use Rattle.std.proofs.lemmas.Nat.{one_shl}
use Rattle.std.specs.Fn.{FnReturnsAt}
use Rattle.std.specs.List.{HoldsAt}
use Rattle.base.proofs.Places.{AnsweredBelow, answered_at, answered_yes, answered_no}
use Rattle.base.proofs.places_where.Goals as goal
use Rattle.base.proofs.places_where.Goals.{then-test, else-test}

pub loop-place-preserved : goal.loop-place-preserved
loop-place-preserved g c =
    let R : g.row.T.Denot → Bool → Type 0 = FnReturnsAt g.F.Fn c.args.test in
    let things = c.args.things.now in
    let i = c.loop-place.place in
    let Q : ℕ → Type 0 = λ s. AnsweredBelow R things (i + 1) s in
    let says : (r : Bool) → c.test.result ≡ r → HoldsAt (λ x. R x r) things i =
    λ r. answered_at g.F.Fn c.args.test things i _ c.test.result r c.index-things-place.is c.loop-place-test.true c.test.ensures in
    elim c.if-test.branch [
      | then-test w ↦ subst Q (sym w.places-is) (answered_yes R things i _ c.loop-place.invariant _ (one_shl i 64 (omega (arith, c.requires.few))) (says _ w.if-test.true))
      | else-test w ↦ subst Q (sym w.places-is) (answered_no R things i _ c.loop-place.invariant (says _ w.if-test.false))
    ]
