use Rattle.std.proofs.Common.{◌∙◌, ◌≤◌, ℕ, Result, length, subst, sym, arith}
use Rattle.std.proofs.lemmas.Result.{err_from_is_err_and}
use Rattle.engine.specs.declared.call.Answer.TheVariants.{Count}
use Rattle.engine.specs.declared.call.SheetFault.{SheetFault}
use Rattle.engine.specs.Law.{buffers, SearchLeaves}
use Rattle.engine.specs.Keeps.{answer}
use Rattle.engine.specs.Obeys.{Finds}
use Rattle.engine.proofs.Searching.{search_askable, found_by, found_leaves}
use Rattle.engine.proofs.sheet.Sheet.search.Goals as goal

pub returns-in_err-number-clause-found : goal.returns-in_err-number-clause-found
returns-in_err-number-clause-found g c = λ b keeps.
    let s = c.args.self.now in
    let k = g.K.LabelKind.meaning s.kind in
    let l = g.L.Logic.meaning s.logic in
    let same = c.as_slice.ensures.value ∙ c.records-records.ensures in
    let wide : l.bytes ≤ length c.args.area.now = omega (arith, c.work_bytes.ensures, c.if-area-work_bytes.false) in
    let ask = search_askable k l b s.axioms s.rows keeps c.as_slice.result.now same c.in_force-all.result c.in_force-all.ensures c.args.goal (length c.args.area.now) c.requires wide in
    let P : Result ℕ SheetFault → Type 0 = λ r. Finds k l b c.args.goal (length c.args.places.now) (length c.args.area.now) r in
    let p = err_from_is_err_and c.from_residual.result c.from_residual.ensures.1 in
    rw (p.1, p.2)
    (subst P (sym c.ok_or.ensures.value ∙ c.in_err-number.was)
    (found_by k l b s.axioms s.rows keeps c.as_slice.result.now same c.in_force-all.result c.in_force-all.ensures c.args.goal
    c.args.places.now c.args.area.now c.find_supports-found.result c.find_supports-found.new.places c.find_supports-found.new.area wide c.find_supports-found.auto.places (c.find_supports-found.ensures.found ask)))

pub returns-in_err-number-clause-leaves : goal.returns-in_err-number-clause-leaves
returns-in_err-number-clause-leaves g c = λ b keeps.
    let s = c.args.self.now in
    let k = g.K.LabelKind.meaning s.kind in
    let l = g.L.Logic.meaning s.logic in
    let same = c.as_slice.ensures.value ∙ c.records-records.ensures in
    let wide : l.bytes ≤ length c.args.area.now = omega (arith, c.work_bytes.ensures, c.if-area-work_bytes.false) in
    let ask = search_askable k l b s.axioms s.rows keeps c.as_slice.result.now same c.in_force-all.result c.in_force-all.ensures c.args.goal (length c.args.area.now) c.requires wide in
    let P : Result ℕ SheetFault → Type 0 = λ r. SearchLeaves k l b c.args.goal (answer Count r) (buffers c.args.places.now c.args.area.now) (buffers c.find_supports-found.new.places c.find_supports-found.new.area) in
    let p = err_from_is_err_and c.from_residual.result c.from_residual.ensures.1 in
    rw (p.1, p.2)
    (subst P (sym c.ok_or.ensures.value ∙ c.in_err-number.was)
    (found_leaves k l b s.axioms s.rows keeps c.as_slice.result.now same c.in_force-all.result c.in_force-all.ensures c.args.goal
    c.args.places.now c.args.area.now c.find_supports-found.result c.find_supports-found.new.places c.find_supports-found.new.area (c.find_supports-found.ensures.found ask)))

pub returns-clause-found : goal.returns-clause-found
returns-clause-found g c = λ b keeps.
    let s = c.args.self.now in
    let k = g.K.LabelKind.meaning s.kind in
    let l = g.L.Logic.meaning s.logic in
    let same = c.as_slice.ensures.value ∙ c.records-records.ensures in
    let wide : l.bytes ≤ length c.args.area.now = omega (arith, c.work_bytes.ensures, c.if-area-work_bytes.false) in
    let ask = search_askable k l b s.axioms s.rows keeps c.as_slice.result.now same c.in_force-all.result c.in_force-all.ensures c.args.goal (length c.args.area.now) c.requires wide in
    let P : Result ℕ SheetFault → Type 0 = λ r. Finds k l b c.args.goal (length c.args.places.now) (length c.args.area.now) r in
    subst P (sym c.ok_or.ensures.value ∙ c.in_ok-number.was)
    (found_by k l b s.axioms s.rows keeps c.as_slice.result.now same c.in_force-all.result c.in_force-all.ensures c.args.goal
    c.args.places.now c.args.area.now c.find_supports-found.result c.find_supports-found.new.places c.find_supports-found.new.area wide c.find_supports-found.auto.places (c.find_supports-found.ensures.found ask))

pub returns-clause-leaves : goal.returns-clause-leaves
returns-clause-leaves g c = λ b keeps.
    let s = c.args.self.now in
    let k = g.K.LabelKind.meaning s.kind in
    let l = g.L.Logic.meaning s.logic in
    let same = c.as_slice.ensures.value ∙ c.records-records.ensures in
    let wide : l.bytes ≤ length c.args.area.now = omega (arith, c.work_bytes.ensures, c.if-area-work_bytes.false) in
    let ask = search_askable k l b s.axioms s.rows keeps c.as_slice.result.now same c.in_force-all.result c.in_force-all.ensures c.args.goal (length c.args.area.now) c.requires wide in
    let P : Result ℕ SheetFault → Type 0 = λ r. SearchLeaves k l b c.args.goal (answer Count r) (buffers c.args.places.now c.args.area.now) (buffers c.find_supports-found.new.places c.find_supports-found.new.area) in
    subst P (sym c.ok_or.ensures.value ∙ c.in_ok-number.was)
    (found_leaves k l b s.axioms s.rows keeps c.as_slice.result.now same c.in_force-all.result c.in_force-all.ensures c.args.goal
    c.args.places.now c.args.area.now c.find_supports-found.result c.find_supports-found.new.places c.find_supports-found.new.area (c.find_supports-found.ensures.found ask))
