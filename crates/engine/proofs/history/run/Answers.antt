use Rattle.std.proofs.Common.{◌≡◌, ℕ, ◌+◌, ◌<◌, min, List, Result, map, length, take, take_all, ap, ◌∙◌, subst, arith, drop-set-lt, length-take}
use Rattle.engine.specs.declared.call.Call.{Call}
use Rattle.engine.specs.declared.call.Answer.{Answer}
use Rattle.engine.specs.declared.call.SheetFault.{SheetFault}
use Rattle.engine.specs.Book.{blank}
use Rattle.engine.specs.Law.{Run, buffers, given}
use Rattle.engine.proofs.Histories.{run_of, run_step, makes_given, take_fewer, drop_later}
use Rattle.engine.proofs.Unique.{determined}
use Rattle.engine.proofs.history.run.Goals as goal

pub loop-i-preserved : goal.loop-i-preserved
loop-i-preserved g c =
    let (so_far, kind, logic, rest) = c.loop-i.invariant in
    let (m, history, keeps) = so_far in
    let s = c.loop-i.sheet in
    let t = c.make.new.sheet in
    let i = c.loop-i.i in
    let calls = c.args.calls.now in
    let answers = c.loop-i.auto.answers in
    let count : c.min-count.result ≡ min (length calls) (length c.args.answers.now) = c.min-count.ensures in
    let few : i < c.min-count.result = omega (arith, c.loop-i-test.true, length-take c.min-count.result calls) in (
      run_step g.K.LabelKind.meaning g.L.Logic.meaning c.open-sheet.result.kind c.open-sheet.result.logic blank _ (length c.args.places.now) (length c.args.area.now) (take c.min-count.result calls) c.loop-i.answers i c.loop-i-test.true (omega arith)
          (buffers c.loop-i.places c.loop-i.area) m history s kind logic keeps _ c.make.result t (buffers c.make.new.places c.make.new.area)
          (makes_given g.K.LabelKind.meaning g.L.Logic.meaning s t _ _ _ _ c.loop-i.auto.places c.loop-i.auto.area _ c.make.result _ _ c.make.ensures),
      c.make.ensures.obeys.kind ∙ kind,
      c.make.ensures.obeys.logic ∙ logic,
      drop-set-lt (i + 1) c.loop-i.answers i c.make.result (omega arith) ∙ drop_later c.loop-i.answers c.args.answers.now i (i + 1) (omega arith) rest,
    )

pub returns-clause-lawful : goal.returns-clause-lawful
returns-clause-lawful g c =
    let (so_far, kind, logic, rest) = c.loop-i.invariant in
    let (m, history, keeps) = so_far in
    let calls = c.args.calls.now in
    let done = c.loop-i.answers in
    let long = c.loop-i.auto.answers in
    let count : c.min-count.result ≡ min (length calls) (length c.args.answers.now) = c.min-count.ensures in
    let all : c.loop-i.i ≡ c.min-count.result = omega (arith, c.loop-i-test.false, c.loop-i.auto.i-end, length-take c.min-count.result calls) in
    let turned : c.loop-i.i ≡ min (length done) (length calls) = omega arith in
    let asked : take c.loop-i.i (take c.min-count.result calls) ≡ take (length c.args.answers.now) calls =
    take_all c.loop-i.i (take c.min-count.result calls) c.loop-i-test.false ∙ ap (λ (n : ℕ). take n calls) count ∙ take_fewer calls c.args.answers.now in
    let told : take c.loop-i.i done ≡ take (length calls) done = ap (λ (n : ℕ). take n done) turned ∙ take_fewer done calls in
    let d = buffers c.args.places.now c.args.area.now in
    let e = buffers c.loop-i.places c.loop-i.area in
    let f : Call → Call = given (length c.args.places.now) (length c.args.area.now) in
    let s = c.open-sheet.result in
    let run = run_of _ _ blank d (map f (take c.loop-i.i (take c.min-count.result calls))) (take c.loop-i.i done) e m history in
    subst (λ kind. Run (g.K.LabelKind.meaning kind) (g.L.Logic.meaning c.args.logic) blank d (map f (take (length c.args.answers.now) calls)) (take (length calls) done) e) c.open-sheet.ensures.kind
    (subst (λ logic. Run (g.K.LabelKind.meaning s.kind) (g.L.Logic.meaning logic) blank d (map f (take (length c.args.answers.now) calls)) (take (length calls) done) e) c.open-sheet.ensures.logic
    (subst (λ (xs : List (Result Answer SheetFault)). Run (g.K.LabelKind.meaning s.kind) (g.L.Logic.meaning s.logic) blank d (map f (take (length c.args.answers.now) calls)) xs e) told
    (subst (λ (cs : List Call). Run (g.K.LabelKind.meaning s.kind) (g.L.Logic.meaning s.logic) blank d (map f cs) (take c.loop-i.i done) e) asked run)))

pub returns-clause-unique : goal.returns-clause-unique
returns-clause-unique g c = determined (g.K.LabelKind.meaning c.args.kind) (g.met.K.LabelKind.lawful c.args.kind) (g.L.Logic.meaning c.args.logic)
