use Rattle.std.proofs.Common.{◌<◌, ◌≡◌, rules}
use Rattle.logics.proofs.Canonical.{lies_drawn, both_drawn, partner_drawn}
use Rattle.logics.specs.Entailed.{entails_self, entails_everything, entails_lies, entails_both}
use Rattle.logics.specs.Ticks.{tick_then, tick_weaker}
use Rattle.logics.proofs.el.El.settle.Goals as goal
use Rattle.logics.proofs.el.El.settle.Goals.{In-Ok-Lies, In-Ok-Both, In-Ok-Partner}

-- an axiom of each form, and its numbers
lies : (c : In-Ok-Lies) → let r = c.args.axiom in (r.form ≡ 1) × (r.a < c.args.self.now.concepts) × (r.b < c.args.self.now.concepts) × (r.c ≡ 0)
lies c =
    let form : c.args.axiom.form ≡ 1 = search rules in
    let r = (c.requires.ready.taken c.args.axiom c.requires.given).lies form in
    (form, r.0, r.1, r.2)

both : (c : In-Ok-Both) → let r = c.args.axiom in (r.form ≡ 2) × (r.a < c.args.self.now.concepts) × (r.b < c.args.self.now.concepts) × (r.c < c.args.self.now.concepts)
both c =
    let form : c.args.axiom.form ≡ 2 = search rules in
    let r = (c.requires.ready.taken c.args.axiom c.requires.given).both form in
    (form, r.0, r.1, r.2)

partner : (c : In-Ok-Partner) → let r = c.args.axiom in (r.form ≡ 3) × (r.a < c.args.self.now.concepts) × (r.b < c.args.self.now.roles) × (r.c < c.args.self.now.concepts)
partner c =
    let form : c.args.axiom.form ≡ 3 = search rules in
    let r = (c.requires.ready.taken c.args.axiom c.requires.given).partner form in
    (form, r.0, r.1, r.2)

pub derive-requires : goal.derive-requires
derive-requires c = let r = lies (goal.at.derive-requires c).In-Ok-Lies in search rules

pub derive-requires-in-Ok-Both : goal.derive-requires-in-Ok-Both
derive-requires-in-Ok-Both c = let r = both (goal.at.derive-requires-in-Ok-Both c).In-Ok-Both in search rules

pub derive-top-requires : goal.derive-top-requires
derive-top-requires c = let r = partner (goal.at.derive-top-requires c).In-Ok-Partner in search rules

pub derive-own-requires : goal.derive-own-requires
derive-own-requires c = let r = partner (goal.at.derive-own-requires c).In-Ok-Partner in search rules

pub unreachable-requires : goal.unreachable-requires
unreachable-requires c =
    let known = (c.requires.ready.taken c.args.axiom c.requires.given).known in
    search rules

pub returns-in-Ok-Lies : goal.returns-in-Ok-Lies
returns-in-Ok-Lies c =
    let rs = c.args.axioms.now.all in
    let form = (lies (goal.at.returns-in-Ok-Lies c).In-Ok-Lies).0 in
    tick_weaker (λ cells. lies_drawn _ cells rs c.args.x c.args.axiom form) (c.derive.ensures _ (λ e _. entails_lies _ c.args.axiom c.args.x c.requires.given form e))

pub returns-in-Ok-Both : goal.returns-in-Ok-Both
returns-in-Ok-Both c =
    let rs = c.args.axioms.now.all in
    let form = (both (goal.at.returns-in-Ok-Both c).In-Ok-Both).0 in
    tick_weaker (λ cells. both_drawn _ cells rs c.args.x c.args.axiom form) (c.derive-in-Ok-Both.ensures _ (entails_both _ c.args.axiom c.args.x c.requires.given form))

pub returns-in-Ok-Partner : goal.returns-in-Ok-Partner
returns-in-Ok-Partner c =
    let r = c.args.axiom in
    let (form, _, _, within) = partner (goal.at.returns-in-Ok-Partner c).In-Ok-Partner in
    tick_then _ _ (c.derive-top.ensures _ (λ _ _. entails_everything _ r.c)) (c.derive-own.ensures _ (λ _ _. entails_self _ r.c)) (λ cells. partner_drawn _ cells _ c.args.x r form c.requires.given within)
