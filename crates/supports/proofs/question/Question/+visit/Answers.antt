use Rattle.std.proofs.Common.{◌≡◌, ℕ, ◌⊎◌, refl, ◌∙◌, arith, rules}
use Rattle.std.proofs.lemmas.Option.{MatchOption-at_some, MatchOption-at_none}
use Rattle.base.specs.Bits.{Has}
use Rattle.base.specs.Words.{Iff}
use Rattle.base.proofs.Sets.{has_and, has_with}
use Rattle.supports.specs.Asked.{asked}
use Rattle.supports.specs.Search.{Branches}
use Rattle.supports.proofs.Hitting.{branch_earlier, earlier_grows, done_branches}
use Rattle.supports.proofs.Growing.{grown_none, grown_trans}
use Rattle.supports.proofs.Branching.{allowed_none, allowed_more, allowed_same, allowed_less, branches_none, branches_more, branches_skip}
use Rattle.supports.proofs.question.Question.+visit.Goals as goal
use Rattle.supports.proofs.question.Question.+visit.Goals.{then-contains+in_ok-known, else-contains}

pub returns-in_default-clause-visited : goal.returns-in_default-clause-visited
returns-in_default-clause-visited g t c =
    let q = asked g.L.Logic.meaning c.args.self.now in
    let (same, done) = MatchOption-at_none _ _ c.in_default.is c.in_ok-support.ensures.next in
    rw same (c.requires.known.few, grown_none q c.requires.known.supports, done)

pub loop-x-init : goal.loop-x-init
loop-x-init g t c =
    let q = asked g.L.Logic.meaning c.args.self.now in
    let split = MatchOption-at_some _ _ _ c.in-Some.is c.in_ok-support.ensures.next in
    record {
      area = refl;
      few = omega (arith, split.few);
      grown = grown_none q split.grown.supports;
      branches = branches_none q _ c.args.out c.args.may c.in-Some.support;
      allowed = allowed_none c.args.may c.in-Some.support (search rules) (search rules);
    }

pub visit-requires : goal.visit-requires
visit-requires g t c κs within =
    let q = asked g.L.Logic.meaning c.args.self.now in
    let out = c.args.out in
    let may = c.args.may in
    let support = c.in-Some.support in
    let x = c.loop-x.x in
    let split = MatchOption-at_some _ _ _ c.in-Some.is c.in_ok-support.ensures.next in
    let inv = c.loop-x.invariant in
    let both = (has_and may support x).0 (c.if-contains.ensures.0 tt) in
    let earlier = earlier_grows q _ _ (λ s h. inv.grown.keeps s (split.grown.keeps s h)) out may c.requires.earlier in (
      omega (arith, allowed_less may support c.loop-x.allowed x both.0 both.1 inv.allowed),
      (
        within,
        (
          rw (inv.area ∙ c.foresee.ensures.area) c.requires.ready,
          (
            record { few = inv.few; supports = inv.grown.supports },
            branch_earlier q _ out may support x c.with_place.result c.loop-x.allowed (inv.grown.keeps support split.known) split.apart both.0 both.1
                (λ k. rw (c.with_place.ensures.within (omega arith)) (has_with out x k)) inv.allowed earlier inv.branches,
          ),
        ),
      ),
    )

pub loop-x-preserved : goal.loop-x-preserved
loop-x-preserved g t c =
    let q = asked g.L.Logic.meaning c.args.self.now in
    let out = c.args.out in
    let may = c.args.may in
    let support = c.in-Some.support in
    let x = c.loop-x.x in
    let inv = c.loop-x.invariant in
    elim c.if-contains.branch [
      | then-contains+in_ok-known w ↦
          let both = (has_and may support x).0 (w.if-contains.ensures.0 tt) in
          let (few, grown, done) = w.in_ok-known.ensures.visited in
          let next : (k : ℕ) → Iff (Has w.with_place.result k) (Has out k ⊎ (k ≡ x)) =
          λ k. rw (w.with_place.ensures.within (omega arith)) (has_with out x k) in
          rw (w.area-is, w.known-is, w.places-is, w.allowed-is)
          (record {
            area = w.visit.ensures.area ∙ inv.area;
            few = omega (arith, few);
            grown = grown_trans q inv.grown grown;
            branches = branches_more q _ _ out may support x w.with_place.result c.loop-x.allowed grown next inv.allowed done inv.branches;
            allowed = rw (w.with_place-allowed.ensures.within (omega arith)) (allowed_more may support c.loop-x.allowed x both.0 both.1 inv.allowed);
          })
      | else-contains w ↦
          let none = λ (p : Has may x × Has support x). w.if-contains.ensures.1 ((has_and may support x).1 p) in
          rw (w.area-is, w.known-is, w.places-is, w.allowed-is)
          (record {
            area = inv.area;
            few = inv.few;
            grown = inv.grown;
            branches = branches_skip q _ out may support x none inv.branches;
            allowed = allowed_same may support c.loop-x.allowed x none inv.allowed;
          })
    ]

pub returns-clause-visited : goal.returns-clause-visited
returns-clause-visited g t c =
    let q = asked g.L.Logic.meaning c.args.self.now in
    let split = MatchOption-at_some _ _ _ c.in-Some.is c.in_ok-support.ensures.next in
    let inv = c.loop-x.invariant in
    let end : c.loop-x.x ≡ 64 = omega arith in
    let branches : Branches q _ c.args.out c.args.may c.in-Some.support 64 = rw end at inv.branches in (
      omega (arith, inv.few),
      grown_trans q split.grown inv.grown,
      done_branches q _ c.args.out c.args.may c.in-Some.support (search rules) (inv.grown.keeps c.in-Some.support split.known) split.apart branches,
    )
