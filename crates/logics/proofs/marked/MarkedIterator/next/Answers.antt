use Rattle.std.proofs.Common.{◌≡◌, [], sym, ◌∙◌, rules, arith}
use lib.Count.{count_trailing_zeros}
use Rattle.logics.proofs.Selections.{bit}
use Rattle.logics.specs.Entailment.{marked}
use Rattle.logics.specs.Marked.{First, first_marked, none_marked}
use Rattle.logics.proofs.marked.MarkedIterator.next.Goals as goal
use Rattle.logics.proofs.marked.MarkedIterator.next.Goals.{Else-self-eq0}

first : (c : Else-self-eq0) → First c.self.inside.records.now c.self.inside.marks (record { form = 0; a = 0; b = 0; c = 0 }) (count_trailing_zeros 64 c.self.inside.marks)
first c = first_marked _ _ 64 _ (omega (arith, c.if-self-eq0.false)) c.self.invariant.1 c.self.invariant.0

pub returns-then-self-eq0-clause-steps : goal.returns-then-self-eq0-clause-steps
returns-then-self-eq0-clause-steps c =
    let rs = c.self.inside.records.now in
    let none : marked rs c.self.inside.marks ≡ [] = rw c.if-self-eq0.true (none_marked rs) in
    let is = sym c.self.view_is ∙ none in
    (is, is)

pub overflow_sub-self : goal.overflow_sub-self
overflow_sub-self c =
    let f = first (goal.at.overflow_sub-self c).Else-self-eq0 in
    omega (arith, f.low, bit (count_trailing_zeros 64 c.self.inside.marks) (omega (arith, f.within, c.self.invariant)))

pub bounds-self-inside-place : goal.bounds-self-inside-place
bounds-self-inside-place c = (first (goal.at.bounds-self-inside-place c).Else-self-eq0).within

pub returns-clause-steps : goal.returns-clause-steps
returns-clause-steps c =
    let f = first (goal.at.returns-clause-steps c).Else-self-eq0 in
    let b = bit (count_trailing_zeros 64 c.self.inside.marks) (omega (arith, f.within, c.self.invariant)) in
    sym c.self.view_is ∙ rw b f.split

pub returns-clause-goes : goal.returns-clause-goes
returns-clause-goes c =
    let is = returns-clause-steps c in
    search rules
