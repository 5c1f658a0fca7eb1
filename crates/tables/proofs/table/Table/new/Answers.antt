use Rattle.std.proofs.Common.{◌≡◌, ℕ, length, get_or, take, sym, ◌∙◌, subst, inl, inr, arith, take_all, below_more, MatchResult}
use Rattle.std.proofs.lemmas.List.{take_more}
use Rattle.std.proofs.lemmas.Result.{err_from_is_err_and, MatchResult-weaker}
use Rattle.labels.specs.Order.{Means}
use Rattle.labels.specs.declared.fault.KindFault.TheVariants.{NoMeetOrJoin}
use Rattle.tables.specs.Table.{table, more, PairTaken, PairRefused, TakenUpTo, Lacking}
use Rattle.tables.specs.Rows.{Keeps, matrix}
use Rattle.tables.proofs.table.Table.new.Goals as goal

pub returns-in_err-add : goal.returns-in_err-add
returns-in_err-add c =
    let pairs = c.args.pairs.now in
    let i = c.loop-low.low-index in
    let inv = c.loop-low.invariant in
    let refused = c.in_err-add.ensures.pairs (take i pairs) (rw inv.labels inv.keeps) in
    let P : ℕ → Type 0 = λ n. PairRefused n (take i pairs) (get_or pairs i (0, 0)) c.in_err-add.field-0.0 in
    let p = err_from_is_err_and c.from_residual-in_err-add.result c.from_residual-in_err-add.ensures.1 in
    rw (p.1, p.2) (inr (c.in_ok-builder.ensures.0, inl (i, c.loop-low-test.true, inv.taken, subst P inv.labels refused.0)))

pub loop-low-preserved : goal.loop-low-preserved
loop-low-preserved c =
    let pairs = c.args.pairs.now in
    let i = c.loop-low.low-index in
    let inv = c.loop-low.invariant in
    let rows = c.add.new.self.order.rows in
    let added = c.in_ok-add.ensures.pairs (take i pairs) (rw inv.labels inv.keeps) in
    let P : ℕ → Type 0 = λ n. PairTaken n (take i pairs) (get_or pairs i (0, 0)) in
    let Q : ℕ → Type 0 = λ n. Keeps n rows (more (take i pairs) (get_or pairs i (0, 0))) in
    record {
      labels = c.in_ok-add.ensures.labels ∙ inv.labels;
      taken = below_more (λ k. PairTaken c.args.labels (take k pairs) (get_or pairs k (0, 0))) i inv.taken (subst P inv.labels added.0);
      keeps = subst (Keeps c.args.labels rows) (sym (take_more pairs i (0, 0) c.loop-low-test.true)) (subst Q inv.labels added.1);
    }

pub returns : goal.returns
returns c =
    let pairs = c.args.pairs.now in
    let labels = c.args.labels in
    let size = c.in_ok-builder.ensures.0 in
    let order = c.loop-low.builder.order in
    let inv = c.loop-low.invariant in
    let last : c.loop-low.low-index ≡ length pairs = omega arith in
    let all : TakenUpTo labels pairs (length pairs) = rw last at inv.taken in
    let kept : Keeps order.labels order.rows pairs = rw inv.labels (subst (Keeps labels order.rows) (take_all _ _ c.loop-low-test.false) inv.keeps) in
    let Given : ℕ → Type 0 = λ n.
    MatchResult c.finish.result (λ t. (Lacking (table n pairs) → ⊥) × Means (matrix t.order.labels t.order.rows) (table n pairs))
    (λ f. (f ≡ NoMeetOrJoin) × Lacking (table n pairs)) in
    let given : Given labels = subst Given inv.labels (c.finish.ensures pairs kept) in
    MatchResult-weaker c.finish.result given
    (λ t x. (record { sized = size; taken = all; whole = x.0 }, x.1))
    (λ f x. inr (size, inr (all, x.1, x.0)))
