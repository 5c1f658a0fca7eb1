use Rattle.std.proofs.Common.{ℕ, ◌+◌, [], ◌∷◌, ◌++◌, sym, ap, subst, inl}
use Rattle.labels.specs.declared.fault.KindFault.{KindFault}
use Rattle.tables.specs.Rows.{Keeps as KeepsPairs}
use Rattle.report.specs.declared.fault.Cause.TheVariants.{Kind}
use Rattle.report.specs.Meaning.{pairs}
use Rattle.report.specs.Checks.{PairNext, Refuses}
use Rattle.report.specs.Stands.{TableRead}
use Rattle.report.proofs.Stepping.{first_by}
use Rattle.report.proofs.Files.{passed_on, refused_check}
use Rattle.report.proofs.Openings.{stops_early}
use Rattle.report.proofs.Tabling.{pair_form, table_begun, stands_on, pair_refused, table_more, table_lacks, table_read}
use Rattle.report.proofs.file.read_table.Goals as goal

pub returns-in_err-builder : goal.returns-in_err-builder
returns-in_err-builder c = λ p w file stands is.
    let (same, bad) = c.in_err-builder.ensures in
    rw (passed_on c.from_residual.ensures.1) (refused_check stands c.requires (first_by p w [] c.args.first.line _ is _ (inl (bad, ap (λ (f : KindFault). Kind f) (sym same)))))

pub loop-reader-init : goal.loop-reader-init
loop-reader-init c = (
  c.requires,
  λ p w file stands is.
      let (sized, (labels, keeps)) = c.in_ok-builder.ensures in
      let b = c.in_ok-builder.builder in
      ([], table_begun stands is (sym labels) sized (subst (λ (n : ℕ). KeepsPairs n b.order.rows []) (sym labels) keeps)),
)

pub loop-reader-preserved : goal.loop-reader-preserved
loop-reader-preserved c = (
  c.in_ok-found.ensures,
  λ p w file stands is.
      let (gets, inv) = c.loop-reader.invariant in
      let (before, read) = inv p w file stands is in
      let x = c.loop-reader.found in
      let y = c.in_ok-found.found in
      let next = c.loop-reader-test.ensures.0 tt in
      let form = pair_form _ y.line _ (subst PairNext (sym c.advance.ensures.rest) next) c.in_ok-found.ensures.next.split in
      let (taken, keeps) = c.in_ok-add.ensures.pairs (pairs read.others) read.keeps in (
        before ++ (x.line ∷ []),
        subst (λ (n : ℕ). TableRead p w file c.advance.new.self y.line n c.add.new.self.order.rows (before ++ (x.line ∷ []))) (sym c.in_ok-add.ensures.labels) (table_more gets read y.line form taken keeps (stands_on gets read next c.advance.ensures)),
      ),
)

pub returns-in_err-found : goal.returns-in_err-found
returns-in_err-found c = λ p w file stands is.
    let (gets, inv) = c.loop-reader.invariant in
    let (before, read) = inv p w file stands is in
    rw (passed_on c.from_residual-in_err-found.ensures.1) (stops_early (stands_on gets read (c.loop-reader-test.ensures.0 tt) c.advance.ensures) read.none c.in_err-found.ensures)

pub returns-in_err-add : goal.returns-in_err-add
returns-in_err-add c = λ p w file stands is.
    let (gets, inv) = c.loop-reader.invariant in
    let (before, read) = inv p w file stands is in
    let y = c.in_ok-found.found in
    let next = c.loop-reader-test.ensures.0 tt in
    let form = pair_form _ y.line _ (subst PairNext (sym c.advance.ensures.rest) next) c.in_ok-found.ensures.next.split in
    let (bad, _) = c.in_err-add.ensures.pairs (pairs read.others) read.keeps in
    rw (passed_on c.from_residual-in_err-add.ensures.1) (refused_check (stands_on gets read next c.advance.ensures) c.in_ok-found.ensures (pair_refused gets read y.line form c.in_err-add.field-0.0 bad _))

pub returns-in_err-table : goal.returns-in_err-table
returns-in_err-table c = λ p w file stands is.
    let (gets, inv) = c.loop-reader.invariant in
    let (before, read) = inv p w file stands is in
    let (same, lacking) = c.in_err-table.ensures (pairs read.others) read.keeps in
    rw (passed_on c.from_residual-in_err-table.ensures.1)
    (subst (λ (f : KindFault). Refuses p w file (c.loop-reader.reader.lines + 1) (Kind f)) (sym same) (table_lacks gets read c.loop-reader-test.ensures.1 lacking))

pub returns : goal.returns
returns c = λ p w file stands is.
    let (gets, inv) = c.loop-reader.invariant in
    let (before, read) = inv p w file stands is in
    let (full, means) = c.in_ok-table.ensures (pairs read.others) read.keeps in
    (before ++ (c.loop-reader.found.line ∷ []), table_read gets read c.loop-reader-test.ensures.1 full means.same c.advance-2.ensures)
