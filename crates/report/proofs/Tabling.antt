-- A table, pair by pair.
use Rattle.std.proofs.Common.{◌≡◌, ℕ, ◌+◌, ◌<◌, cond, eqb, List, [], ◌∷◌, ◌++◌, map, length, get_or, take, drop, decimal, Option, sym, refl, ap, ◌∙◌, subst, ap₂, inl, inr, append_assoc, arith}
use mathlib.Core.List.{map-append}
use Rattle.base.specs.Commas.{tails}
use Rattle.base.specs.Checks.{FirstOf, NoneOf}
use Rattle.labels.specs.Order.{LabelOrder, Same}
use Rattle.labels.specs.declared.fault.KindFault.{KindFault}
use Rattle.labels.specs.declared.fault.KindFault.TheVariants.{NoMeetOrJoin}
use Rattle.tables.specs.Table.{table, TableSize, OfLabels, Looped, Lacking, more, PairTaken, PairRefused}
use Rattle.tables.specs.Rows.{Keeps as KeepsPairs}
use Rattle.lines.specs.declared.form.Form.{Form}
use Rattle.lines.specs.declared.form.Form.TheVariants.{Kind as KindLine, Pair, Logic, Axiom, User, Goal}
use Rattle.lines.specs.declared.form.KindForm.{KindForm}
use Rattle.lines.specs.declared.form.KindForm.TheVariants.{Table as TableForm}
use Rattle.lines.specs.declared.form.Line.{Line}
use Rattle.lines.specs.declared.read.Found.{Found}
use Rattle.lines.specs.Forms.{opening, arity, section, OfTable, May}
use Rattle.lines.specs.Lines.{numbers_of, body, text, Whole, lines_of}
use Rattle.lines.proofs.Openings.{pair_opening}
use Rattle.report.specs.declared.any.AnyKind.{AnyKind}
use Rattle.report.specs.declared.fault.Cause.TheVariants.{Kind}
use Rattle.report.specs.declared.reader.Reader.{Reader}
use Rattle.report.specs.Any.{any_kind}
use Rattle.report.specs.Meaning.{at, two, pairs, kind_by, kind_of}
use Rattle.report.specs.Checks.{PairNext, table_size, line_checks, Refuses}
use Rattle.report.specs.Stands.{Gets, Stands, Advanced, LogicNext, KindRead, TableRead}
use Rattle.report.proofs.Standing.{lines_of_append, lines_of_other, lines_of_same, stands_more}
use Rattle.report.proofs.Stepping.{first_by, none_by}
use Rattle.report.proofs.Files.{refused_check}
use Rattle.report.proofs.Openings.{quiet_none, quiet_more}

pair_first : (bs : List ℕ) → PairNext bs → get_or bs 0 0 ≡ 79
pair_first [] h = absurd h
pair_first (b ∷ []) h = h
pair_first (b ∷ c ∷ cs) h = h.0

-- where the first field is O, the line is a pair's
pub pair_form : (bs : List ℕ) (x : Line) (behind : List ℕ) → PairNext bs → bs ≡ text x ++ behind → x.form ≡ Pair
pair_form bs x behind next e =
    let apart : text x ++ behind ≡ opening x.form ++ (tails (map decimal (numbers_of x)) ++ ((10 ∷ []) ++ behind)) =
    append_assoc (body x) (10 ∷ []) behind ∙ append_assoc (opening x.form) (tails (map decimal (numbers_of x))) ((10 ∷ []) ++ behind) in
    pair_opening x.form _ (sym (ap (λ (l : List ℕ). get_or l 0 0) (e ∙ apart)) ∙ pair_first bs next)

-- and a pair's line begins with that field
pair_begins : (ns rest : List ℕ) → 0 < length ns → PairNext ((opening Pair ++ tails (map decimal (take 2 ns))) ++ rest)
pair_begins [] rest some = absurd (omega arith)
pair_begins (n ∷ ns) rest some = (refl, inl refl)

pub pair_text : (x : Line) (behind : List ℕ) → Whole x → x.form ≡ Pair → PairNext (text x ++ behind)
pair_text x behind whole is =
    subst (λ (f : Form). PairNext (((opening f ++ tails (map decimal (take (arity f) x.numbers))) ++ (10 ∷ [])) ++ behind)) (sym is)
    (subst PairNext (sym (append_assoc (opening Pair ++ tails (map decimal (take 2 x.numbers))) (10 ∷ []) behind)) (pair_begins x.numbers ((10 ∷ []) ++ behind) (omega (arith, whole.four))))

pair_section : (f : Form) → section f ≡ 1 → f ≡ Pair
pair_section Pair e = refl
pair_section (KindLine k) e = absurd (omega arith)
pair_section (Logic l) e = absurd (omega arith)
pair_section (Axiom a) e = absurd (omega arith)
pair_section User e = absurd (omega arith)
pair_section Goal e = absurd (omega arith)

table_section : (f : Form) → OfTable f → section f < 2
table_section f (inl e) = omega (arith, ap section e)
table_section f (inr e) = omega (arith, ap section e)

-- the order of a table's lines
table_kind : (ls : List Line) (first : Line) (others : List Line) (n : ℕ) → ls ≡ first ∷ others → first.form ≡ KindLine TableForm → at first 0 ≡ n → kind_of ls ≡ table n (pairs others)
table_kind ls first others n all form size = ap kind_of all ∙ ap₂ (λ (f : Form) (m : ℕ). kind_by f m (pairs others)) form size

-- the pairs with one more
pairs_more : (ls : List Line) (x : Line) → x.form ≡ Pair → pairs (ls ++ (x ∷ [])) ≡ more (pairs ls) (two x)
pairs_more ls x is =
    let one : lines_of 1 (x ∷ []) ≡ x ∷ [] = ap (λ (f : Form). cond (eqb (section f) 1) (x ∷ []) []) is in
    ap (map two) (lines_of_append 1 ls (x ∷ []) ∙ ap (λ (ms : List Line). lines_of 1 ls ++ ms) one) ∙ map-append two (lines_of 1 ls) (x ∷ [])

-- the K line of a table
pub table_begun : {p w : ℕ} {file : List ℕ} {reader : Reader} → Stands p w file reader [] → {x : Line} → x.form ≡ KindLine TableForm → {labels : ℕ} → at x 0 ≡ labels → TableSize (at x 0) → {rows : List ℕ} → KeepsPairs labels rows []
    → TableRead p w file reader x labels rows []
table_begun {p} {w} stands {x} is size sized keeps =
    record {
      stands = stands;
      first = x;
      others = [];
      all = refl;
      form = is;
      size = size;
      keeps = keeps;
      pair = inl is;
      passes = λ behind ok. none_by p w [] x behind is ((λ no. no sized), (ok, tt));
      fails = λ behind bad. first_by p w [] x behind is _ (inr ((λ no. no sized), inl (bad, refl)));
      none = lines_of_other 2 x (λ two. omega (arith, ap section is));
      quiet = quiet_more quiet_none x is refl (λ e. omega arith) refl;
    }

module _ {p w : ℕ} {file : List ℕ} {reader : Reader} {x : Found} (gets : Gets reader x) {labels : ℕ} {rows : List ℕ} {before : List Line} (read : TableRead p w file reader x.line labels rows before) where
  behind : List ℕ
  behind = drop x.length reader.rest.now

  order : kind_of (before ++ (x.line ∷ [])) ≡ table labels (pairs read.others)
  order = table_kind (before ++ (x.line ∷ [])) read.first read.others labels read.all read.form read.size

  -- the line is good where another pair comes behind it
  pub stands_on : PairNext (drop x.length reader.rest.now) → {reader' : Reader} → Advanced reader x reader' → Stands p w file reader' (before ++ (x.line ∷ []))
  stands_on next moved = stands_more read.stands gets (read.passes (drop x.length reader.rest.now) (λ (last, _). last next)) moved

  module _ (y : Line) (is : y.form ≡ Pair) where
    grown : kind_of ((before ++ (x.line ∷ [])) ++ (y ∷ [])) ≡ table labels (more (pairs read.others) (two y))
    grown =
        table_kind ((before ++ (x.line ∷ [])) ++ (y ∷ [])) read.first (read.others ++ (y ∷ [])) labels (ap (λ (ls : List Line). ls ++ (y ∷ [])) read.all) read.form read.size
        ∙ ap (table labels) (pairs_more read.others y is)

    sized : table_size (before ++ (x.line ∷ [])) ≡ labels
    sized = ap (λ (k : LabelOrder). k.size) order

    pub pair_refused : (f : KindFault) → PairRefused labels (pairs read.others) (two y) f → (behind' : List ℕ) → FirstOf (line_checks p w (before ++ (x.line ∷ [])) y behind') (Kind f)
    pair_refused f (inl (none, same)) behind' = first_by p w (before ++ (x.line ∷ [])) y behind' is _ (inl ((λ of. none (subst (λ (n : ℕ). OfLabels n (two y)) sized of)), ap (λ (g : KindFault). Kind g) (sym same)))
    pair_refused f (inr (of, looped, same)) behind' =
        first_by p w (before ++ (x.line ∷ [])) y behind' is _ (inr ((λ no. no (subst (λ (n : ℕ). OfLabels n (two y)) (sym sized) of)), inl (subst Looped (sym grown) looped, ap (λ (g : KindFault). Kind g) (sym same))))

    pub table_more : PairTaken labels (pairs read.others) (two y) → {rows' : List ℕ} → KeepsPairs labels rows' (more (pairs read.others) (two y))
        → {reader' : Reader} → Stands p w file reader' (before ++ (x.line ∷ [])) → TableRead p w file reader' y labels rows' (before ++ (x.line ∷ []))
    table_more (of, straight) {rows'} keeps stands' =
        let ls : List Line = before ++ (x.line ∷ []) in
        let of' : OfLabels (table_size ls) (two y) = subst (λ (n : ℕ). OfLabels n (two y)) (sym sized) of in
        let straight' : Looped (kind_of (ls ++ (y ∷ []))) → ⊥ = λ looped. straight (subst Looped grown looped) in
        record {
          stands = stands';
          first = read.first;
          others = read.others ++ (y ∷ []);
          all = ap (λ (ms : List Line). ms ++ (y ∷ [])) read.all;
          form = read.form;
          size = read.size;
          keeps = subst (KeepsPairs labels rows') (sym (pairs_more read.others y is)) keeps;
          pair = inr is;
          passes = λ behind' ok. none_by p w ls y behind' is ((λ no. no of'), (straight', (ok, tt)));
          fails = λ behind' bad. first_by p w ls y behind' is _ (inr ((λ no. no of'), inr (straight', inl (bad, refl))));
          none = lines_of_same 2 ls y (λ two. omega (arith, ap section is)) ∙ read.none;
          quiet = quiet_more read.quiet y is refl (λ e. omega arith) refl;
        }

  -- the pairs are all there, and lack a meet or a join
  pub table_lacks : (PairNext (drop x.length reader.rest.now) → ⊥) → Lacking (table labels (pairs read.others)) → Refuses p w file (reader.lines + 1) (Kind NoMeetOrJoin)
  table_lacks last lacking = refused_check read.stands gets (read.fails (drop x.length reader.rest.now) (last, subst Lacking (sym order) lacking))

  -- or lack none
  pub table_read : (PairNext (drop x.length reader.rest.now) → ⊥) → (Lacking (table labels (pairs read.others)) → ⊥) → {k : AnyKind} → Same (any_kind k) (table labels (pairs read.others))
      → {reader' : Reader} → Advanced reader x reader' → KindRead p w file reader' (before ++ (x.line ∷ [])) k
  table_read last full {k} same {reader'} moved =
      let next : LogicNext reader' = λ y behind' goes.
      let (after, _) = subst (λ (f : Option Form). May f reader'.users y.form) moved.last goes.may in
      elim after [
        | inl (_, inl two) ↦ two
        | inl (_, inr (one, _)) ↦ absurd (last (subst PairNext (sym goes.split ∙ moved.rest) (pair_text y behind' goes.whole (pair_section y.form one))))
        | inr (late, _, _) ↦ absurd (omega (arith, table_section x.line.form read.pair))
      ] in
      record {
        stands = stands_more read.stands gets (read.passes (drop x.length reader.rest.now) (λ (_, lacking). full (subst Lacking order lacking))) moved;
        kind = subst (λ (h : LabelOrder). Same (any_kind k) h) (sym order) same;
        some = omega (arith, ap length read.all);
        next = next;
        none = read.none;
        quiet = read.quiet;
      }

kind_section : (f : Form) → section f ≡ 0 → (k : KindForm) × (f ≡ KindLine k)
kind_section (KindLine k) e = (k, refl)
kind_section Pair e = absurd (omega arith)
kind_section (Logic l) e = absurd (omega arith)
kind_section (Axiom a) e = absurd (omega arith)
kind_section User e = absurd (omega arith)
kind_section Goal e = absurd (omega arith)

-- the first line names a kind
pub first_kind : {p w : ℕ} {file : List ℕ} {reader : Reader} → Stands p w file reader [] → {x : Found} → Gets reader x → section x.line.form ≡ 0
first_kind {reader = reader} stands {x} gets = subst (λ (f : Option Form). May f reader.users x.line.form) stands.last gets.next.may

-- a kind that is no table is read
pub plain_read : {p w : ℕ} {file : List ℕ} {reader : Reader} → Stands p w file reader [] → {x : Found} → Gets reader x → (x.line.form ≡ KindLine TableForm → ⊥) → {k : AnyKind} → Same (any_kind k) (kind_of (x.line ∷ []))
    → NoneOf (line_checks p w [] x.line (drop x.length reader.rest.now)) → {reader' : Reader} → Advanced reader x reader' → KindRead p w file reader' (x.line ∷ []) k
plain_read {p} {w} stands {x} gets plain same none {reader'} moved =
    let zero : section x.line.form ≡ 0 = first_kind stands gets in
    let (f, is) = kind_section x.line.form zero in
    let next : LogicNext reader' = λ y behind goes.
    let (after, _) = subst (λ (h : Option Form). May h reader'.users y.form) moved.last goes.may in
    elim after [
      | inl (_, inl two) ↦ two
      | inl (_, inr (one, inl table)) ↦ absurd (plain table)
      | inl (_, inr (one, inr pair)) ↦ absurd (omega (arith, ap section pair))
      | inr (late, _, _) ↦ absurd (omega arith)
    ] in
    record {
      stands = stands_more stands gets none moved;
      kind = same;
      some = omega arith;
      next = next;
      none = lines_of_other 2 x.line (λ two. omega arith);
      quiet = quiet_more quiet_none x.line is refl (λ e. omega arith) refl;
    }
