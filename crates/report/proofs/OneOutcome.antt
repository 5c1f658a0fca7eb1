-- Any bytes have one report.
use Rattle.std.proofs.Common.{◌≡◌, ℕ, ◌+◌, ◌-◌, ◌<◌, ◌≤◌, Bool, true, false, T, ◌⊎◌, List, [], ◌∷◌, ◌++◌, length, replicate, Ok, Err, Option, sym, refl, ap, ◌∙◌, subst, ap₂, inl, inr, append_assoc, append-nil, arith}
use Rattle.base.specs.Words.{Iff}
use Rattle.base.specs.Checks.{FirstOf}
use Rattle.base.proofs.Checks.{first_unique, none_first}
use Rattle.labels.specs.Order.{LabelOrder}
use Rattle.logics.specs.Entailment.{Entailment, Goal}
use Rattle.engine.specs.Book.{Book}
use Rattle.engine.proofs.Unique.{determined}
use Rattle.prints.specs.Print.{block}
use Rattle.lines.specs.declared.fault.TextFault.{TextFault}
use Rattle.lines.specs.declared.form.Form.{Form}
use Rattle.lines.specs.declared.form.Form.TheVariants.{Kind, Pair, Logic, Axiom, User, Goal as GoalLine}
use Rattle.lines.specs.declared.form.Line.{Line}
use Rattle.lines.specs.Lines.{text, written, lines_of, last_form}
use Rattle.lines.proofs.Inverse.{text_unique, no_text_fault}
use Rattle.lines.proofs.OneFault.{one_fault}
use Rattle.report.specs.declared.fault.Cause.{Cause}
use Rattle.report.specs.declared.fault.Cause.TheVariants.{Text}
use Rattle.report.specs.declared.fault.ReportFault.{ReportFault}
use Rattle.report.specs.Meaning.{two, kind_of, logic_of, book_of, users_of}
use Rattle.report.specs.Checks.{user_count, line_checks, Passes, Good, Fails, early, check, text as texts, Refuses, Accepts}
use Rattle.report.specs.Report.{Seen, GoalPrints, LinePrints, Prints, PrintOf, Refused}
use Rattle.report.specs.OneOutcome.{OneOutcome}
use Rattle.report.proofs.Standing.{some_text}

-- the bytes go on with a line that passes
pub record GoesOn (p w : ℕ) (ls : List Line) (rest : List ℕ) : Type 0 where
  pub line : Line
  pub behind : List ℕ
  pub split : rest ≡ text line ++ behind
  pub passes : Passes p w ls line behind

module _ (p w : ℕ) where
  -- of two lists of good lines of one file, one goes on where the other ends, or they are the same
  same_front : (before ls ms : List Line) (rest rest' : List ℕ) → Good p w before ls rest → Good p w before ms rest' → written ls ++ rest ≡ written ms ++ rest'
      → ((ls ≡ ms) × (rest ≡ rest')) ⊎ (GoesOn p w (before ++ ls) rest ⊎ GoesOn p w (before ++ ms) rest')
  same_front before [] [] rest rest' good good' e = inl (refl, e)
  same_front before [] (m ∷ ms) rest rest' good (passes, _) e =
      inr (inl (record { line = m; behind = written ms ++ rest'; split = e ∙ append_assoc (text m) (written ms) rest'; passes = subst (λ (ns : List Line). Passes p w ns m (written ms ++ rest')) (sym (append-nil before)) passes }))
  same_front before (l ∷ ls) [] rest rest' (passes, _) good e =
      inr (inr (record { line = l; behind = written ls ++ rest; split = sym e ∙ append_assoc (text l) (written ls) rest; passes = subst (λ (ns : List Line). Passes p w ns l (written ls ++ rest)) (sym (append-nil before)) passes }))
  same_front before (l ∷ ls) (m ∷ ms) rest rest' (passes, good) (passes', good') e =
      let (same, others) = text_unique l m passes.whole passes'.whole (written ls ++ rest) (written ms ++ rest') (sym (append_assoc (text l) (written ls) rest) ∙ e ∙ append_assoc (text m) (written ms) rest') in
      let on : Good p w (before ++ (l ∷ [])) ms rest' = subst (λ (x : Line). Good p w (before ++ (x ∷ [])) ms rest') (sym same) good' in
      elim (same_front (before ++ (l ∷ [])) ls ms rest rest' good on others) [
        | inl (all, tail) ↦ inl (ap₂ ◌∷◌ same all, tail)
        | inr (inl goes) ↦ inr (inl (subst (λ (ns : List Line). GoesOn p w ns rest) (append_assoc before (l ∷ []) ls) goes))
        | inr (inr goes) ↦ inr (inr (subst (λ (ns : List Line). GoesOn p w ns rest') (append_assoc before (l ∷ []) ms ∙ ap (λ (x : Line). before ++ (x ∷ ms)) same) goes))
      ]

  -- where a line passes, no check fails
  fails_goes : (ls : List Line) (rest : List ℕ) (c : Cause) → Fails p w ls rest c → GoesOn p w ls rest → ⊥
  fails_goes ls rest c (early none _) goes = omega (arith, ap length (sym none ∙ goes.split), some_text goes.line goes.behind)
  fails_goes ls rest c (texts {f} some fails) goes = no_text_fault (last_form ls) (user_count ls) rest goes.line goes.behind goes.passes.whole goes.passes.may goes.split f fails
  fails_goes ls rest c (check x behind next first) goes =
      let (same, tail) = text_unique x goes.line next.whole goes.passes.whole behind goes.behind (sym next.split ∙ goes.split) in
      none_first (line_checks p w ls goes.line goes.behind) c goes.passes.none
      (subst (λ (y : Line). FirstOf (line_checks p w ls y goes.behind) c) same (subst (λ (b : List ℕ). FirstOf (line_checks p w ls x b) c) tail first))

  -- and the first check that fails is one
  fails_one : (ls : List Line) (rest : List ℕ) (c d : Cause) → Fails p w ls rest c → Fails p w ls rest d → c ≡ d
  fails_one ls rest c d (early none _) (early _ _) = refl
  fails_one ls rest c d (early none _) (texts some _) = absurd (omega (arith, ap length none))
  fails_one ls rest c d (early none _) (check x b next _) = absurd (omega (arith, ap length (sym none ∙ next.split), some_text x b))
  fails_one ls rest c d (texts some _) (early none _) = absurd (omega (arith, ap length none))
  fails_one ls rest c d (texts {f = f'} _ x) (texts {f = g'} _ y) = ap (λ (h : TextFault). Text h) (one_fault (last_form ls) (user_count ls) rest f' g' x y)
  fails_one ls rest c d (texts {f} _ fails) (check x b next _) = absurd (no_text_fault (last_form ls) (user_count ls) rest x b next.whole next.may next.split f fails)
  fails_one ls rest c d (check x b next _) (early none _) = absurd (omega (arith, ap length (sym none ∙ next.split), some_text x b))
  fails_one ls rest c d (check x b next _) (texts {f} _ fails) = absurd (no_text_fault (last_form ls) (user_count ls) rest x b next.whole next.may next.split f fails)
  fails_one ls rest c d (check x b next first) (check y e next' first') =
      let (same, tail) = text_unique x y next.whole next'.whole b e (sym next.split ∙ next'.split) in
      first_unique (line_checks p w ls y e) c d (subst (λ (z : Line). FirstOf (line_checks p w ls z e) c) same (subst (λ (r : List ℕ). FirstOf (line_checks p w ls x r) c) tail first)) first'

  module _ (file : List ℕ) where
    refuses_one : (m n : ℕ) (c d : Cause) → Refuses p w file m c → Refuses p w file n d → (m ≡ n) × (c ≡ d)
    refuses_one m n c d x y = elim (same_front [] x.before y.before x.rest y.rest x.good y.good (sym x.bytes ∙ y.bytes)) [
      | inl (ls, rest) ↦ (
        x.counted ∙ ap (λ (zs : List Line). length zs + 1) ls ∙ sym y.counted,
        fails_one y.before y.rest c d (subst (λ (r : List ℕ). Fails p w y.before r c) rest (subst (λ (zs : List Line). Fails p w zs x.rest c) ls x.fails)) y.fails,
      )
      | inr (inl goes) ↦ absurd (fails_goes x.before x.rest c x.fails goes)
      | inr (inr goes) ↦ absurd (fails_goes y.before y.rest d y.fails goes)
    ]

    at_end : (ls : List Line) → GoesOn p w ls [] → ⊥
    at_end ls goes = omega (arith, ap length goes.split, some_text goes.line goes.behind)

    end_fails : (ls : List Line) → 0 < length (lines_of 2 ls) → (c : Cause) → Fails p w ls [] c → ⊥
    end_fails ls some c (early _ none) = omega (arith, ap length none)
    end_fails ls some c (texts more _) = omega arith
    end_fails ls some c (check x b next _) = omega (arith, ap length next.split, some_text x b)

    accepts_whole : (ls : List Line) → Accepts p w file ls → written ls ++ [] ≡ file
    accepts_whole ls x = append-nil (written ls) ∙ sym x.bytes

    not_both : (ls : List Line) → Accepts p w file ls → (n : ℕ) (c : Cause) → Refuses p w file n c → ⊥
    not_both ls x n c y = elim (same_front [] ls y.before [] y.rest x.good y.good (accepts_whole ls x ∙ y.bytes)) [
      | inl (same, rest) ↦ end_fails ls x.complete c (subst (λ (r : List ℕ). Fails p w ls r c) (sym rest) (subst (λ (zs : List Line). Fails p w zs y.rest c) (sym same) y.fails))
      | inr (inl goes) ↦ at_end ls goes
      | inr (inr goes) ↦ fails_goes y.before y.rest c y.fails goes
    ]

    accepts_one : (ls ms : List Line) → Accepts p w file ls → Accepts p w file ms → ls ≡ ms
    accepts_one ls ms x y = elim (same_front [] ls ms [] [] x.good y.good (accepts_whole ls x ∙ sym (accepts_whole ms y))) [
      | inl (same, _) ↦ same
      | inr (inl goes) ↦ absurd (at_end ls goes)
      | inr (inr goes) ↦ absurd (at_end ms goes)
    ]

-- one answer for each user
one_answer : (a b : Bool) (P : Type 0) → Iff (T a) P → Iff (T b) P → a ≡ b
one_answer true true P x y = refl
one_answer true false P x y = absurd (y.1 (x.0 tt))
one_answer false true P x y = absurd (x.1 (y.0 tt))
one_answer false false P x y = refl

seen_one : (k : LabelOrder) (l : Entailment) (b : Book) (g : Goal) (us : List ℕ) (s t : List (ℕ × Bool)) → Seen k l b g us s → Seen k l b g us t → s ≡ t
seen_one k l b g [] s t e f = e ∙ sym f
seen_one k l b g (u ∷ us) s t (a, rest, sees, more, e) (c, rest', sees', more', f) =
    e ∙ ap₂ (λ (v : Bool) (vs : List (ℕ × Bool)). (u, v) ∷ vs) (one_answer a c _ sees sees') (seen_one k l b g us rest rest' more more') ∙ sym f

goal_one : (k : LabelOrder) (l : Entailment) (b : Book) (us : List ℕ) (g : Goal) (s t : List ℕ) → GoalPrints k l b us g s → GoalPrints k l b us g t → s ≡ t
goal_one k l b us g s t x y =
    let one = determined k x.lawful l in
    let bound : x.boundary ≡ y.boundary = one.boundary b g x.boundary y.boundary x.bounds y.bounds in
    let supports : x.supports ≡ y.supports = one.supports b g x.supports y.supports x.all y.all in
    let seen : x.seen ≡ y.seen = seen_one k l b g us x.seen y.seen x.sights y.sights in
    x.block_of ∙ ap (λ (v : Option ℕ). block g v x.supports x.seen) bound ∙ ap₂ (λ (ss : List ℕ) (sn : List (ℕ × Bool)). block g y.boundary ss sn) supports seen ∙ sym y.block_of

module _ (p w : ℕ) where
  line_one : (f : Form) (ls : List Line) (x : Line) (s t : List ℕ) → LinePrints p w f ls x s → LinePrints p w f ls x t → s ≡ t
  line_one GoalLine ls x s t a b = goal_one (kind_of ls) (logic_of ls) (book_of p w ls) (users_of ls) (two x) s t a b
  line_one (Kind k) ls x s t a b = a ∙ sym b
  line_one Pair ls x s t a b = a ∙ sym b
  line_one (Logic l) ls x s t a b = a ∙ sym b
  line_one (Axiom f) ls x s t a b = a ∙ sym b
  line_one User ls x s t a b = a ∙ sym b

  prints_one : (before ls : List Line) (s t : List ℕ) → Prints p w before ls s → Prints p w before ls t → s ≡ t
  prints_one before [] s t a b = a ∙ sym b
  prints_one before (x ∷ xs) s t (a, r, line, more, e) (b, q, line', more', f) =
      e ∙ ap₂ (λ (us vs : List ℕ). us ++ vs) (line_one x.form (before ++ (x ∷ [])) x a b line line') (prints_one (before ++ (x ∷ [])) xs r q more more') ∙ sym f

  print_one : (file s t : List ℕ) → PrintOf p w file s → PrintOf p w file t → s ≡ t
  print_one file s t x y =
      let same : x.lines ≡ y.lines = accepts_one p w file x.lines y.lines x.accepted y.accepted in
      prints_one [] y.lines s t (subst (λ (ls : List Line). Prints p w [] ls s) same x.prints) y.prints

  -- a file that is refused is refused in one way
  refused_one : (file : List ℕ) (room : ℕ) (f g : ReportFault) → Refused p w file room f → Refused p w file room g → f ≡ g
  refused_one file room f g (inl (_, e)) (inl (_, d)) = e ∙ sym d
  refused_one file room f g (inl (long, _)) (inr (short, _)) = absurd (omega arith)
  refused_one file room f g (inr (short, _)) (inl (long, _)) = absurd (omega arith)
  refused_one file room f g (inr (_, inl x)) (inr (_, inl y)) =
      let (line, cause) = refuses_one p w file f.line g.line f.cause g.cause x y in
      ap₂ (λ (n : ℕ) (c : Cause). record { line = n; cause = c }) line cause
  refused_one file room f g (inr (_, inl x)) (inr (_, inr ((t, print, _), _))) = absurd (not_both p w file print.lines print.accepted f.line f.cause x)
  refused_one file room f g (inr (_, inr ((t, print, _), _))) (inr (_, inl y)) = absurd (not_both p w file print.lines print.accepted g.line g.cause y)
  refused_one file room f g (inr (_, inr (_, e))) (inr (_, inr (_, d))) = e ∙ sym d

  -- and is not accepted
  refused_not : (file : List ℕ) (room : ℕ) (f : ReportFault) (t : List ℕ) → Refused p w file room f → length file ≤ 16384 → PrintOf p w file t → length t ≤ room → ⊥
  refused_not file room f t (inl (long, _)) short print fits = omega arith
  refused_not file room f t (inr (_, inl x)) short print fits = not_both p w file print.lines print.accepted f.line f.cause x
  refused_not file room f t (inr (_, inr ((s, other, long), _))) short print fits = omega (arith, ap length (print_one file s t other print))

pub one_outcome : (file : List ℕ) (p w room : ℕ) → OneOutcome file p w room
one_outcome file p w room (Ok n) (Ok m) places places' area area' out out' same (_, _, _, (t, print, count, _, left)) (_, _, _, (s, print', count', _, left')) =
    let text : t ≡ s = print_one p w file t s print print' in
    let number : n ≡ m = count ∙ ap length text ∙ sym count' in
    (ap (λ (k : ℕ). Ok k) number, left ∙ ap₂ (λ (u : List ℕ) (k : ℕ). u ++ replicate (room - k) 0) text number ∙ sym left')
one_outcome file p w room (Ok n) (Err f) places places' area area' out out' same (_, _, short, (t, print, _, fits, _)) (_, _, _, refused) =
    absurd (refused_not p w file room f t refused short print fits)
one_outcome file p w room (Err f) (Ok n) places places' area area' out out' same (_, _, _, refused) (_, _, short, (t, print, _, fits, _)) =
    absurd (refused_not p w file room f t refused short print fits)
one_outcome file p w room (Err f) (Err g) places places' area area' out out' same (_, _, zero, refused) (_, _, zero', refused') =
    (ap (λ (h : ReportFault). Err h) (refused_one p w file room f g refused refused'), zero ∙ ap (λ (k : ℕ). replicate k 0) same ∙ sym zero')
