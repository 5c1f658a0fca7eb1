use Rattle.std.proofs.Common.{◌≡◌, ℕ, ◌+◌, ◌≤◌, List, [], length, Some, None, Ok, Err, Option, Result, IsErrAnd, MatchResult, refl, inl, inr, arith, rules}
use Rattle.std.specs.Option.{ok_or}
use Rattle.std.proofs.lemmas.Result.{err_from_is_err_and}
use Rattle.lines.specs.declared.fault.TextFault.TheVariants.{PrintTooLong}
use Rattle.report.specs.declared.fault.Cause.{Cause}
use Rattle.report.specs.declared.fault.Cause.TheVariants.{Text}
use Rattle.report.specs.declared.fault.ReportFault.{ReportFault}
use Rattle.prints.specs.Output.{Printed}
use Rattle.prints.proofs.Adding.{given_back}
use Rattle.report.specs.Report.{PrintOf}
use Rattle.report.specs.Stands.{Outcome}
use Rattle.report.proofs.whole.outcome_of.Goals as goal

-- what a result says once its fault is told with a line
module _ (r : Result (Unit {0}) Cause) (m : Result (Unit {0}) ReportFault) (Told : Cause → ReportFault → Type 0) (told : MatchResult r (λ x. m ≡ Ok x) (λ c. IsErrAnd m (Told c))) where
  by_ok : m ≡ Ok tt → r ≡ Ok tt
  by_ok is = elim r as (λ s. MatchResult s (λ x. m ≡ Ok x) (λ c. IsErrAnd m (Told c)) → s ≡ Ok tt) [ Ok x ↦ λ same. cc | Err c ↦ λ h. let q = err_from_is_err_and m h in cc ] told

  by_err : (line : ℕ) (f : ReportFault) → m ≡ Err f → ((c : Cause) (g : ReportFault) → Told c g → g ≡ record { line = line; cause = c }) → (c : Cause) × (r ≡ Err c) × (f ≡ record { line = line; cause = c })
  by_err line f is tells = elim r as (λ s. MatchResult s (λ x. m ≡ Ok x) (λ c. IsErrAnd m (Told c)) → (c : Cause) × (s ≡ Err c) × (f ≡ record { line = line; cause = c })) [
    | Ok x ↦ λ same. absurd (cc)
    | Err c ↦ λ h. let q = err_from_is_err_and m h in let e = tells c q.0 q.2 in (c, refl, cc)
  ] told

-- a print that found no room is too long
room_or_not : (p w : ℕ) (file out : List ℕ) → length file ≤ 16384 → (n : Option ℕ) (out' t : List ℕ) → PrintOf p w file t → Printed t out n out' → Outcome p w file out (ok_or n (record { line = 0; cause = Text PrintTooLong })) out'
room_or_not p w file out short None out' t print long = inr (short, inr ((t, print, long.0), refl))
room_or_not p w file out short (Some n) out' t print printed = (short, (t, print, printed))

pub returns-in_err-map_err : goal.returns-in_err-map_err
returns-in_err-map_err c =
    let ends = c.read_file-read.ensures c.args.file.now (c.new-reader.ensures _ _) in
    let (cause, failed, is) = by_err c.read_file-read.result c.map_err.result _ c.map_err.ensures.cases (c.read_file-read.new.reader.lines + 1) _ c.in_err-map_err.was (λ c' f h. search rules) in
    let q = err_from_is_err_and c.from_residual.result c.from_residual.ensures.1 in
    rw (q.1, q.2, is) (inr (omega arith, inl (rw failed at ends)))

pub returns : goal.returns
returns c =
    let ends = c.read_file-read.ensures c.args.file.now (c.new-reader.ensures _ _) in
    let done = by_ok c.read_file-read.result c.map_err.result _ c.map_err.ensures.cases c.in_ok-map_err.was in
    let (t, print, adds) = rw done at ends in
    rw c.ok_or.ensures.value (room_or_not _ _ _ _ (omega arith) c.read_file-read.new.print.print.length _ t print (given_back (adds.behind [] _ c.new-printer.ensures.printed) _ (search rules)))
