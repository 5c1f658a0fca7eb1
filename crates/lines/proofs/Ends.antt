-- From what was found of a line to the line.
use Rattle.std.proofs.Common.{◌≡◌, ℕ, ◌+◌, ◌-◌, List, [], ◌∷◌, ◌++◌, map, length, take, drop, replicate, decimal, Option, Some, None, Result, Ok, Err, MatchResult, sym, ap, ◌∙◌, subst, append_assoc, arith, take_all}
use Rattle.std.specs.Option.{ok_or}
use Rattle.std.specs.Result.{IsErrAnd}
use Rattle.std.proofs.lemmas.Result.{err_from_is_err_and}
use Rattle.base.specs.Words.{In}
use Rattle.base.specs.Commas.{tails}
use Rattle.lines.specs.declared.form.Form.{Form}
use Rattle.lines.specs.Forms.{opening, arity, May}
use Rattle.lines.specs.Reading.{FirstPlace, Shaped, Ended, Numbered, Next}
use Rattle.lines.proofs.Fields.{bare_take, cut_at}

-- what a search for the line feed shows
pub no_end : (bs : List ℕ) → FirstPlace 10 bs None → In 10 bs → ⊥
no_end bs before i = bare_take 10 bs (length bs) before (subst (In 10) (sym (take_all (length bs) bs (omega arith))) i)

pub end_found : (bs : List ℕ) (r : ℕ) → FirstPlace 10 bs (Some r) → Ended bs (take r bs) (drop (r + 1) bs)
end_found bs r (within, found, before) = record { split = cut_at 10 bs r within found; first = bare_take 10 bs r before }

-- what `?` hands on where a value is missing
pub refused : {T X E : Type 0} (o : Option T) (e d : E) → ◌≡◌ {A = Result T E} (Err d) (ok_or o e) → (r : Result X E) → IsErrAnd r (λ y. y ≡ d)
    → (P : X → Type 0) (Q : E → Type 0) → Q e → MatchResult r P Q
refused (Some x) e d is r told P Q q = absurd (let h : ◌≡◌ {A = Result _ _} (Err d) (Ok x) = is in cc)
refused None e d is r told P Q q =
    let (fault, err, same) = err_from_is_err_and r told in
    let given : d ≡ e = cc in rw (err, same, given) q

pub line_next : (last : Option Form) (users : ℕ) (bs line after : List ℕ) → Ended bs line after → (f : Form) (fields : List (List ℕ)) → Shaped line f fields → May last users f
    → (numbers : List ℕ) → Numbered fields numbers → Next last users bs (record { form = f; numbers = numbers }) after
line_next last users bs line after ended f fields s may numbers n =
    let written : fields ≡ map decimal (take (arity f) numbers) = n.read ∙ ap (λ (k : ℕ). map decimal (take k numbers)) s.count in
    let is : line ≡ opening f ++ tails (map decimal (take (arity f) numbers)) = s.opened ∙ ap (λ (l : List ℕ). opening f ++ l) (s.parted.bytes ∙ ap tails written) in
    record {
      split = ended.split ∙ sym (append_assoc line (10 ∷ []) after) ∙ ap (λ (l : List ℕ). (l ++ (10 ∷ [])) ++ after) is;
      whole = record {
        four = n.four;
        small = n.small;
        rest = ap (λ (k : ℕ). drop k numbers) (sym s.count) ∙ n.rest ∙ ap (λ (k : ℕ). replicate (4 - k) 0) s.count;
      };
      may = may;
    }
