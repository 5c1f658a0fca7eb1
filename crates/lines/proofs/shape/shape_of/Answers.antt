use Rattle.std.proofs.Common.{◌≡◌, ℕ, ◌≤◌, Bool, true, false, eqb, List, ◌++◌, length, MatchOption, sym, refl, ap, ◌∙◌, subst, eqb-true}
use Rattle.std.specs.Borrow.{Bor}
use Rattle.std.specs.Bool.{then_some}
use Rattle.std.proofs.lemmas.List.{append_cancel_left}
use borrow.Author.Tests.{eqb-false}
use Rattle.lines.specs.declared.form.Form.{Form}
use Rattle.lines.specs.Forms.{opening, arity}
use Rattle.lines.specs.Reading.{Parted, Shaped}
use Rattle.lines.proofs.Fields.{count_parted}
use Rattle.lines.proofs.Openings.{same_opening, few_numbers}
use Rattle.lines.proofs.shape.shape_of.Goals as goal

-- the count of the fields decides whether the line has the form's shape, and it has no other
module _ (line : List ℕ) (f : Form) (rest : Bor (List ℕ)) (opened : line ≡ opening f ++ rest.now) (fields : List (List ℕ)) (parted : Parted rest.now fields) where
  decided : (enough : Bool) → eqb (length fields) (arity f) ≡ enough
      → MatchOption {T = Form × Bor (List ℕ)} (then_some enough (f, rest)) ((g : Form) (others : List (List ℕ)) → Shaped line g others → ⊥) (λ x. (fs : List (List ℕ)) × Shaped line x.0 fs × Parted x.1.now fs × (length fs ≤ 4))
  decided true same =
      let count = eqb-true (length fields) (arity f) same in
      (fields, record { rest = rest.now; opened = opened; parted = parted; count = count }, parted, subst (λ (n : ℕ). n ≤ 4) (sym count) (few_numbers f))
  decided false other = λ g others s.
      let same : g ≡ f = same_opening g f s.rest rest.now (sym s.opened ∙ opened) in
      let tail : s.rest ≡ rest.now = append_cancel_left (opening f) s.rest rest.now (ap (λ (h : Form). opening h ++ s.rest) (sym same) ∙ sym s.opened ∙ opened) in
      eqb-false (length fields) (arity f) other
      (sym (count_parted rest.now fields parted) ∙ count_parted rest.now others (subst (λ (bs : List ℕ). Parted bs others) tail s.parted) ∙ s.count ∙ ap arity same)

pub returns : goal.returns
returns c =
    let (fields, parted, count) = c.in_ok-count_fields.ensures in
    rw c.then_some.ensures (decided c.args.line.now c.in_ok-form.form c.in_ok-form.fields c.in_ok-form.ensures fields parted _ (rw (count, sym c.arity.ensures) refl))
