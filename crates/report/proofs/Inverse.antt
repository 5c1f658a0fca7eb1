-- What is written is read back.
use Rattle.std.proofs.Common.{◌≡◌, ℕ, ◌<◌, List, [], ◌∷◌, ◌++◌, length, sym, refl, ap, ◌∙◌, subst, ap₂, append_assoc, append-nil, arith, length-append}
use Rattle.lines.specs.declared.fault.TextFault.{TextFault}
use Rattle.lines.specs.declared.form.Line.{Line}
use Rattle.lines.specs.Lines.{text, written, last_form}
use Rattle.lines.specs.Reading.{TextFails}
use Rattle.lines.proofs.Inverse.{text_unique, no_text_fault}
use Rattle.report.specs.Checks.{user_count, Good}
use Rattle.report.specs.Inverse.{InOrder, ReadBack}
use Rattle.report.proofs.Standing.{some_text}

-- good lines at the front of what was written are the sheet's first lines
front_lines : (p w : ℕ) (before xs ls : List Line) (rest : List ℕ) → InOrder before xs → Good p w before ls rest → written xs ≡ written ls ++ rest
    → (ys : List Line) × (xs ≡ ls ++ ys) × (rest ≡ written ys) × InOrder (before ++ ls) ys
front_lines p w before xs [] rest order good e = (xs, refl, sym e, subst (λ (ms : List Line). InOrder ms xs) (sym (append-nil before)) order)
front_lines p w before [] (l ∷ ls) rest order good e =
    absurd (omega (arith, ap length e, length-append (text l ++ written ls) rest, some_text l (written ls)))
front_lines p w before (x ∷ xs) (l ∷ ls) rest (whole, may, order) (passes, good) e =
    let (same, others) = text_unique x l whole passes.whole (written xs) (written ls ++ rest) (e ∙ append_assoc (text l) (written ls) rest) in
    let on : InOrder (before ++ (l ∷ [])) xs = subst (λ (y : Line). InOrder (before ++ (y ∷ [])) xs) same order in
    let (ys, split, left, more) = front_lines p w (before ++ (l ∷ [])) xs ls rest on good others in
    (ys, ap₂ ◌∷◌ same split, left, subst (λ (ms : List Line). InOrder ms ys) (append_assoc before (l ∷ []) ls) more)

-- none of the lines to come is refused for its text
no_fault : (ls ys : List Line) (rest : List ℕ) → rest ≡ written ys → InOrder ls ys → (f : TextFault) → 0 < length rest → TextFails (last_form ls) (user_count ls) rest f → ⊥
no_fault ls [] rest e order f some fails = omega (arith, ap length e)
no_fault ls (y ∷ ys) rest e (whole, may, _) f some fails = no_text_fault (last_form ls) (user_count ls) rest y (written ys) whole may e f fails

nothing_left : (ys : List Line) → [] ≡ written ys → ys ≡ []
nothing_left [] e = refl
nothing_left (y ∷ ys) e = absurd (omega (arith, ap length e, some_text y (written ys)))

pub read_back : (p w : ℕ) → ReadBack p w
read_back p w xs order = (
  λ ls accepts.
      let (ys, split, left, _) = front_lines p w [] xs ls [] order accepts.good (accepts.bytes ∙ sym (append-nil (written ls))) in
      sym (split ∙ ap (λ (ms : List Line). ls ++ ms) (nothing_left ys left) ∙ append-nil ls),
  λ n c r.
      let (ys, split, left, more) = front_lines p w [] xs r.before r.rest order r.good r.bytes in
      (ys, split, left, no_fault r.before ys r.rest left more),
)
