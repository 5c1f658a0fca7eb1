-- Pieces that are printed one behind another.
use Rattle.std.proofs.Common.{◌≡◌, ℕ, List, [], ◌++◌, sym, subst, append_assoc}
use Rattle.std.specs.Borrow.{MutBor}
use Rattle.std.proofs.lemmas.List.{append-nil}
use Rattle.prints.specs.declared.Printer.{Printer}
use Rattle.prints.specs.Output.{Printed, PrintedBy, Adds}

-- nothing is printed
pub adds_none : {p : Printer} → Adds [] p p
adds_none {p} = record { behind = λ t out h. subst (λ (s : List ℕ). PrintedBy s out p) (sym (append-nil t)) h }

-- one piece, and then another
pub adds_both : {a b : List ℕ} {p q r : Printer} → Adds a p q → Adds b q r → Adds (a ++ b) p r
adds_both {a} {b} {r = r} f g =
    record { behind = λ t out h. subst (λ (s : List ℕ). PrintedBy s out r) (append_assoc t a b) (g.behind (t ++ a) out (f.behind t out h)) }

-- the same piece, in other words
pub adds_same : {a b : List ℕ} {p q : Printer} → a ≡ b → Adds a p q → Adds b p q
adds_same {p = p} {q} e f = subst (λ (s : List ℕ). Adds s p q) e f

-- an output that is given back is as the print has left it
pub given_back : {t : List ℕ} {out : MutBor (List ℕ)} {p : Printer} → PrintedBy t out p → (now : List ℕ) → (out.ghost_name ≡ p.out.ghost_name → now ≡ p.out.now) → Printed t out.now p.print.length now
given_back {t} {out} {p} h now left = subst (λ (s : List ℕ). Printed t out.now p.print.length s) (sym (left (sym h.same_reference))) h.printed
