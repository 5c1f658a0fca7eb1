-- A work area whose first bytes are cleared.
use Rattle.std.proofs.Common.{◌≡◌, ℕ, ◌<◌, List, ◌++◌, length, get_or, drop, replicate, ap, ◌∙◌, drop_at}
use lib.ListN.{length-replicate, get_or-replicate}
use Rattle.std.proofs.lemmas.List.{get_or_append_left}
use Rattle.logics.specs.Entailment.{Scrubbed}

pub scrubbed_blank : (n : ℕ) (before after : List ℕ) → Scrubbed n before after → (k : ℕ) → k < n → get_or after k 0 ≡ 0
scrubbed_blank n before after e k lt =
    let long : k < length (replicate n 0) = rw length-replicate lt in
    ap (λ l. get_or l k 0) e ∙ get_or_append_left (replicate n 0) (drop n before) 0 k long ∙ get_or-replicate n k 0 0 lt

-- cleared, changed among the first bytes alone, and cleared again
pub scrubbed_again : (n : ℕ) (a b c d : List ℕ) → Scrubbed n a b → drop n c ≡ drop n b → Scrubbed n c d → Scrubbed n a d
scrubbed_again n a b c d first same second =
    second ∙ ap (λ l. replicate n 0 ++ l) (same ∙ ap (drop n) first ∙ drop_at (replicate n 0) (drop n a) n (length-replicate n 0))
