-- Rules that are tried at one record after another, or row by row, with what they leave settled at each.
use Rattle.std.proofs.Common.{ℕ, ◌+◌, ◌<◌, Bool, ◌||◌, List, [], ◌∷◌, ◌++◌, below_more}
use Rattle.logics.specs.WorkArea.{Ticking}
use Rattle.logics.specs.declared.Record.{Record}
use Rattle.logics.specs.Entailment.{Each}
use Rattle.logics.specs.Marked.{each_more}
use Rattle.logics.specs.Ticks.{tick_then}

pub round_more : {bytes : ℕ} {May : ℕ → Type 0} (P : Record → List ℕ → Type 0) (done : List Record) (y : Record) {a b c : List ℕ} (s t : Bool) → Ticking bytes May (λ l. Each (λ r. P r l) done) a b s → Ticking bytes May (P y) b c t → Ticking bytes May (λ l. Each (λ r. P r l) (done ++ y ∷ [])) a c (s || t)
round_more P done y s t p q = tick_then s t p q (λ l old new. each_more done y old new)

pub rows_more : {bytes : ℕ} {May : ℕ → Type 0} (P : ℕ → List ℕ → Type 0) (x : ℕ) {a b c : List ℕ} (s t : Bool) → Ticking bytes May (λ l. (y : ℕ) → y < x → P y l) a b s → Ticking bytes May (P x) b c t → Ticking bytes May (λ l. (y : ℕ) → y < x + 1 → P y l) a c (s || t)
rows_more P x s t p q = tick_then s t p q (λ l old new. below_more (λ y. P y l) x old new)
