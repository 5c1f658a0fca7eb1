-- Pages of a book, and what a call changes in them.
use Rattle.std.specs.Prelude.{◌≡◌, ℕ, ◌-◌, ◌<◌, false, cond, T, ◌⊎◌, List, [], ◌∷◌, map, length, ◌==◌, slice_index_or}
use Rattle.logics.specs.declared.Record.{Record}
use Rattle.engine.specs.declared.page.Page.{Page}

-- the pages with that of axiom n changed
abbrev pub change : ℕ → (Page → Page) → List Page → List Page
change n f [] = []
change n f (p ∷ ps) = cond (n == 1) (f p ∷ ps) (p ∷ change (n - 1) f ps)

abbrev pub withdrawn : Page → Page
withdrawn p = record { entry = p.entry; label = p.label; stands = false }

abbrev pub relabelled : ℕ → Page → Page
relabelled a p = record { entry = p.entry; label = a; stands = p.stands }

-- p is the page at place i
abbrev pub At : List Page → ℕ → Page → Type 0
At ps i p = (i < length ps) × (slice_index_or ps i p ≡ p)

-- no page has the number
abbrev pub NoPage : List Page → ℕ → Type 0
NoPage ps n = (n ≡ 0) ⊎ (length ps < n)

-- the page at place i is in force
abbrev pub Standing : List Page → ℕ → Type 0
Standing ps i = (p : Page) × At ps i p × T p.stands

-- the records of pages
abbrev pub records_of : List Page → List Record
records_of ps = map (λ p. p.entry) ps
