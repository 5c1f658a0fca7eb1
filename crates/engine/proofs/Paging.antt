-- A page of the table that is written is that page of the book, changed.
use Rattle.std.proofs.Common.{◌≡◌, ℕ, zero, suc, ◌+◌, ◌-◌, ◌<◌, false, T, eqb, List, [], ◌∷◌, ◌++◌, length, get_or, set, sym, refl, ap, ◌∙◌, arith, ne_eqb}
use Rattle.std.proofs.lemmas.List.{get_or_default}
use Rattle.engine.specs.declared.page.Page.{Page}
use Rattle.base.specs.Bits.{Has}
use Rattle.base.specs.Words.{Iff}
use Rattle.base.proofs.Sets.{Gathered}
use Rattle.engine.specs.Pages.{change, At, Standing, records_of}

-- past the first page
change_later : (f : Page → Page) (m : ℕ) (p : Page) (ps : List Page) → change (suc (suc m)) f (p ∷ ps) ≡ p ∷ change (suc m) f ps
change_later f m p ps =
    let other : eqb (suc (suc m)) 1 ≡ false = ne_eqb (suc (suc m)) 1 (λ e. omega arith) in
    let down : suc (suc m) - 1 ≡ suc m = omega arith in
    rw (other, down)

change_set : (f : Page → Page) (m : ℕ) (ps : List Page) (d : Page) → m < length ps → set ps m (f (get_or ps m d)) ≡ change (suc m) f ps
change_set f m [] d lt = absurd (omega arith)
change_set f zero (p ∷ ps) d lt = refl
change_set f (suc m) (p ∷ ps) d lt = ap (λ qs. p ∷ qs) (change_set f m ps d (omega arith)) ∙ sym (change_later f m p ps)

-- the page at a place, changed by itself
pub change_at : (f : Page → Page) (m : ℕ) (ps : List Page) (d : Page) → m < length ps → set ps m (f (get_or ps m d)) ≡ change (m + 1) f ps
change_at f m ps d lt = let next : suc m ≡ m + 1 = omega arith in change_set f m ps d lt ∙ ap (λ (n : ℕ). change n f ps) next

-- the page of no axiom
abbrev pub no_page : Page
no_page = record { entry = record { form = 0; a = 0; b = 0; c = 0 }; label = 0; stands = false }

-- the page that the code reads
pub page_read : (pages : List Page) (i : ℕ) → i < length pages → At pages i (get_or pages i no_page)
page_read pages i lt = (lt, get_or_default pages i (get_or pages i no_page) no_page lt)

-- whether one page is in force
pub standing_at : (pages : List Page) (i : ℕ) → i < length pages → Iff (T (get_or pages i no_page).stands) (Standing pages i)
standing_at pages i lt = (
  λ t. (get_or pages i no_page, page_read pages i lt, t),
  λ s. rw (get_or_default pages i no_page s.0 lt ∙ s.1.1) s.2,
)

-- the places of the pages in force, as the code gathers them
pub gathered_standing : (pages : List Page) (force : ℕ) → Gathered (λ k. T (get_or pages k no_page).stands) force (length pages)
    → (i : ℕ) → Iff (Has force i) (Standing pages i)
gathered_standing pages force gathered i = (
  λ h. let (lt, stands) = (gathered i).0 h in (standing_at pages i lt).0 stands,
  λ s. (gathered i).1 (s.1.0, (standing_at pages i s.1.0).1 s),
)

pub append_records : (ps : List Page) (p : Page) → records_of (ps ++ (p ∷ [])) ≡ records_of ps ++ (p.entry ∷ [])
append_records [] p = refl
append_records (q ∷ qs) p = ap (λ rs. q.entry ∷ rs) (append_records qs p)
