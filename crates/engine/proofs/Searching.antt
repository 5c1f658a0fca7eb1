-- The search over the table's axioms is the search over the book's.
use Rattle.std.proofs.Common.{◌≡◌, ℕ, suc, ◌-◌, ◌/◌, ◌^◌, ◌<◌, ◌≤◌, List, [], ◌∷◌, ◌++◌, length, replicate, Some, None, Option, sym, refl, ap, ◌∙◌, subst, inl, inr, ⊎_elim, arith, pow_pos}
use Rattle.std.specs.Option.{ok_or}
use Rattle.base.specs.Bits.{Has}
use Rattle.base.specs.Words.{Iff, In}
use Rattle.base.proofs.Sets.{has_ones, subset_le}
use Rattle.labels.specs.Order.{LabelOrder}
use Rattle.logics.specs.Entailment.{Entailment, Goal, Askable, marked}
use Rattle.logics.specs.declared.Record.{Record}
use Rattle.logics.specs.Marked.{in_cons}
use Rattle.supports.specs.Found.{Found}
use Rattle.engine.specs.declared.page.Page.{Page}
use Rattle.engine.specs.declared.page.Row.{Row}
use Rattle.engine.specs.declared.call.SheetFault.TheVariants.{MoreSupports}
use Rattle.engine.specs.Pages.{At, Standing, records_of}
use Rattle.engine.specs.Book.{Book}
use Rattle.engine.specs.Sight.{entries, InForce}
use Rattle.engine.specs.Keeps.{Keeps}
use Rattle.engine.specs.Law.{SearchLeaves, buffers}
use Rattle.engine.specs.Keeps.{answer}
use Rattle.engine.specs.Obeys.{Finds}
use Rattle.engine.proofs.Supporting.{enough, fits}
use Rattle.engine.specs.declared.call.Answer.TheVariants.{Count}
use Rattle.engine.proofs.Force.{all_of_book, more_of_book}

-- a set of places below n, as a number
below : (n s : ℕ) → ((i : ℕ) → Has s i → i < n) → s < 2 ^ n
below n s few = omega (arith, subset_le s (2 ^ n - 1) (λ i h. (has_ones n i).1 (few i h)), pow_pos n)

-- a marked record is one of the list
marked_in : (rs : List Record) (m : ℕ) (x : Record) → In x (marked rs m) → In x rs
marked_in [] m x h = h
marked_in (r ∷ rs) m x h = ⊎_elim (λ p. inl p.1) (λ j. inr (marked_in rs (m / 2) x j)) ((in_cons m x r rs).0 h)

-- the record of some page
record_page : (ps : List Page) (x : Record) → In x (records_of ps) → (i : ℕ) × (p : Page) × At ps i p × (x ≡ p.entry)
record_page [] x h = absurd h
record_page (p ∷ ps) x (inl e) = (0, p, (omega arith, refl), e)
record_page (p ∷ ps) x (inr h) = let (i, q, at, e) = record_page ps x h in (suc i, q, (omega (arith, at.0), at.1), e)

length_records : (ps : List Page) → length (records_of ps) ≡ length ps
length_records [] = refl
length_records (p ∷ ps) = ap suc (length_records ps)

module _ (k : LabelOrder) (l : Entailment) (b : Book) (pages : List Page) (rows : List Row) (keeps : Keeps k l b pages rows) (records : List Record) (same : records ≡ records_of pages)
    (all : ℕ) (force : (i : ℕ) → Iff (Has all i) (Standing pages i)) (g : Goal) where
  long : length records ≡ length pages
  long = ap length same ∙ length_records pages

  pub search_askable : (room : ℕ) → l.TakesGoal g → l.bytes ≤ room → Askable l records all g room
  search_askable room posed wide = record {
    few = omega (arith, long, keeps.few);
    within = below (length records) all (λ i h. let (p, at, up) = (force i).0 h in omega (arith, long, at.0));
    taken = λ x h.
        let (i, p, at, e) = record_page pages x (subst (In x) same (marked_in records all x h)) in
        rw e (keeps.taken i p at).0;
    posed = posed;
    wide = wide;
  }

  by_book : (i : ℕ) → Iff (Has all i) (InForce b i)
  by_book = rw keeps.book force

  listed : (r : Option ℕ) (places area places' area' : List ℕ) → Found l records all g places area r places' area' → Found l (entries b) all g places area r places' area'
  listed r places area places' area' =
      subst (λ (rs : List Record). Found l rs all g places area r places' area') (same ∙ ap records_of (sym keeps.book))

  -- what was found, by the book
  pub found_by : (places area : List ℕ) (o : Option ℕ) (places' area' : List ℕ) → l.bytes ≤ length area → length places' ≡ length places → Found l records all g places area o places' area'
      → Finds k l b g (length places) (length area) (ok_or o MoreSupports)
  found_by places area (Some n) places' area' wide long found =
      let ((ss, is, count, filled), scrubbed) = listed (Some n) places area places' area' found in
      let all_book = all_of_book l b g all by_book ss is in
      ((λ short. omega arith, (enough k l b g ss (length places) all_book (omega (arith, fits k l ss n places places' count filled long)), tt)), (ss, all_book, count))
  found_by places area None places' area' wide long found =
      let more = listed None places area places' area' found in
      inr (λ short. omega arith, inl (more_of_book l b g all by_book k (length places) more.0, refl))

  -- and what it leaves
  pub found_leaves : (places area : List ℕ) (o : Option ℕ) (places' area' : List ℕ) → Found l records all g places area o places' area'
      → SearchLeaves k l b g (answer Count (ok_or o MoreSupports)) (buffers places area) (buffers places' area')
  found_leaves places area (Some n) places' area' found =
      let ((ss, is, count, filled), scrubbed) = listed (Some n) places area places' area' found in
      ((ss, all_of_book l b g all by_book ss is, filled ∙ ap (λ (m : ℕ). ss ++ replicate (length places - m) 0) count), scrubbed)
  found_leaves places area None places' area' found =
      let more = listed None places area places' area' found in
      inl (refl, more.1, more.2)
