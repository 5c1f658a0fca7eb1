-- The book of a sheet's history: a page for each axiom entered, and the published goals.
use Rattle.std.specs.Prelude.{Bool, true, false, cond, List, [], ◌∷◌, ◌++◌, ◌==◌}
use Rattle.logics.specs.Entailment.{Goal}
use Rattle.engine.specs.Pages.{change, withdrawn, relabelled}
use Rattle.engine.specs.declared.page.Page.{Page}
use Rattle.engine.specs.declared.call.Call.{Call}
use Rattle.engine.specs.declared.call.Call.TheVariants.{Enter, Withdraw, Relabel, Supports, Publish, Boundary, Row, See}

pub record Book : Type 0 where
  pub pages : List Page
  pub published : List Goal

abbrev pub blank : Book
blank = record { pages = []; published = [] }

-- a goal is noted once
abbrev pub same : Goal → Goal → Bool
same g h = cond (g.0 == h.0) (g.1 == h.1) false

abbrev pub note : Goal → List Goal → List Goal
note g [] = g ∷ []
note g (h ∷ hs) = cond (same g h) (h ∷ hs) (h ∷ note g hs)

-- what an accepted call makes of the book
abbrev pub after : Call → Book → Book
after (Enter r a) b = record { pages = b.pages ++ (record { entry = r; label = a; stands = true } ∷ []); published = [] }
after (Withdraw n) b = record { pages = change n withdrawn b.pages; published = [] }
after (Relabel n a) b = record { pages = change n (relabelled a) b.pages; published = [] }
after (Supports g p w) b = b
after (Publish g p w) b = record { pages = b.pages; published = note g b.published }
after (Boundary g) b = b
after (Row i) b = b
after (See u g) b = b
