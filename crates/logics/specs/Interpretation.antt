-- What el axioms mean. A set of whole numbers is its yes-or-no test.
use Rattle.std.specs.Prelude.{◌≡◌, ℕ, Bool, T, List}
use Rattle.base.specs.Words.{In}
use Rattle.logics.specs.Entailment.{Goal}
use Rattle.logics.specs.declared.Record.{Record}

-- a set that is not empty, a subset for each concept (the whole for 0), and a relation for each role
pub record Interpretation : Type 0 where
  pub domain : ℕ → Bool
  pub element : (x : ℕ) × T (domain x)
  pub concept : ℕ → ℕ → Bool
  pub role : ℕ → ℕ → ℕ → Bool
  pub concept_inside : (c x : ℕ) → T (concept c x) → T (domain x)
  pub role_inside : (r x y : ℕ) → T (role r x y) → T (domain x) × T (domain y)
  pub everything : (x : ℕ) → T (domain x) → T (concept 0 x)

-- C lies in D
abbrev pub Within : (ℕ → Bool) → (ℕ → Bool) → Type 0
Within C D = (x : ℕ) → T (C x) → T (D x)

-- what a record says of x, under given concepts and roles
pub record HoldsAt (concept : ℕ → ℕ → Bool) (role : ℕ → ℕ → ℕ → Bool) (r : Record) (x : ℕ) : Type 0 where
  pub lies : r.form ≡ 1 → T (concept r.a x) → T (concept r.b x)
  pub both : r.form ≡ 2 → T (concept r.a x) → T (concept r.b x) → T (concept r.c x)
  pub partner : r.form ≡ 3 → T (concept r.a x) → (y : ℕ) × T (role r.b x y) × T (concept r.c y)
  pub source : r.form ≡ 4 → (y : ℕ) → T (role r.a x y) → T (concept r.b y) → T (concept r.c x)

abbrev pub Satisfies : Interpretation → Record → Type 0
Satisfies i r = (x : ℕ) → HoldsAt i.concept i.role r x

-- in every interpretation that satisfies the records, the first concept lies in the second
abbrev pub Entails : List Record → Goal → Type 0
Entails rs g =
    (i : Interpretation) → ((r : Record) → In r rs → Satisfies i r) → Within (i.concept g.0) (i.concept g.1)
