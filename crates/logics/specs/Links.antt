-- Links between points, and what chains of them lead to.
use Rattle.std.specs.Prelude.{◌≡◌, ℕ, ◌<◌, ◌≤◌, ◌⊎◌, List}
use Rattle.base.specs.Words.{In}
use Rattle.logics.specs.Entailment.{Entailment, Goal}
use Rattle.logics.specs.declared.Record.{Record}

-- one of the records is a link from a to b
pub record Link (rs : List Record) (a b : ℕ) : Type 0 where
  pub by : Record
  pub given : In by rs
  pub form : by.form ≡ 5
  pub from : by.a ≡ a
  pub to : by.b ≡ b

-- links lead from a to b, one after another
pub data Chain (rs : List Record) (a : ℕ) : ℕ → Type 0 where
  one : {b : ℕ} → Link rs a b → Chain rs a b
  more : {b c : ℕ} → Chain rs a b → Link rs b c → Chain rs a c

-- a is b, or a chain of links leads from a to b
abbrev pub Leads : List Record → Goal → Type 0
Leads rs g = (g.0 ≡ g.1) ⊎ Chain rs g.0 g.1

-- a record of a link between two of n points
pub record LinkRecord (n : ℕ) (r : Record) : Type 0 where
  pub form : r.form ≡ 5
  pub from : r.a < n
  pub to : r.b < n
  pub rest : r.c ≡ 0

-- how many points there may be
abbrev pub PointLimits : ℕ → Type 0
PointLimits n = (1 ≤ n) × (n ≤ 128)

-- the logic of links between n points
abbrev pub links : ℕ → Entailment
links n =
    record {
      TakesRecord = LinkRecord n;
      TakesGoal = λ g. (g.0 < n) × (g.1 < n);
      bytes = n;
      Follows = Leads;
    }
