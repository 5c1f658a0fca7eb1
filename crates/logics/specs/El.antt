-- Which records and goals el takes, and its limits.
use Rattle.std.specs.Prelude.{◌≡◌, ℕ, ◌*◌, ◌<◌, ◌≤◌, ◌⊎◌}
use Rattle.logics.specs.Entailment.{Entailment}
use Rattle.logics.specs.Interpretation.{Entails}
use Rattle.logics.specs.declared.Record.{Record}

-- a record of one of the four forms, with concepts below n and roles below the number of roles
pub record ElRecord (n roles : ℕ) (r : Record) : Type 0 where
  pub known : (r.form ≡ 1) ⊎ ((r.form ≡ 2) ⊎ ((r.form ≡ 3) ⊎ (r.form ≡ 4)))
  pub lies : r.form ≡ 1 → (r.a < n) × (r.b < n) × (r.c ≡ 0)
  pub both : r.form ≡ 2 → (r.a < n) × (r.b < n) × (r.c < n)
  pub partner : r.form ≡ 3 → (r.a < n) × (r.b < roles) × (r.c < n)
  pub source : r.form ≡ 4 → (r.a < roles) × (r.b < n) × (r.c < n)

-- how many concepts and roles there may be
abbrev pub ElLimits : ℕ → ℕ → Type 0
ElLimits n roles = (1 ≤ n) × (n ≤ 128) × (roles ≤ 32)

-- the logic of n concepts and some roles
abbrev pub el : ℕ → ℕ → Entailment
el n roles =
    record {
      TakesRecord = ElRecord n roles;
      TakesGoal = λ g. (g.0 < n) × (g.1 < n);
      bytes = n * n;
      Follows = Entails;
    }
