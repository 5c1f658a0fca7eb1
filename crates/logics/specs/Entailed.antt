-- What follows in el, step by step, and the cells that stand for it.
use Rattle.std.specs.Prelude.{◌≡◌, ℕ, ◌*◌, ◌/◌, ◌%◌, ◌<◌, ◌≤◌, Bool, T, List, length, refl}
use Rattle.std.proofs.Common.{subst, arith}
use Rattle.std.proofs.Math.Arith.{digits_lt, digits_div, digits_mod}
use Rattle.std.specs.Bool.{MatchBool}
use Rattle.base.specs.Words.{In}
use Rattle.logics.specs.El.{el}
use Rattle.logics.specs.Plan.{Derived, Entailed, InGrid, Laid, SettledAt, cell, el_plan}
use Rattle.logics.specs.Entailment.{Goal}
use Rattle.logics.specs.Interpretation.{Entails}
use Rattle.logics.specs.WorkArea.{Ticked, Inferred, Sound}
use Rattle.logics.specs.declared.Record.{Record}
use Rattle.logics.specs.Ticks.{infer_one}

pub entails_more : (xs ys : List Record) → ((x : Record) → In x xs → In x ys) → (g : Goal) → Entails xs g → Entails ys g
entails_more xs ys sub g e i sat = e i (λ r given. sat r (sub r given))

pub cell_same : (n : ℕ) (g : Goal) → g.1 < n → ◌≡◌ {A = Goal} (cell n g / n, cell n g % n) g
cell_same n g lt = rw (digits_div g.0 lt, digits_mod g.0 lt) refl

module _ (rs : List Record) where
  pub entails_self : (c : ℕ) → Entails rs (c, c)
  entails_self c i sat y t = t

  pub entails_everything : (c : ℕ) → Entails rs (c, 0)
  entails_everything c i sat y t = i.everything y (i.concept_inside c y t)

  pub entails_lies : (r : Record) (x : ℕ) → In r rs → r.form ≡ 1 → Entails rs (x, r.a) → Entails rs (x, r.b)
  entails_lies r x given form e i sat y t = (sat r given y).lies form (e i sat y t)

  pub entails_both : (r : Record) (x : ℕ) → In r rs → r.form ≡ 2 → Entails rs (x, r.a) → Entails rs (x, r.b) → Entails rs (x, r.c)
  entails_both r x given form e f i sat y t = (sat r given y).both form (e i sat y t) (f i sat y t)

  pub entails_source : (r p : Record) (x : ℕ) → In r rs → r.form ≡ 4 → In p rs → p.form ≡ 3 → p.b ≡ r.a → Entails rs (x, p.a) → Entails rs (p.c, r.b) → Entails rs (x, r.c)
  entails_source r p x given form given' form' role e f i sat y t =
      let partner = (sat p given' y).partner form' (e i sat y t) in
      let z = partner.0 in
      (sat r given y).source form z (subst (λ (q : ℕ). T (i.role q y z)) role partner.1) (f i sat z partner.2)

  -- the cell of a goal, and back
  pub cell_may : (n : ℕ) (g : Goal) → g.1 < n → Entails rs g → Entailed n rs (cell n g)
  cell_may n g lt e = rw (digits_div g.0 lt, digits_mod g.0 lt) e

  pub cell_stands : (n : ℕ) (cells : List ℕ) → Sound (n * n) (Entailed n rs) cells → (g : Goal) → InGrid n g → Ticked cells (cell n g) → Entails rs g
  cell_stands n cells all g inside t =
      let e = all (cell n g) (digits_lt inside.0 inside.1) t in
      rw (digits_div g.0 inside.1, digits_mod g.0 inside.1) at e

-- a goal that follows from two others is ticked once they are
pub derive_one : (n : ℕ) (p q k : Goal) {before after : List ℕ} {changed : Bool} → InGrid n p → InGrid n q → InGrid n k → n * n ≤ length before → MatchBool changed (Inferred (cell n p) (cell n q) (cell n k) before after) (SettledAt n p q k before × (after ≡ before)) → Derived n p q k before after changed
derive_one n p q k {before} p_in q_in k_in wide done rs step =
    infer_one _ _ _ _ _ _ (digits_lt k_in.0 k_in.1) wide
    (λ all s t. cell_may rs n k k_in.1 (step (cell_stands rs n before all p p_in s) (cell_stands rs n before all q q_in t))) done

-- the cells of a goal that el takes
pub el_laid : (n roles : ℕ) (g : Goal) → (el n roles).TakesGoal g → Laid (el_plan n roles) g
el_laid n roles g taken =
    let top : 0 < n = omega (arith, taken.0) in
    record {
      within = digits_lt taken.0 taken.1;
      same = cell_same n g taken.1;
      first_within = digits_lt taken.0 top;
      second_within = digits_lt taken.0 taken.0;
      first_may = λ rs. cell_may rs n (g.0, 0) top (entails_everything rs g.0);
      second_may = λ rs. cell_may rs n (g.0, g.0) taken.0 (entails_self rs g.0);
    }
