-- How a logic lays a question out in its work area: each cell stands for a goal.
use Rattle.std.specs.Prelude.{◌≡◌, ℕ, ◌+◌, ◌*◌, ◌/◌, ◌%◌, ◌<◌, ◌≤◌, Bool, T, List, slice_index}
use Rattle.base.specs.Words.{Iff}
use Rattle.logics.specs.El.{el}
use Rattle.logics.specs.Entailment.{Each, Entailment, Goal}
use Rattle.logics.specs.Interpretation.{Entails}
use Rattle.logics.specs.Links.{links}
use Rattle.logics.specs.WorkArea.{Ticked, Settled, Sound, Ticking}
use Rattle.logics.specs.declared.Record.{Record}

-- a logic, with its layout of a question
pub record Plan : Type 1 where
  pub logic : Entailment
  -- the goal that cell k stands for, where g is asked
  pub stands : Goal → ℕ → Goal
  -- the cell of the goal
  pub place : Goal → ℕ
  -- the two cells that are ticked first (they may be one)
  pub firsts : Goal → ℕ × ℕ

module _ (p : Plan) where
  -- a cell may be ticked when its goal follows
  abbrev pub May : List Record → Goal → ℕ → Type 0
  May rs g k = p.logic.Follows rs (p.stands g k)

  -- the first cells are ticked
  abbrev pub Begun : Goal → List ℕ → Type 0
  Begun g cells = Ticked cells (p.firsts g).0 × Ticked cells (p.firsts g).1

  -- once begun, the goal's cell is ticked if the goal follows
  abbrev pub Complete : List Record → Goal → List ℕ → Type 0
  Complete rs g cells = Begun g cells → p.logic.Follows rs g → Ticked cells (p.place g)

  -- the answer to a goal is right
  abbrev pub Answered : List Record → Goal → Bool → Type 0
  Answered rs g answer = Iff (T answer) (p.logic.Follows rs g)

  -- no cell is ticked
  abbrev pub Blank : List ℕ → Type 0
  Blank cells = (k : ℕ) → k < p.logic.bytes → slice_index cells k ≡ 0

  -- if only cells were ticked that may be, then so it is
  abbrev pub KeptSound : List Record → Goal → List ℕ → List ℕ → Type 0
  KeptSound rs g before after = Sound p.logic.bytes (May rs g) before → Sound p.logic.bytes (May rs g) after

  -- what one round does to the cells
  abbrev pub Round : List Record → Goal → List ℕ → List ℕ → Bool → Type 0
  Round rs g = Ticking p.logic.bytes (May rs g) (Complete rs g)

  -- the cells of a goal that is taken lie in the area, and stand for what they should
  pub record Laid (g : Goal) : Type 0 where
    pub within : p.place g < p.logic.bytes
    pub same : p.stands g (p.place g) ≡ g
    pub first_within : (p.firsts g).0 < p.logic.bytes
    pub second_within : (p.firsts g).1 < p.logic.bytes
    pub first_may : (rs : List Record) → May rs g (p.firsts g).0
    pub second_may : (rs : List Record) → May rs g (p.firsts g).1

-- records that the logic takes, and room for its cells
pub record Ready (l : Entailment) (rs : List Record) (room : ℕ) : Type 0 where
  pub taken : Each l.TakesRecord rs
  pub wide : l.bytes ≤ room

-- links: where (a, b) is asked, cell k stands for (a, k)
abbrev pub links_plan : ℕ → Plan
links_plan n = record { logic = links n; stands = λ g k. (g.0, k); place = λ g. g.1; firsts = λ g. (g.0, g.0) }

-- el: the cell at row p.0 and column p.1
abbrev pub cell : ℕ → ℕ × ℕ → ℕ
cell n p = p.0 * n + p.1

-- a row and a column of n
abbrev pub InGrid : ℕ → ℕ × ℕ → Type 0
InGrid n p = (p.0 < n) × (p.1 < n)

-- the goal that cell k stands for follows
abbrev pub Entailed : ℕ → List Record → ℕ → Type 0
Entailed n rs k = Entails rs (k / n, k % n)

-- rules of el were tried on the cells; if no cell was ticked, then Done holds of them
abbrev pub Tried : ℕ → List Record → (List ℕ → Type 0) → List ℕ → List ℕ → Bool → Type 0
Tried n rs = Ticking (n * n) (Entailed n rs)

-- the cell at k is ticked if those at p and q are
abbrev pub SettledAt : ℕ → Goal → Goal → Goal → List ℕ → Type 0
SettledAt n p q k = Settled (cell n p) (cell n q) (cell n k)

-- the rule that k follows from p and q was tried
abbrev pub Derived : ℕ → Goal → Goal → Goal → List ℕ → List ℕ → Bool → Type 0
Derived n p q k before after changed =
    (rs : List Record) → (Entails rs p → Entails rs q → Entails rs k) → Tried n rs (SettledAt n p q k) before after changed

-- the cell at a row and a column stands for the goal of the two
abbrev pub el_plan : ℕ → ℕ → Plan
el_plan n roles =
    record {
      logic = el n roles;
      stands = λ _ k. (k / n, k % n);
      place = λ g. cell n g;
      firsts = λ g. (cell n (g.0, 0), cell n (g.0, g.0));
    }
