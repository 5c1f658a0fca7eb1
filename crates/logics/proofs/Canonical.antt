-- The interpretation that the cells of a work area draw: what the records say of a row, once nothing is left to tick there.
use Rattle.std.proofs.Common.{◌≡◌, ℕ, ◌<◌, Bool, true, false, ◌||◌, T, List, [], ◌∷◌, sym, refl, subst, inl, inr, arith}
use native.Mathlib.Decide.{dec_lt}
use Rattle.std.specs.List.{list_any}
use Rattle.std.proofs.Math.Facts.{and_yes, yes_and}
use Rattle.base.specs.Words.{Iff, In}
use Rattle.base.proofs.Tests.{eqb_iff, ltb_iff}
use Rattle.logics.specs.Drawing.{row, drawn_concept, pairs, drawn_role, DrawnAt, AllDrawn}
use Rattle.logics.specs.Plan.{SettledAt, cell}
use Rattle.logics.specs.Entailment.{Each, Goal}
use Rattle.logics.specs.Interpretation.{Interpretation, Satisfies, Entails}
use Rattle.logics.specs.WorkArea.{Ticked}
use Rattle.logics.specs.declared.Record.{Record}

-- some record passes a test
some : (test : Record → Bool) (rs : List Record) → Iff (T (list_any test rs)) ((r : Record) × In r rs × T (test r))
some test [] = (λ t. absurd t, λ p. absurd p.1)
some test (x ∷ xs) = first_or_later (test x) refl (some test xs)
  where
    first_or_later : (b : Bool) → test x ≡ b → Iff (T (list_any test xs)) ((r : Record) × In r xs × T (test r)) → Iff (T (b || list_any test xs)) ((r : Record) × In r (x ∷ xs) × T (test r))
    first_or_later true passes rest = (λ _. (x, inl refl, rw passes tt), λ _. tt)
    first_or_later false fails rest = (λ t. let (r, i, h) = rest.0 t in (r, inr i, h), λ p. elim p.1 [ inl e ↦ absurd (rw (e, fails) at p.2) | inr i ↦ rest.1 (p.0, i, p.2) ])

-- what a record r of form 4 asks of the row of x, given one of form 3
abbrev pub Pulled : ℕ → ℕ → Record → Record → List ℕ → Type 0
Pulled n x r p cells =
    p.form ≡ 3 → p.b ≡ r.a → SettledAt n (x, p.a) (p.c, r.b) (x, r.c) cells

module _ (n : ℕ) (cells : List ℕ) where
  pub row_drawn : (x : ℕ) → x < n → Ticked cells (cell n (x, 0)) → T (row n cells x)
  row_drawn x lt t = yes_and _ _ ((ltb_iff x n).1 lt) ((ltb_iff 0 _).1 t)

  pub concept_drawn : (c x : ℕ) → T (row n cells x) → Ticked cells (cell n (x, c)) → T (drawn_concept n cells c x)
  concept_drawn c x r t = yes_and _ _ r ((ltb_iff 0 _).1 t)

  pub drawn_row : (c x : ℕ) → T (drawn_concept n cells c x) → T (row n cells x)
  drawn_row c x t = (and_yes _ _ t).0

  pub drawn_ticked : (c x : ℕ) → T (drawn_concept n cells c x) → Ticked cells (cell n (x, c))
  drawn_ticked c x t = (ltb_iff 0 _).0 (and_yes _ _ t).1

  paired : (role x y : ℕ) (r : Record) → Iff (T (pairs n cells role x y r)) ((r.form ≡ 3) × (r.b ≡ role) × (r.c ≡ y) × Ticked cells (cell n (x, r.a)))
  paired role x y r = (
    λ t.
        let form = and_yes _ _ t in
        let by = and_yes _ _ form.1 in
        let to = and_yes _ _ by.1 in
        ((eqb_iff _ _).0 form.0, (eqb_iff _ _).0 by.0, (eqb_iff _ _).0 to.0, (ltb_iff 0 _).0 to.1),
    λ p. yes_and _ _ ((eqb_iff _ _).1 p.0) (yes_and _ _ ((eqb_iff _ _).1 p.1) (yes_and _ _ ((eqb_iff _ _).1 p.2) ((ltb_iff 0 _).1 p.3))),
  )

  module _ (rs : List Record) (x : ℕ) (r : Record) where
    -- a row that is not reached
    pub blank_drawn : (T (row n cells x) → ⊥) → DrawnAt n rs x r cells
    blank_drawn never =
        record {
          lies = λ _ t. absurd (never (drawn_row _ x t));
          both = λ _ t _. absurd (never (drawn_row _ x t));
          partner = λ _ t. absurd (never (drawn_row _ x t));
          source = λ _ y t _. absurd (never (and_yes _ _ t).0);
        }

    pub lies_drawn : r.form ≡ 1 → SettledAt n (x, r.a) (x, r.a) (x, r.b) cells → DrawnAt n rs x r cells
    lies_drawn form settled =
        record {
          lies = λ _ t. let a = drawn_ticked r.a x t in concept_drawn r.b x (drawn_row r.a x t) (settled a a);
          both = λ f. absurd (omega arith);
          partner = λ f. absurd (omega arith);
          source = λ f. absurd (omega arith);
        }

    pub both_drawn : r.form ≡ 2 → SettledAt n (x, r.a) (x, r.b) (x, r.c) cells → DrawnAt n rs x r cells
    both_drawn form settled =
        record {
          lies = λ f. absurd (omega arith);
          both = λ _ s t. concept_drawn r.c x (drawn_row r.a x s) (settled (drawn_ticked r.a x s) (drawn_ticked r.b x t));
          partner = λ f. absurd (omega arith);
          source = λ f. absurd (omega arith);
        }

    pub partner_drawn : r.form ≡ 3 → In r rs → r.c < n → SettledAt n (x, r.a) (x, r.a) (r.c, 0) cells → SettledAt n (x, r.a) (x, r.a) (r.c, r.c) cells → DrawnAt n rs x r cells
    partner_drawn form given lt top own =
        record {
          lies = λ f. absurd (omega arith);
          both = λ f. absurd (omega arith);
          partner = λ _ t.
              let a = drawn_ticked r.a x t in
              let there = row_drawn r.c lt (top a a) in
              (r.c, yes_and _ _ (drawn_row r.a x t) (yes_and _ _ there ((some _ rs).1 (r, given, (paired r.b x r.c r).1 (form, refl, refl, a)))), concept_drawn r.c r.c there (own a a));
          source = λ f. absurd (omega arith);
        }

    pub source_drawn : r.form ≡ 4 → Each (λ p. Pulled n x r p cells) rs → DrawnAt n rs x r cells
    source_drawn form all =
        record {
          lies = λ f. absurd (omega arith);
          both = λ f. absurd (omega arith);
          partner = λ f. absurd (omega arith);
          source = λ _ y t u.
              let here = and_yes _ _ t in
              let (p, given, is) = (some _ rs).0 (and_yes _ _ here.1).1 in
              let (three, role, to, has) = (paired r.a x y p).0 is in
              let there = subst (λ (z : ℕ). Ticked cells (cell n (z, r.b))) (sym to) (drawn_ticked r.b y u) in
              concept_drawn r.c x here.0 (all p given three role has there);
        }

  -- where each record holds at each row, what follows is ticked
  pub complete : (rs : List Record) (g : Goal) → g.0 < n → Ticked cells (cell n (g.0, 0)) → Ticked cells (cell n (g.0, g.0)) → ((y : ℕ) → y < n → AllDrawn n rs y cells) → Entails rs g → Ticked cells (cell n g)
  complete rs g lt top own all follows =
      let here = row_drawn g.0 lt top in
      let drawing : Interpretation = record {
        domain = row n cells;
        element = (g.0, here);
        concept = drawn_concept n cells;
        role = drawn_role n cells rs;
        concept_inside = drawn_row;
        role_inside = λ r x y t. ((and_yes _ _ t).0, (and_yes _ _ (and_yes _ _ t).1).0);
        everything = λ x t. yes_and _ _ t (and_yes _ _ t).1;
      } in
      let satisfied : (r : Record) → In r rs → Satisfies drawing r = λ r given x. elim (dec_lt x n) [ yes inside ↦ all x inside r given | no out ↦ blank_drawn rs x r (λ t. absurd (out ((ltb_iff x n).0 (and_yes _ _ t).0))) ] in
      drawn_ticked g.1 g.0 (follows drawing satisfied g.0 (concept_drawn g.0 g.0 here own))
