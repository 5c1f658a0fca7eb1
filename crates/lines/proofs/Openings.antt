-- No form's opening begins another's, and no form has many numbers.
use Rattle.std.proofs.Common.{◌≡◌, ℕ, ◌≤◌, cond, eqb, List, [], ◌∷◌, ◌++◌, get_or, sym, ap, ◌∙◌, arith}
use Rattle.lines.specs.declared.form.Form.{Form}
use Rattle.lines.specs.declared.form.Form.TheVariants.{Kind, Pair, Logic, Axiom, User, Goal}
use Rattle.lines.specs.declared.form.KindForm.TheVariants.{Chain, Sets, House, Table}
use Rattle.lines.specs.declared.form.LogicForm.TheVariants.{El, Links}
use Rattle.logics.specs.declared.form.Form.TheVariants.{Lies, Both, Partner, Source, Link}
use Rattle.lines.specs.Forms.{opening, arity}

-- the first of the cases whose number it is
abbrev pick : Form → List (ℕ × Form) → ℕ → Form
pick other [] n = other
pick other (c ∷ cs) n = cond (eqb n c.0) c.1 (pick other cs n)

-- the letters other than K, each with its form; of G the second letter of its word tells the logic
abbrev letters : ℕ → List (ℕ × Form)
letters n =
    (79, Pair) ∷ (71, pick (Logic Links) ((101, Logic El) ∷ []) n) ∷ (83, Axiom Lies) ∷ (67, Axiom Both) ∷ (69, Axiom Partner) ∷ (82, Axiom Source) ∷ (84, Axiom Link) ∷ (85, User) ∷ (81, Goal) ∷ []

-- a form by its first letter, and the letter at which the words part
abbrev told : List ℕ → Form
told bs = pick (pick (Kind Table) ((99, Kind Chain) ∷ (115, Kind Sets) ∷ (104, Kind House) ∷ []) (get_or bs 2 0)) (letters (get_or bs 2 0)) (get_or bs 0 0)

told_opening : (f : Form) (rest : List ℕ) → told (opening f ++ rest) ≡ f
told_opening f rest = grind arith

pub same_opening : (f g : Form) (xs ys : List ℕ) → opening f ++ xs ≡ opening g ++ ys → f ≡ g
same_opening f g xs ys e = sym (told_opening f xs) ∙ ap told e ∙ told_opening g ys

-- only a pair begins with the letter O
pub pair_opening : (f : Form) (rest : List ℕ) → get_or (opening f ++ rest) 0 0 ≡ 79 → f ≡ Pair
pair_opening f rest first =
    let bs = opening f ++ rest in
    sym (told_opening f rest) ∙ ap (pick (pick (Kind Table) ((99, Kind Chain) ∷ (115, Kind Sets) ∷ (104, Kind House) ∷ []) (get_or bs 2 0)) (letters (get_or bs 2 0))) first

-- no form has more than four numbers
pub few_numbers : (f : Form) → arity f ≤ 4
few_numbers f = search (arith)
