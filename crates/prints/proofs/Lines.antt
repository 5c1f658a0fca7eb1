-- How lists of numbers and of axioms grow at their end.
use Rattle.std.proofs.Common.{◌≡◌, ℕ, ◌+◌, ◌/◌, ◌%◌, ◌^◌, cond, eqb, List, [], ◌∷◌, ◌++◌, refl, ap, append_assoc, add-one, arith}
use Rattle.prints.specs.Print.{numbers, upto}

pub numbers_append : (xs ys : List ℕ) → numbers (xs ++ ys) ≡ numbers xs ++ numbers ys
numbers_append [] ys = refl
numbers_append (x ∷ xs) ys = grind (arith, append_assoc, numbers_append xs ys)

-- the axioms among one place more
pub upto_more : (s n : ℕ) → upto s (n + 1) ≡ upto s n ++ cond (eqb ((s / 2 ^ n) % 2) 1) ((n + 1) ∷ []) []
unfolding upto
upto_more s n = ap (upto s) (add-one n)
