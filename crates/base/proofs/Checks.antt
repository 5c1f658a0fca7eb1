-- Checks in their order have one outcome.
use Rattle.std.proofs.Common.{◌≡◌, List, [], ◌∷◌, ◌++◌, sym, ◌∙◌, inl, inr}
use Rattle.base.specs.Checks.{FirstOf, NoneOf}

-- the first case that holds is one
pub first_unique : {F : Type 0} (cs : List (F × Type 0)) (f h : F) → FirstOf cs f → FirstOf cs h → f ≡ h
first_unique [] f h first other = absurd first
first_unique (c ∷ cs) f h (inl (_, is)) (inl (_, js)) = sym is ∙ js
first_unique (c ∷ cs) f h (inl (holds, _)) (inr (fails, _)) = absurd (fails holds)
first_unique (c ∷ cs) f h (inr (fails, _)) (inl (holds, _)) = absurd (fails holds)
first_unique (c ∷ cs) f h (inr (_, rest)) (inr (_, more)) = first_unique cs f h rest more

-- where no case holds, none is the first
pub none_first : {F : Type 0} (cs : List (F × Type 0)) (f : F) → NoneOf cs → FirstOf cs f → ⊥
none_first [] f none first = first
none_first (c ∷ cs) f (fails, none) (inl (holds, _)) = fails holds
none_first (c ∷ cs) f (fails, none) (inr (_, rest)) = none_first cs f none rest

-- the first of some cases is the first of these and more
pub first_more : {F : Type 0} (cs ds : List (F × Type 0)) (f : F) → FirstOf cs f → FirstOf (cs ++ ds) f
first_more [] ds f first = absurd first
first_more (c ∷ cs) ds f (inl here) = inl here
first_more (c ∷ cs) ds f (inr (fails, rest)) = inr (fails, first_more cs ds f rest)
