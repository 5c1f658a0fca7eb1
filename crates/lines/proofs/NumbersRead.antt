-- Reading numbers field by field.
use Rattle.std.proofs.Common.{◌≡◌, ℕ, zero, suc, ◌+◌, ◌-◌, ◌^◌, ◌<◌, ◌≤◌, ◌⊎◌, List, [], ◌∷◌, ◌++◌, map, length, take, drop, set, replicate, decimal, sym, refl, ap, ◌∙◌, subst, inl, inr, arith, rules, length-append, length-set, drop-set-lt}
use Rattle.std.proofs.lemmas.Grind.{common_steps}
use mathlib.Core.List.{map-append}
use Rattle.std.proofs.lemmas.List.{take_more_set, drop-drop, drop-replicate}
use Rattle.base.specs.Words.{In}
use Rattle.lines.specs.Reading.{Parted, Numbered}
use Rattle.lines.proofs.Fields.{in_middle}

-- the first i fields are read, and the others are still to come
pub record SoFar (parts : List (List ℕ)) (rest : List ℕ) (i : ℕ) (numbers : List ℕ) : Type 0 where
  pub done : List (List ℕ)
  pub todo : List (List ℕ)
  pub all : parts ≡ done ++ todo
  pub left : Parted rest todo
  pub count : length done ≡ i
  pub read : done ≡ map decimal (take i numbers)
  pub four : length numbers ≡ 4
  pub small : (n : ℕ) → In n numbers → n < 2 ^ 32
  pub zeros : drop i numbers ≡ replicate (4 - i) 0

nothing : {A : Type 0} (xs : List A) → length xs ≡ 0 → xs ≡ []
nothing [] e = refl
nothing (x ∷ xs) e = absurd (omega arith)

in_set : (xs : List ℕ) (i y n : ℕ) → In n (set xs i y) → (n ≡ y) ⊎ In n xs
in_set [] i y n h = inr h
in_set (x ∷ xs) zero y n h = search rules
in_set (x ∷ xs) (suc i) y n h = search (rules, in_set xs i y n)

pub so_far_more : (parts : List (List ℕ)) (rest : List ℕ) (i : ℕ) (numbers : List ℕ) (s : SoFar parts rest i numbers) → (f : List ℕ) (others : List (List ℕ)) → s.todo ≡ f ∷ others
    → (n : ℕ) → n < 2 ^ 32 → f ≡ decimal n → i < 4 → (after : List ℕ) → Parted after others → SoFar parts after (i + 1) (set numbers i n)
so_far_more parts rest i numbers s f others is n small e lt after p =
    let within : i < length numbers = omega (arith, s.four) in
    let fewer : 4 - (i + 1) ≡ 4 - i - 1 = omega arith in
    record {
      done = s.done ++ (f ∷ []);
      todo = others;
      all = grind (arith, common_steps, s.all);
      left = p;
      count = grind (arith, common_steps, s.count);
      read = grind (arith, common_steps, s.read, map-append decimal (take i numbers) (n ∷ []), take_more_set numbers i n within);
      four = length-set numbers i n ∙ s.four;
      small = λ m h. elim (in_set numbers i n m h) [ inl same ↦ omega (arith, same) | inr old ↦ s.small m old ];
      zeros = grind (arith, common_steps, drop-set-lt, drop-drop, drop-replicate, s.zeros);
    }

pub so_far_all : (parts : List (List ℕ)) (rest : List ℕ) (i : ℕ) (numbers : List ℕ) (s : SoFar parts rest i numbers) → length parts ≤ i → Numbered parts numbers
so_far_all parts rest i numbers s few =
    let none : s.todo ≡ [] = nothing s.todo (omega (arith, ap length s.all, length-append s.done s.todo, s.count)) in
    record { four = s.four; small = s.small; read = grind (arith, common_steps, s.all, s.count, s.read); rest = grind (arith, common_steps, s.all, s.count, s.zeros) }

pub in_todo : (parts : List (List ℕ)) (rest : List ℕ) (i : ℕ) (numbers : List ℕ) (s : SoFar parts rest i numbers) → (f : List ℕ) (others : List (List ℕ)) → s.todo ≡ f ∷ others → In f parts
in_todo parts rest i numbers s f others is = subst (In f) (sym (s.all ∙ ap (λ (l : List (List ℕ)). s.done ++ l) is)) (in_middle f s.done others)
