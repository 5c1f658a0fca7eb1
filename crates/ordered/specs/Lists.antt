-- Lists in an order, and where a thing belongs in one.
use Rattle.std.specs.Prelude.{ℕ, ◌+◌, ◌<◌, ◌≤◌, ◌⊎◌, List, [], ◌∷◌, ◌++◌, length, take, drop, slice_index_or}
use Rattle.std.specs.List.{insert}
use Rattle.std.specs.declared.cmp.Ordering.{Ordering}
use Rattle.std.specs.declared.cmp.Ordering.TheVariants.{Less, Equal, Greater}

-- each comes before the next, under any relation
abbrev pub Ascending : {A : Type 0} → (A → A → Type 0) → List A → Type 0
Ascending R [] = Unit {0}
Ascending R (s ∷ []) = Unit {0}
Ascending R (s ∷ t ∷ ts) = R s t × Ascending R (t ∷ ts)

-- neither of two comes before the other
abbrev pub Level : {A : Type 0} → (A → A → Type 0) → A → A → Type 0
Level R a b = (R a b → ⊥) × (R b a → ⊥)

-- how a ranks against b: it comes before b, or neither comes before the other, or b comes before it
abbrev pub Ranks : {A : Type 0} → (A → A → Type 0) → A → A → Ordering → Type 0
Ranks R a b Less = R a b
Ranks R a b Equal = Level R a b
Ranks R a b Greater = R b a

-- the laws of an order, in which two different things may be level
pub record Ranking {A : Type 0} (Before : A → A → Type 0) : Type 0 where
  pub irreflexive : (a : A) → Before a a → ⊥
  pub transitive : (a b c : A) → Before a b → Before b c → Before a c
  pub splits : (a b c : A) → Before a b → Before a c ⊎ Before c b

-- the entries below place p come before x
abbrev pub FirstOnes : {A : Type 0} → (A → A → Type 0) → List A → A → ℕ → Type 0
FirstOnes {A} R xs x p = (k : ℕ) (d : A) → k < p → R (slice_index_or xs k d) x

-- x comes before the entries from place p on
abbrev pub LaterOnes : {A : Type 0} → (A → A → Type 0) → List A → A → ℕ → Type 0
LaterOnes {A} R xs x p = (k : ℕ) (d : A) → p ≤ k → k < length xs → R x (slice_index_or xs k d)

-- x belongs in the gap at place p
abbrev pub Gap : {A : Type 0} → (A → A → Type 0) → List A → A → ℕ → Type 0
Gap R xs x p = FirstOnes R xs x p × LaterOnes R xs x p

-- x put in at `place` among the first `count` entries, over the entry at `count`
abbrev pub opened : {A : Type 0} → List A → ℕ → ℕ → A → List A
opened xs count place x = insert (take count xs) place x ++ drop (count + 1) xs
