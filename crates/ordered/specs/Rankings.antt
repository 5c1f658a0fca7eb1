-- How an order comes to have the laws.
use Rattle.std.proofs.Common.{◌≡◌, ◌⊎◌, Ordering, Less, Equal, Greater, subst, inl, inr, ⊎_elim}
use Rattle.ordered.specs.Lists.{Ranking, Ranks, Level}

-- any two things rank in some way
abbrev pub AnyRank : {A : Type 0} → (A → A → Type 0) → Type 0
AnyRank {A} R = (a b : A) → (r : Ordering) × Ranks R a b r

-- where only what is one is level
module _ {A : Type 0} {R : A → A → Type 0} (total : (a b : A) → (a ≡ b) ⊎ (R a b ⊎ R b a)) where
  -- two that are level are one
  pub level_same : (a b : A) → Level R a b → a ≡ b
  level_same a b level = ⊎_elim (λ e. e) (⊎_elim (λ h. absurd (level.0 h)) (λ h. absurd (level.1 h))) (total a b)

  -- the laws of such an order
  pub total_ranking : ((a : A) → R a a → ⊥) → ((a b c : A) → R a b → R b c → R a c) → Ranking R
  total_ranking irreflexive transitive = record {
    irreflexive = irreflexive;
    transitive = transitive;
    splits = λ a b c h. ⊎_elim (λ e. inr (subst (λ (x : A). R x b) e h)) (⊎_elim inl (λ g. inr (transitive c a b g h))) (total a c);
  }

  -- and how any two rank in it
  pub total_ranks : ((a : A) → R a a → ⊥) → AnyRank R
  total_ranks irreflexive a b =
      elim (total a b) [ inl e ↦ (Equal, subst (Level R a) e (irreflexive a, irreflexive a)) | inr (inl h) ↦ (Less, h) | inr (inr h) ↦ (Greater, h) ]

-- things are ranked by a key of theirs
pub ranking_by : {A B : Type 0} {R : A → A → Type 0} (key : B → A) → Ranking R → Ranking (λ (a b : B). R (key a) (key b))
ranking_by key order = record {
  irreflexive = λ a. order.irreflexive (key a);
  transitive = λ a b c. order.transitive (key a) (key b) (key c);
  splits = λ a b c. order.splits (key a) (key b) (key c);
}

-- and so any two rank in some way
pub ranks_by : {A B : Type 0} {R : A → A → Type 0} (key : B → A) → AnyRank R → AnyRank (λ (a b : B). R (key a) (key b))
ranks_by key ranks a b = ranks (key a) (key b)
